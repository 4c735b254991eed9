-- No new dependence (000, lemma 4.1): a bracket (c, d) that is dependent after a reduction was dependent before it.
-- A column that gains a member lies under a stair that starts before c and ends by d; then (a, d) would be dependent, against the choice of (a, b).
-- So the brackets of a run are dependent from the start, and a minimal bracket stays minimal as long as it stays dependent.
use mathlib.Core.Logic.{by_cases}
use Prim.Native.Nat.{ℕ, suc, ◌≤◌, ◌<◌}
use native.Mathlib.Decide.{dec_le, dec_lt}
use native.Mathlib.Omega.{arith}
use Rattle.method.proofs.Sets.{Set, N, Dep, Prefix, e, red}
use Rattle.method.proofs.Boxes.{K-rows, K-lines}
use Rattle.method.proofs.Staircase.{e-low, e-within, e-clear, e-reach, dep_cut}
use Rattle.method.proofs.Star.{star_gains}

module _ {S : Set} {a b : ℕ} (P : Prefix S a b) (c d : ℕ) (D : Dep (red S a b) c d) where
  -- where the stair that starts before c ends within (c, d), each column from a to d is held twice
  shorter : a < c → e S a b c ≤ d → d < b → (y : ℕ) → a ≤ y → y < d → 2 ≤ N S y a d
  shorter low ends high y from upto =
      by_cases (dec_lt y c) (λ h. dep_cut S a b P.dep c d ends (omega arith) y from h upto)
      (λ h. let r = K-rows S a c (suc y) y d (omega arith) (omega arith) in
      let twice = D.twice y (omega arith) upto in
      by_cases (dec_le 2 (N S y c d)) (λ k. omega arith)
      (λ k. let g = star_gains P c (suc y) y d (omega arith) (omega arith) in
      omega (arith, e-reach S a b (omega arith) c y from g.0, e-clear S a b c d ends, K-lines S a c y d b (omega arith) (omega arith))))

  pub red_no_new : Dep S c d
  red_no_new =
      record {
        proper = D.proper;
        twice = λ x low high. by_cases (dec_le 2 (N S x c d)) (λ h. h) (λ h.
            let twice = D.twice x low high in
            let g = star_gains P c (suc x) x d (omega arith) (omega arith) in
            let inside : d < b = omega (arith, e-within S a b (omega (arith, P.dep.proper)) (suc x)) in
            by_cases (dec_lt a c)
            (λ k. absurd (P.shortest d (omega arith) inside (record { proper = omega arith; twice = shorter k g.1 inside })))
            (λ k. let z = e-low S a b c (omega arith) in absurd (omega (arith, e-low S a b (suc x) (omega arith)))));
      }
