-- Two different minimal brackets do not disturb each other (000, lemma 4.2): after one is reduced the other is still minimal.
-- Where a column of (c, d) would be left with one member, the part that the two brackets share is dependent, and neither is minimal.
-- So a run may take its minimal brackets in any order.
use mathlib.Core.Logic.{by_cases, ◌⊎◌, inl, inr, ⊎_elim}
use mathlib.Core.Path.{◌≡◌}
use Prim.Native.Nat.{ℕ, suc, ◌≤◌, ◌<◌}
use native.Mathlib.Decide.{dec_le, dec_lt}
use native.Mathlib.Omega.{arith}
use Rattle.method.proofs.Sets.{Set, K, N, Dep, Prefix, Minimal, e, red}
use Rattle.method.proofs.Boxes.{K-rows, K-lines, K-empty}
use Rattle.method.proofs.Staircase.{e-from, e-within, e-clear, dep_cut}
use Rattle.method.proofs.Star.{star_loses}
use Rattle.method.proofs.NoNew.{red_no_new}

abbrev pub minimal_prefix : {S : Set} {a b : ℕ} → Minimal S a b → Prefix S a b
minimal_prefix {S} {a} {b} M =
    record { dep = M.dep; shortest = λ q low high D. let t = M.smallest a q (omega arith) (omega arith) D in omega arith }

-- a column x of both brackets that (c, d) holds no more than twice
module _ {S : Set} {a b c d : ℕ} (D : Dep S a b) (E : Dep S c d) (x : ℕ) (two : N S x c d ≤ 2) where
  -- (c, d) the later one: if no row before c reaches beyond x, the shared part (c, b) holds both members over x
  shared-later : a < c → b < d → c ≤ x → x < b → e S a b c ≤ x → Dep S c b
  shared-later left right low high clear =
      let before : K S a c x b ≡ 0 = e-clear S a b c x clear in
      let after : K S c (suc x) b d ≡ 0 =
      omega (
        arith,
        D.twice x (omega arith) high,
        K-rows S a c (suc x) x b (omega arith) (omega arith),
        K-lines S c (suc x) x b d (omega arith) (omega arith),
      ) in
      record {
        proper = omega arith;
        twice = λ y u v. by_cases (dec_le y x)
            (λ k. omega (
              arith,
              E.twice y u (omega arith),
              K-lines S c (suc y) y b d (omega arith) (omega arith),
              K-empty S c (suc y) b d c (suc x) b d after (omega arith),
            ))
            (λ k. omega (
              arith,
              D.twice y (omega arith) v,
              K-rows S a c (suc y) y b (omega arith) (omega arith),
              K-empty S a c y b a c x b before (omega arith),
            ));
      }

  -- (c, d) the earlier one: if no row up to x reaches beyond d, the shared part (a, d) holds both members over x
  shared-earlier : c < a → d < b → a ≤ x → x < d → e S a b (suc x) ≤ d → Dep S a d
  shared-earlier left right low high clear =
      let before : K S c a x d ≡ 0 =
      omega (
        arith,
        D.twice x low (omega arith),
        e-clear S a b (suc x) d clear,
        K-lines S a (suc x) x d b (omega arith) (omega arith),
        K-rows S c a (suc x) x d (omega arith) (omega arith),
      ) in
      record {
        proper = omega arith;
        twice = λ y u v. by_cases (dec_le y x) (λ k. dep_cut S a b D (suc x) d clear (omega arith) y u (omega arith) v)
            (λ k. omega (
              arith,
              E.twice y (omega arith) v,
              K-rows S c a (suc y) y d (omega arith) (omega arith),
              K-empty S c a y d c a x d before (omega arith),
            ));
      }

module _ {S : Set} {a b c d : ℕ} (M : Minimal S a b) (O : Minimal S c d) (apart : (a ≡ c) × (b ≡ d) → ⊥) where
  -- of two different minimal brackets one starts earlier and ends earlier
  pub crossing : ((a < c) × (b < d)) ⊎ ((c < a) × (d < b))
  crossing =
      by_cases (dec_le b d)
      (λ h. by_cases (dec_le c a) (λ k. absurd (apart (O.smallest a b k h M.dep)))
      (λ k. by_cases (dec_lt b d) (λ z. inl (omega arith, z))
      (λ z. let t = M.smallest c d (omega arith) (omega arith) O.dep in absurd (omega arith))))
      (λ h. by_cases (dec_lt c a) (λ k. inr (k, omega arith))
      (λ k. let t = M.smallest c d (omega arith) (omega arith) O.dep in absurd (omega arith)))

  -- a column that lost a member would make the shared part dependent
  kept : (x : ℕ) → c ≤ x → x < d → 2 ≤ N (red S a b) x c d
  kept x low high =
      by_cases (dec_le 2 (N (red S a b) x c d)) (λ h. h)
      (λ h. let two = O.dep.twice x low high in
      let t = star_loses (minimal_prefix M) c (suc x) x d (omega arith) (omega arith) in
      let from : a ≤ x = omega (arith, e-from S a b c) in
      let upto : x < b = omega (arith, e-within S a b (omega (arith, M.dep.proper)) (suc x)) in
      ⊎_elim
      (λ s. let D = shared-later M.dep O.dep x (omega arith) s.0 s.1 low upto t.0 in
      let m = O.smallest c b (omega arith) (omega arith) D in
      omega arith)
      (λ s. let D = shared-earlier M.dep O.dep x (omega arith) s.0 s.1 from high t.2 in
      let m = M.smallest a d (omega arith) (omega arith) D in
      omega arith)
      crossing)

  pub red-keeps_dep : Dep (red S a b) c d
  red-keeps_dep = record { proper = O.dep.proper; twice = kept }

  pub red-keeps-minimal : Minimal (red S a b) c d
  red-keeps-minimal =
      record { dep = red-keeps_dep; smallest = λ p q low high D. O.smallest p q low high (red_no_new (minimal_prefix M) p q D) }
