-- The reduced set still makes every interval of the set, column by column, of intervals that lie inside it.
-- STAR on the box of those intervals; where the staircase would take the only one, the bracket gives two.
-- So a cover made of the final set covers all that the slices cover.
use mathlib.Core.Bool.{true}
use mathlib.Core.Logic.{by_cases}
use mathlib.Core.Path.{◌≡◌, ◌∙◌}
use Prim.Native.Nat.{ℕ, suc, ◌≤◌, ◌<◌}
use native.Mathlib.Decide.{dec_lt}
use native.Mathlib.Omega.{arith}
use Rattle.method.proofs.Sets.{Set, K, Prefix, red}
use Rattle.method.proofs.Boxes.{K-rows, K-lines, K-empty, K-has}
use Rattle.method.proofs.Staircase.{e-clear}
use Rattle.method.proofs.Star.{red-before, red-beyond, star_loses}

module _ {S : Set} {a b : ℕ} (P : Prefix S a b) (l r x : ℕ) (m : S l r ≡ true) (low : l ≤ x) (high : x < r) where
  inside : a ≤ l → r ≤ b → 1 ≤ K (red S a b) l (suc x) x r
  inside from upto =
      by_cases (dec_lt (K (red S a b) l (suc x) x r) (K S l (suc x) x r))
      (λ h. let t = star_loses P l (suc x) x r (omega arith) h in
      omega (
        arith,
        P.dep.twice x (omega arith) (omega arith),
        K-rows S a l (suc x) x b from (omega arith),
        e-clear S a b l x t.0,
        K-lines S l (suc x) x r b (omega arith) upto,
        K-empty S l (suc x) r b a (suc x) r b (e-clear S a b (suc x) r t.2) (omega arith),
      ))
      (λ h. omega (arith, K-has S l r l (suc x) x r m (omega arith)))

  pub red_generates : 1 ≤ K (red S a b) l (suc x) x r
  red_generates =
      by_cases (dec_lt l a) (λ h. K-has (red S a b) l r l (suc x) x r (red-before S a b l r h ∙ m) (omega arith))
      (λ h. by_cases (dec_lt b r) (λ k. K-has (red S a b) l r l (suc x) x r (red-beyond S a b l r k ∙ m) (omega arith))
      (λ k. inside (omega arith) (omega arith)))
