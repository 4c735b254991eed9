-- A reduction takes exactly one from the size of a set, and exactly one from the count of each column of the bracket.
-- STAR over all rows: the staircase starts at a and ends at b, and everywhere in between it runs ahead of its row.
-- So every run ends after the same number of steps, and a column's count tells how many brackets on the way held it.
use mathlib.Core.Logic.{by_cases}
use mathlib.Core.Path.{◌≡◌}
use Prim.Native.Nat.{ℕ, suc, ◌+◌, ◌≤◌, ◌<◌}
use native.Mathlib.Decide.{dec_lt}
use native.Mathlib.Omega.{arith}
use Rattle.method.proofs.Sets.{Set, K, N, Prefix, e, red}
use Rattle.method.proofs.Boxes.{K-lines, K-same}
use Rattle.method.proofs.Staircase.{e-low, e-within, e-over, e-end}
use Rattle.method.proofs.Star.{beyond_yes, beyond_no, red-before, red-beyond, red_improper, star}

module _ {S : Set} {a b : ℕ} (P : Prefix S a b) (n : ℕ) (fits : b ≤ n) where
  pub red_size : K (red S a b) 0 n 0 n + 1 ≡ K S 0 n 0 n
  red_size =
      let proper : a < b = P.dep.proper in
      let start : e S a b 0 ≡ a = e-low S a b 0 (omega arith) in
      let end : e S a b n ≡ b = e-end S a b P.dep n fits in
      omega (
        arith,
        K-lines (red S a b) 0 n 0 a n (omega arith) (omega arith),
        K-lines S 0 n 0 a n (omega arith) (omega arith),
        K-same (red S a b) S 0 n 0 a
            (λ l r i. by_cases (dec_lt l a) (red-before S a b l r) (λ h. red_improper S a b l r P.dep (omega arith))),
        star P 0 n a n (omega arith),
        beyond_no (e S a b 0) a (omega arith),
        beyond_no (e S a b 0) n (omega arith),
        beyond_yes (e S a b n) a (omega arith),
        beyond_no (e S a b n) n (omega arith),
      )

  pub red-column : (x : ℕ) → a ≤ x → x < b → N (red S a b) x 0 n + 1 ≡ N S x 0 n
  red-column x low high =
      let start : e S a b 0 ≡ a = e-low S a b 0 (omega arith) in
      let under : e S a b (suc x) ≤ b = e-within S a b (omega arith) (suc x) in
      omega (
        arith,
        star P 0 (suc x) x n (omega arith),
        beyond_no (e S a b 0) x (omega arith),
        beyond_no (e S a b 0) n (omega arith),
        beyond_yes (e S a b (suc x)) x (e-over S a b P.dep x low high),
        beyond_no (e S a b (suc x)) n (omega arith),
      )

-- a column outside the bracket keeps its count
module _ (S : Set) (a b n x : ℕ) where
  pub red-column-before : x < a → N (red S a b) x 0 n ≡ N S x 0 n
  red-column-before h = K-same (red S a b) S 0 (suc x) x n (λ l r i. red-before S a b l r (omega arith))

  pub red-column-after : b ≤ x → N (red S a b) x 0 n ≡ N S x 0 n
  red-column-after h = K-same (red S a b) S 0 (suc x) x n (λ l r i. red-beyond S a b l r (omega arith))
