-- Where no dependent bracket ends before line b, the shortest one that ends at b is rule 5's bracket, and without one none ends before line b + 1.
-- It is what the nested search's inner loop finds at b (method/proofs/Search); the engine's search goes by it.
use mathlib.Core.Path.{◌≡◌, refl, sym, ap, ◌∙◌}
use mathlib.Core.List.{List}
use mathlib.Core.Option.{none, some, map}
use Prim.Native.Nat.{ℕ, zero, suc, ◌+◌, ◌-◌, ◌≤◌, ◌<◌}
use native.Mathlib.Omega.{arith}
use Rattle.lists.specs.Lists.{first, down}
use Rattle.lists.proofs.Truth.{bcase, ocase}
use Rattle.method.specs.Intervals.{Interval as Span, span}
use Rattle.method.specs.Dependent.{dependent}
use Rattle.method.specs.Final.{leftmost}
use Rattle.method.proofs.Search.{downward, upward, searched, downward-hit, downward_miss, downward-found, before-next, upward-hit, upward_miss, searched-leftmost}
use Rattle.intervals.specs.Search.{NoneBefore}
use Rattle.intervals.specs.Sweep.{shortest}

module _ (s : List Span) where
  down_as : (b k : ℕ) → downward s b k ≡ map (λ l. span l b) (first (λ l. dependent s (span l b)) (down k))
  unfolding downward
  down_as b zero = refl
  down_as b (suc k) =
      bcase (dependent s (span k b)) (λ t. downward-hit s b k t ∙ rw t) (λ f. downward_miss s b k f ∙ down_as b k ∙ rw f)

  shortest-downward : (b : ℕ) → downward s b b ≡ shortest s b
  unfolding shortest
  shortest-downward b = down_as b b

  -- nothing is found at a line before which no dependent bracket ends
  nothing : (b r : ℕ) → NoneBefore s b → r < b → downward s r r ≡ none
  nothing b r before h =
      ocase (downward s r r) (λ e. e)
      (λ d e. let f = downward-found s r r e in let g = f.1 in let w = before d f.2 in absurd (omega arith))

  module _ (n b : ℕ) (before : NoneBefore s b) where
    passed : (r : ℕ) → r < b → r ≤ n → upward s n 1 ≡ upward s (n - r) (r + 1)
    passed zero h k = let e : n ≡ n - 0 = omega arith in ap (λ z. upward s z 1) e
    passed (suc r) h k =
        let e : n - r ≡ suc (n - suc r) = omega arith in
        let f : r + 1 ≡ suc r = omega arith in
        passed r (omega arith) (omega arith)
        ∙ ap (λ z. upward s z (r + 1)) e
        ∙ ap (upward s (suc (n - suc r))) f
        ∙ upward_miss s (n - suc r) (suc r) (nothing b (suc r) before h)

    -- what the sweep finds is rule 5's bracket
    pub swept_leftmost : 1 ≤ b → b ≤ n → {d : Span} → shortest s b ≡ some d → leftmost n s ≡ some d
    unfolding searched
    swept_leftmost low high {d} q =
        let e : n - (b - 1) ≡ suc (n - b) = omega arith in
        let f : b - 1 + 1 ≡ b = omega arith in
        sym (searched-leftmost n s)
        ∙ passed (b - 1) (omega arith) (omega arith)
        ∙ ap (λ z. upward s z (b - 1 + 1)) e
        ∙ ap (upward s (suc (n - b))) f
        ∙ upward-hit s (n - b) b (shortest-downward b ∙ q)

    -- without one, no dependent bracket ends before the next line
    pub swept_on : shortest s b ≡ none → NoneBefore s (b + 1)
    swept_on q e t = let w = before-next s b before (shortest-downward b ∙ q) e t in omega arith
