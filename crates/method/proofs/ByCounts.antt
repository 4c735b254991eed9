-- Marks from counts alone: with the brackets of rule 5 as a bag, a column's count in the final set is its count in the set less that in the bag,
-- and striking a column strikes both. So one final set serves all the marks; any list of the same brackets does for the trace.
use mathlib.Core.Path.{◌≡◌, refl, sym, ap₂, fun_ext, ◌∙◌}
use mathlib.Core.List.{List, [], ◌∷◌}
use mathlib.Core.Logic.{◌↔◌}
use mathlib.Core.Option.{Option, none, some}
use Prim.Native.Nat.{ℕ, zero, suc, ◌+◌}
use native.Mathlib.Omega.{arith}
use lib.Dec.{eqb}
use lib.ListN.{length}
use borrow.Author.Tests.{eqb-true, eq-eqb}
use Rattle.lists.specs.Lists.{count, up_to}
use Rattle.lists.proofs.Truth.{agree}
use Rattle.lists.proofs.Members.{first-same}
use Rattle.method.specs.Intervals.{Interval, holds}
use Rattle.method.specs.Final.{final, trace}
use Rattle.method.specs.Runs.{Listed, SameBag}
use Rattle.method.specs.Strike.{Marked, held_once, strike, least, found, marked}
use Rattle.method.specs.ByCounts.{once_by_counts, found_by_counts, marked_by_counts}
use Rattle.method.proofs.Listed.{strike-listed}
use Rattle.method.proofs.Trace.{trace-count}
use Rattle.method.proofs.StrikeColumn.{strike-same, strike_bag}

module _ (n : ℕ) (s bag : List Interval) (listed : Listed n s) (reduced : SameBag bag (trace n s)) where
  pub bag_count : (c : ℕ) → count (holds c) (final n s) + count (holds c) bag ≡ count (holds c) s
  bag_count c = omega (arith, trace-count n s listed c, reduced (holds c))

  -- a struck bag is the bag of the struck set
  pub bag_strike : (c : ℕ) → SameBag (strike c bag) (trace n (strike c s))
  bag_strike c p = strike-same c bag (trace n s) reduced p ∙ sym (strike_bag n c s listed p)

  pub once_by_counts_lem : once_by_counts n s bag ≡ held_once n (final n s)
  unfolding once_by_counts held_once
  once_by_counts_lem =
      first-same (λ c. eqb (count (holds c) s) (suc (count (holds c) bag))) (λ c. eqb (count (holds c) (final n s)) 1) (up_to n)
      (λ c m.
      agree (eqb (count (holds c) s) (suc (count (holds c) bag))) (eqb (count (holds c) (final n s)) 1)
      (λ t. eq-eqb (count (holds c) (final n s)) 1 (omega (arith, bag_count c, eqb-true (count (holds c) s) (suc (count (holds c) bag)) t)))
      (λ t. eq-eqb (count (holds c) s) (suc (count (holds c) bag)) (omega (arith, bag_count c, eqb-true (count (holds c) (final n s)) 1 t))))

-- a turn of either rule: its column, and what follows
abbrev turn : List Interval → Option ℕ → (ℕ → List Marked) → List Marked
turn s o rest = elim o [ none ↦ [] | some c ↦ elim (least c s) [ none ↦ [] | some i ↦ record { column = c; interval = i } ∷ rest c ] ]

-- the same marks, turn by turn
pub found_by_counts_lem : (n k : ℕ) (s bag : List Interval) → Listed n s → SameBag bag (trace n s) → found_by_counts n k s bag ≡ found n k s
unfolding found_by_counts found
found_by_counts_lem n zero s bag listed h = refl
found_by_counts_lem n (suc k) s bag listed h =
    ap₂ (turn s) (once_by_counts_lem n s bag listed h)
    (fun_ext (λ c. found_by_counts_lem n k (strike c s) (strike c bag) (strike-listed n s listed c) (bag_strike n s bag listed h c)))

pub marked_by_counts_lem : (n : ℕ) (s bag : List Interval) → Listed n s → SameBag bag (trace n s) → marked_by_counts n s bag ≡ marked n s
unfolding marked_by_counts marked
marked_by_counts_lem n s bag listed h = found_by_counts_lem n (length s) s bag listed h

-- along any list of struck columns
abbrev pub strikes : List ℕ → List Interval → List Interval
strikes [] s = s
strikes (x ∷ xs) s = strikes xs (strike x s)

module _ (n : ℕ) where
  pub strikes_bag : (xs : List ℕ) (s bag : List Interval) → Listed n s → SameBag bag (trace n s) → Listed n (strikes xs s) × SameBag (strikes xs bag) (trace n (strikes xs s))
  strikes_bag [] s bag listed h = (listed, h)
  strikes_bag (x ∷ xs) s bag listed h = strikes_bag xs (strike x s) (strike x bag) (strike-listed n s listed x) (bag_strike n s bag listed h x)

  -- a column is held exactly once in the final set of what is left, exactly where one more interval than brackets is left that holds it
  pub strikes-once : (xs : List ℕ) (s : List Interval) → Listed n s → (c : ℕ)
      → (count (holds c) (final n (strikes xs s)) ≡ 1) ↔ (count (holds c) (strikes xs s) ≡ suc (count (holds c) (strikes xs (trace n s))))
  strikes-once xs s listed c =
      let b = strikes_bag xs s (trace n s) listed (λ p. refl) in
      omega (arith, bag_count n (strikes xs s) (strikes xs (trace n s)) b.0 b.1 c)
