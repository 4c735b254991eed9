-- For code that looks for marks without a further final set; no promise needs it. The rule is Strike's `marked`, and with the brackets of rule 5 this is equal to it.
use Rattle.std.specs.Prelude.{List, [], ◌∷◌, ℕ, zero, suc, eqb, length}
use Rattle.std.proofs.Math.Option.{Option, none, some}
use Rattle.lists.specs.Lists.{first, count, up_to}
use Rattle.method.specs.Intervals.{Interval, holds}
use Rattle.method.specs.Strike.{Marked, strike, least}

-- the leftmost column that one more interval of s holds than brackets of the bag
unfoldable pub once_by_counts : ℕ → List Interval → List Interval → Option ℕ
once_by_counts n s bag = first (λ c. eqb (count (holds c) s) (suc (count (holds c) bag))) (up_to n)

-- the marks as they are found, at most k of them: the column is struck from the set and from the bag
unfoldable pub found_by_counts : ℕ → ℕ → List Interval → List Interval → List Marked
found_by_counts n zero s bag = []
found_by_counts n (suc k) s bag =
    elim (once_by_counts n s bag) [
      | none ↦ []
      | some c ↦ elim (least c s) [ none ↦ [] | some i ↦ record { column = c; interval = i } ∷ found_by_counts n k (strike c s) (strike c bag) ]
    ]

unfoldable pub marked_by_counts : ℕ → List Interval → List Interval → List Marked
marked_by_counts n s bag = found_by_counts n (length s) s bag
