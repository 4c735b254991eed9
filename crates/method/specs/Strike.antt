-- The rule of the marks, on intervals (document 01, 'Marks').
use Rattle.std.specs.Prelude.{not, List, [], ◌∷◌, ℕ, zero, suc, eqb, length}
use Rattle.std.proofs.Math.Option.{Option, none, some}
use Rattle.lists.specs.Lists.{first, keep, count, up_to}
use Rattle.method.specs.Intervals.{Interval, holds}
use Rattle.method.specs.Final.{final}

-- a marked column, and the interval of the set that it was marked for
pub record Marked : Type 0 where
  pub column : ℕ
  pub interval : Interval

-- "the leftmost column that lies in exactly one interval of the final set"
unfoldable pub held_once : ℕ → List Interval → Option ℕ
held_once n f = first (λ c. eqb (count (holds c) f) 1) (up_to n)

-- "Strike from S every interval that holds the column"
unfoldable pub strike : ℕ → List Interval → List Interval
strike c s = keep (λ i. not (holds c i)) s

-- "Among the intervals of S that hold this column take the least left line, then the least right line": the first, s being in this order
unfoldable pub least : ℕ → List Interval → Option Interval
least c s = first (holds c) s

-- the marks in the order in which they are found, at most k of them
unfoldable pub found : ℕ → ℕ → List Interval → List Marked
found n zero s = []
found n (suc k) s =
    elim (held_once n (final n s)) [
      | none ↦ []
      | some c ↦ elim (least c s) [ none ↦ [] | some i ↦ record { column = c; interval = i } ∷ found n k (strike c s) ]
    ]

-- "Start from S. If it is empty, stop. .. and start again with the rest": each mark strikes an interval, so there are no more than intervals
unfoldable pub marked : ℕ → List Interval → List Marked
marked n s = found n (length s) s
