-- The final set (rule 5).
use Rattle.std.specs.Prelude.{List, [], ◌∷◌, map, ℕ, zero, suc, length}
use Rattle.std.proofs.Math.Option.{Option, none, some}
use Rattle.lists.specs.Lists.{first, gather, from, up_to}
use Rattle.method.specs.Intervals.{Interval, span}
use Rattle.method.specs.Dependent.{minimal}
use Rattle.method.specs.Reduce.{reduce}

-- the brackets that end at line r, by left line
abbrev pub ending_at : ℕ → List Interval
ending_at r = map (λ l. span l r) (up_to r)

-- every bracket over the lines 0 to n, by right line
abbrev pub by_right : ℕ → List Interval
by_right n = gather ending_at (from 1 n)

-- "the minimal bracket with the least right line"
unfoldable pub leftmost : ℕ → List Interval → Option Interval
leftmost n s = first (minimal s) (by_right n)

-- at most k reductions of that bracket, as long as there is one
unfoldable pub reduced : ℕ → ℕ → List Interval → List Interval
reduced n zero s = s
reduced n (suc k) s = elim (leftmost n s) [ none ↦ s | some d ↦ reduced n k (reduce n s d) ]

-- "While some bracket is dependent, reduce the minimal bracket with the least right line. What remains is the final set":
-- each reduction takes one interval away, so there are no more of them than intervals
unfoldable pub final : ℕ → List Interval → List Interval
final n s = reduced n (length s) s

-- the brackets of at most k of these reductions, in order
unfoldable pub traced : ℕ → ℕ → List Interval → List Interval
traced n zero s = []
traced n (suc k) s = elim (leftmost n s) [ none ↦ [] | some d ↦ d ∷ traced n k (reduce n s d) ]

-- the brackets that rule 5 reduces on its way to the final set, in order: a bracket reduced again stands again
unfoldable pub trace : ℕ → List Interval → List Interval
trace n s = traced n (length s) s
