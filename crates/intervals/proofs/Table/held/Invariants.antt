-- `held` meets its contract: after the rows before line l the count is that of their intervals that hold the column.
use mathlib.Core.Path.{◌≡◌}
use Rattle.method.specs.Intervals.{holds}
use Rattle.intervals.specs.Spans.{spans}
use Rattle.intervals.proofs.RowCounts.{before}
use Rattle.intervals.proofs.Table.held.Given as goal

abbrev pub invariant-loop-l : goal.invariant-loop-l
invariant-loop-l l = l.n ≡ before (spans l.self) (holds l.edge.0) l.l
