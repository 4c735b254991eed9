-- `size` meets its contract: after the rows before line l the count is that of their intervals, and every interval begins before the last line.
use mathlib.Core.Path.{◌≡◌}
use mathlib.Core.Bool.{Bool, true}
use Rattle.method.specs.Intervals.{Interval as Span}
use Rattle.intervals.specs.Spans.{spans}
use Rattle.intervals.proofs.RowCounts.{before}
use Rattle.intervals.proofs.Table.size.Given as goal

abbrev pub each : Span → Bool
each i = true

abbrev pub invariant-loop-l : goal.invariant-loop-l
invariant-loop-l l = l.n ≡ before (spans l.self) each l.l
