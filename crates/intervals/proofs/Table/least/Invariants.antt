-- `least` meets its contract: from no line passed does an interval hold the column, and of the first row that has one the first end beyond it is the least.
use mathlib.Core.Path.{◌≡◌}
use Rattle.method.specs.Strike.{least}
use Rattle.intervals.specs.Spans.{spans}
use Rattle.intervals.proofs.ColumnRows.{least_from}
use Rattle.intervals.proofs.Table.least.Given as goal

abbrev pub invariant-loop-l : goal.invariant-loop-l
invariant-loop-l l = least l.edge.0 (spans l.self) ≡ least_from l.self.last.0 (spans l.self) l.edge.0 l.l
