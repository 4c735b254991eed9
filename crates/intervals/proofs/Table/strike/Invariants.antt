-- `strike` meets its contract: the rows before line l are struck, and all others are as they were.
use mathlib.Core.Path.{◌≡◌}
use Rattle.intervals.specs.Table.{table_of}
use Rattle.intervals.specs.Spans.{spans}
use Rattle.intervals.proofs.ColumnRows.{struck_to}
use Rattle.intervals.proofs.Table.strike.Given as goal

abbrev pub invariant-loop-l : goal.invariant-loop-l
invariant-loop-l l = let t = l.initial.self in
    (l.self.last ≡ t.last) × (l.self.rows ≡ table_of (struck_to t.last.0 (spans t) l.edge.0 l.l))
