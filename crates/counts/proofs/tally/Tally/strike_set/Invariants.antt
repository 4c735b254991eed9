-- `strike_set` meets its contract. The loop's invariant: the rows before line l are struck, and the others are still to be.
use mathlib.Core.Path.{◌≡◌}
use Rattle.intervals.specs.Table.{table_of}
use Rattle.intervals.specs.Spans.{spans}
use Rattle.intervals.proofs.ColumnRows.{struck_to}
use Rattle.counts.proofs.StrikeLaws.{Striking}
use Rattle.counts.proofs.tally.Tally.strike_set.Given as goal

abbrev pub invariant-loop-l : goal.invariant-loop-l
invariant-loop-l l =
    let t = l.initial.set in
    (l.set.last ≡ t.last) × (l.set.rows ≡ table_of (struck_to t.last.0 (spans t) l.edge.0 l.l))
    × Striking t.last.0 l.edge.0 (spans t) l.initial.self.rises l.initial.self.falls l.l l.self.rises l.self.falls
