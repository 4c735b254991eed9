-- `count_row` meets its contract. The loop's invariant: the intervals that end beyond the edge are still to be counted.
use lib.ListN.{length}
use Rattle.intervals.specs.Spans.{spans}
use Rattle.counts.specs.Rows.{row_beyond}
use Rattle.counts.proofs.TallyLaws.{Going}
use Rattle.counts.proofs.tally.Tally.count_row.Given as goal

abbrev pub invariant-loop-right : goal.invariant-loop-right
invariant-loop-right g l =
    let row = row_beyond l.set.last.0 (spans l.set) l.left.0 in
    Going g.D.Direction.more l.initial.self.rises l.initial.self.falls (row l.initial.edge.0) l.self.rises l.self.falls (row l.edge.0)

abbrev pub decreases-loop-right : goal.decreases-loop-right
decreases-loop-right g l = length (row_beyond l.set.last.0 (spans l.set) l.left.0 l.edge.0)
