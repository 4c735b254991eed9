-- `write_row` meets its contract. The loop's invariant: the intervals that end beyond the edge are still to be written.
use lib.ListN.{length}
use Rattle.intervals.specs.Spans.{spans}
use Rattle.cover.specs.Code.{flash_between}
use Rattle.cover.proofs.FlashesByRow.{beyond, GoingRow}
use Rattle.cover.proofs.flashes.write_row.Given as goal

abbrev pub invariant-loop-right : goal.invariant-loop-right
invariant-loop-right l = GoingRow l.t.last.0 (spans l.t) l.left.0 (flash_between l.edges.bottoms.now l.edges.ends.now) l.edge.0 l.initial.room l.initial.done l.room l.done

abbrev pub decreases-loop-right : goal.decreases-loop-right
decreases-loop-right l = length (beyond l.t.last.0 (spans l.t) l.left.0 l.edge.0)
