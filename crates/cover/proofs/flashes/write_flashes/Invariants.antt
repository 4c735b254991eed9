-- `write_flashes` meets its contract. The loop's invariant: the rows from line l on are still to be written.
use Rattle.intervals.specs.Spans.{spans}
use Rattle.cover.specs.Code.{flash_between}
use Rattle.cover.proofs.FlashesByRow.{GoingRows}
use Rattle.cover.proofs.flashes.write_flashes.Given as goal

abbrev pub invariant-loop-l : goal.invariant-loop-l
invariant-loop-l l = GoingRows l.t.last.0 (spans l.t) (flash_between l.edges.bottoms.now l.edges.ends.now) l.l l.initial.room l.initial.done l.room l.done
