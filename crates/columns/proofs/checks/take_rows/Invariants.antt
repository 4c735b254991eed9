-- `take_rows` meets its contract. The loop's invariant: the rows below `y` are taken.
use Rattle.columns.specs.Code.{RowsTaken}
use Rattle.columns.proofs.checks.take_rows.Given as goal

abbrev pub invariant-loop-y : goal.invariant-loop-y
invariant-loop-y l = RowsTaken l.raster.size.width l.raster.size.height l.raster.bytes.now l.y l.initial.bottoms l.initial.ends l.misfits l.bottoms l.ends
