-- The invariant: what was to be written equals the lines that are left, at the spot that was reached.
use Rattle.std.proofs.Common.{◌≡◌, ◌+◌, length}
use Rattle.grid.specs.Rooms.{written}
use Rattle.job.specs.JobText.{row_lines}
use Rattle.job.proofs.write.put_rows.Given as goal

abbrev pub invariant-loop-row : goal.invariant-loop-row
invariant-loop-row l = let w = l.raster.size.width in let bytes = l.raster.bytes.now in
    (l.at + length (row_lines w bytes l.row) ≡ l.spot + length (row_lines w bytes l.raster.size.height))
    × (written l.initial.room l.spot (row_lines w bytes l.raster.size.height) ≡ written l.room l.at (row_lines w bytes l.row))
