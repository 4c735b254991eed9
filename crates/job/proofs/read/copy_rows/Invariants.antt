-- The invariant: what was to be copied equals what is left of it; the rows that are left stand as ruled, and the room holds them.
use Rattle.std.proofs.Common.{◌≡◌, ◌≤◌, ◌*◌, length, Ok}
use Rattle.grid.specs.Rooms.{written}
use Rattle.job.specs.Reading.{rows_from, raster_from}
use Rattle.job.proofs.read.copy_rows.Given as goal

abbrev pub invariant-loop-row : goal.invariant-loop-row
invariant-loop-row l = (l.row * l.width ≤ length l.initial.room)
    × (rows_from l.text l.width l.row 2 l.at ≡ Ok tt)
    × (written l.initial.room 0 (raster_from l.text l.width l.initial.row l.spot) ≡ written l.room 0 (raster_from l.text l.width l.row l.at))
