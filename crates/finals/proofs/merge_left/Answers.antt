-- `merge_left` is safe: the room has a record for each interval.
use mathlib.Core.Path.{refl}
use Rattle.grid.specs.Limits.{bracket_room}
use Rattle.intervals.proofs.SetSizes.{room-holds}
use Rattle.finals.proofs.merge_left.Goals as goal

pub final_set-requires : goal.final_set-requires
final_set-requires c = let t = c.args.t.now in
    record { roomy = room-holds t.last.0 t.rows bracket_room refl t.tabled.fits }
