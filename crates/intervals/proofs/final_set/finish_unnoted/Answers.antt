-- `finish_unnoted` meets its contract: the room holds a record for each interval of the set.
use mathlib.Core.Path.{refl}
use Rattle.grid.specs.Limits.{bracket_room}
use Rattle.intervals.proofs.SetSizes.{room-holds}
use Rattle.intervals.proofs.final_set.finish_unnoted.Goals as goal

pub finish-requires : goal.finish-requires
finish-requires g c = let t = c.args.t.now in
    record { roomy = room-holds t.last.0 t.rows bracket_room refl t.tabled.fits }
