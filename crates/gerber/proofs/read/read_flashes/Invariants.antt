-- The invariant: the flashes so far are in the room, and what was asked is what is asked of the turns that are left.
use mathlib.Core.List.{[]}
use Prim.Native.Nat.{◌+◌, ◌-◌, ◌*◌, ◌≤◌}
use lib.ListN.{length}
use Rattle.grid.specs.Limits.{side}
use Rattle.gerber.specs.Reading.{read_flashes}
use Rattle.gerber.specs.Parts.{Sound}
use Rattle.gerber.proofs.FlashTurns.{Sofar}
use Rattle.gerber.proofs.read.read_flashes.Given as goal

abbrev pub invariant-loop-flash : goal.invariant-loop-flash
invariant-loop-flash l = Sound (length l.fn.apertures) l.s × (l.s.line ≤ 2 * side + 2 * l.n)
    × Sofar l.fn.plane.pitch l.fn.plane.x l.fn.plane.y l.fn.text l.fn.apertures
    (read_flashes side l.fn.plane.pitch l.fn.plane.x l.fn.plane.y l.fn.text l.fn.apertures [] l.initial.s) l.initial.room l.n l.s l.room

abbrev pub decreases-loop-flash : goal.decreases-loop-flash
decreases-loop-flash l = side - l.n
