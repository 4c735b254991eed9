-- The invariant: the lines of the flashes before the k-th are written, and the others are left.
use mathlib.Core.Option.{none}
use Rattle.text.proofs.Onward.{Remains}
use Rattle.cover.specs.Records.{flashes_in}
use Rattle.gerber.specs.File.{flash_lines}
use Rattle.gerber.specs.Parts.{before_of}
use Rattle.gerber.proofs.Records.{flashes_from}
use Rattle.gerber.proofs.lines.put_flashes.Given as goal

abbrev pub invariant-loop-k : goal.invariant-loop-k
invariant-loop-k l =
    Remains l.initial.room l.spot (flash_lines l.fn.plane.pitch l.fn.plane.x l.fn.plane.y l.fn.apertures none (flashes_in l.fn.flashes.count l.fn.flashes.records.now)) l.room l.at
    (flash_lines l.fn.plane.pitch l.fn.plane.x l.fn.plane.y l.fn.apertures (before_of l.before) (flashes_from l.fn.flashes.records.now l.k l.fn.flashes.count))
