-- The invariant: the lines of the sizes before the k-th are written, and the others are left.
use lib.ListN.{drop}
use Rattle.text.proofs.Onward.{Remains}
use Rattle.gerber.specs.File.{aperture_lines}
use Rattle.gerber.proofs.lines.put_apertures.Given as goal

abbrev pub invariant-loop-k : goal.invariant-loop-k
invariant-loop-k l = Remains l.initial.room l.spot (aperture_lines l.fn.plane.pitch 0 l.fn.apertures) l.room l.at (aperture_lines l.fn.plane.pitch l.k (drop l.k l.size-items))
