-- The invariant: what was asked is what is asked from here on, behind the sizes so far.
use mathlib.Core.Path.{◌≡◌}
use mathlib.Core.List.{[]}
use Prim.Native.Nat.{◌-◌}
use lib.ListN.{length}
use Rattle.grid.specs.Limits.{side}
use Rattle.gerber.specs.Reading.{read_apertures}
use Rattle.gerber.specs.Code.{EachOnGrid}
use Rattle.gerber.proofs.read.read_apertures.Given as goal

abbrev pub invariant-loop-k : goal.invariant-loop-k
invariant-loop-k l = (length l.apertures ≡ l.k)
    × (read_apertures side l.fn.plane.pitch l.fn.text (record { sizes = []; past = l.fn.spot })
    ≡ read_apertures (side - l.k) l.fn.plane.pitch l.fn.text (record { sizes = l.apertures; past = l.at })) × EachOnGrid l.apertures
