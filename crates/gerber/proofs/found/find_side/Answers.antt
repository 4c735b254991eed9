-- Each number of squares is looked for as a length.
use Rattle.std.proofs.Common.{rules}
use mathlib.Core.List.{◌++◌}
use Prim.Native.Nat.{◌+◌, ◌*◌}
use lib.ListN.{length}
use Rattle.text.specs.Words.{word_at}
use Rattle.gerber.specs.File.{millimetres}
use Rattle.gerber.specs.Parts.{side_at, found_side}
use Rattle.gerber.proofs.found.find_side.Goals as goal

pub returns : goal.returns
unfolding found_side word_at
returns c = let a = c.args in
    c.find_first.ensures (side_at a.text.now a.spot a.plane.pitch a.close.now) (λ n. a.spot + length (millimetres (n * a.plane.pitch) ++ a.close.now)) (λ n o l u p. search rules)
