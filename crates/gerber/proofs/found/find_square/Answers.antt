-- Each square is looked for by its centre.
use Rattle.std.proofs.Common.{rules}
use mathlib.Core.Path.{◌∙◌}
use mathlib.Core.Bool.{Bool}
use mathlib.Core.List.{◌++◌}
use Prim.Native.Nat.{ℕ, ◌+◌, ◌-◌}
use lib.ListN.{length}
use Rattle.grid.specs.Limits.{lines}
use Rattle.text.specs.Signed.{signed}
use Rattle.gerber.specs.File.{centre}
use Rattle.gerber.specs.Parts.{square_at, found_square}
use Rattle.gerber.proofs.Compared.{found-all}
use Rattle.gerber.proofs.found.find_square.Goals as goal

pub returns : goal.returns
unfolding found_square
returns c = let a = c.args in
    let test : ℕ → Bool = λ n. square_at a.text.now a.spot (centre a.axis.pitch a.axis.origin n (n + a.size - 1)) a.close.now in
    let past : ℕ → ℕ = λ n. a.spot + length (signed (centre a.axis.pitch a.axis.origin n (n + a.size - 1)) ++ a.close.now) in
    c.find_first.ensures test past (λ n o l u p. search rules) ∙ found-all test past (lines - a.size)
