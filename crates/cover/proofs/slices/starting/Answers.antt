-- `starting` meets its contract: the table of no interval is over the width's lines.
use Rattle.std.proofs.Common.{arith}
use mathlib.Core.Path.{◌≡◌, ap, ◌∙◌}
use Prim.Native.Nat.{min}
use Rattle.grid.specs.Limits.{side}
use Rattle.grid.specs.Lines.{line}
use Rattle.grid.proofs.Edges.{number}
use Rattle.cover.proofs.slices.starting.Goals as goal

pub put_starting-requires : goal.put_starting-requires
put_starting-requires c =
    let n = c.requires.0.narrow in
    let w : min c.last_line.result.0 side ≡ c.args.size.width = omega (arith, ap number c.last_line.ensures) in
    record { columned = c.requires; empty = (c.empty-t.ensures.rows, c.empty-t.ensures.last ∙ ap line w) }
