-- `flip` meets its contract. The loop's invariant: the columns before c are turned over.
use Rattle.std.proofs.Common.{arith}
use Rattle.cover.proofs.RowChanges.{none_flipped, next_flipped}
use Rattle.cover.proofs.slices.flip.Goals as goal

pub loop-c-init : goal.loop-c-init
loop-c-init c = none_flipped _ _

pub loop-c-preserved : goal.loop-c-preserved
loop-c-preserved c =
    next_flipped c.args.at.now c.args.rows.now c.loop-c.c c.flipped.result c.loop-c.rows (omega (arith, c.requires.0 c.loop-c.c (omega arith))) c.loop-c.invariant c.flipped.ensures
