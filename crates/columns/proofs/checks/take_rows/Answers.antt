-- `take_rows` meets its contract. The loop's invariant: the rows below `y` are taken.
use Rattle.std.proofs.Common.{refl, ap}
use Prim.Native.Nat.{◌+◌}
use Rattle.columns.proofs.Taking.{row-all, rows_none, rows_next, row-slice, row-long}
use Rattle.columns.proofs.checks.take_rows.Goals as goal

pub loop-y-init : goal.loop-y-init
loop-y-init c = rows_none _ _ _ _ _ c.requires.bare.0 c.requires.bare.1 _ refl

pub loop-y-preserved : goal.loop-y-preserved
loop-y-preserved c =
    let r = c.args.raster in
    let y = c.loop-y.y in
    let w = r.size.width in
    let long = row-long w r.size.height y r.bytes.now r.sized.full c.loop-y-test.true in
    rows_next _ _ _ _ _ c.loop-y.invariant c.loop-y-test.true (row-slice w y r.bytes.now) (row-all long c.take_row.ensures) r.sized.narrow
    (ap (λ z. c.loop-y.misfits + z) c.from-misfits.ensures)
