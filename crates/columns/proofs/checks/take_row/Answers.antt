-- `take_row` meets its contract. The loop's invariant: the row's bytes before `c` are taken.
use Rattle.std.proofs.Common.{arith}
use mathlib.Core.Path.{ap}
use Prim.Native.Nat.{◌+◌}
use Rattle.columns.proofs.Taking.{row-none, row_next, row-all}
use Rattle.columns.proofs.checks.take_row.Goals as goal

pub loop-c-init : goal.loop-c-init
loop-c-init c = (row-none _ _ _ _ _ (omega arith), omega arith)

pub overflow_add-misfits : goal.overflow_add-misfits
overflow_add-misfits c = omega (arith, c.loop-c.invariant.0.few, c.misfit-misfits.ensures.1)

pub loop-c-preserved : goal.loop-c-preserved
loop-c-preserved c = let t = c.loop-c.invariant.0 in
    let m = c.misfit-misfits.ensures in (
      row_next _ _ _ _ t _ _ _ (omega (arith, t.low.as_long)) (omega (arith, t.high.as_long)) (ap (λ z. c.loop-c.misfits + z) m.0) c.bottom_after.ensures c.end_after.ensures,
      omega arith,
    )

pub returns : goal.returns
returns c = row-all (omega arith) c.loop-c.invariant.0
