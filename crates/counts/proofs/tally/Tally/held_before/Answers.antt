-- `held_before` meets its contract. The loop's invariant: what is held before line x.
use Rattle.std.proofs.Common.{arith}
use Rattle.counts.proofs.HeldLaws.{held_back}
use Rattle.counts.proofs.tally.Tally.held_before.Goals as goal

pub overflow_add-held : goal.overflow_add-held
overflow_add-held c = omega (arith, held_back c.requires.steps c.loop-x.x (omega arith) (omega arith), c.loop-x.invariant.1)

pub overflow_sub-held : goal.overflow_sub-held
overflow_sub-held c = omega (arith, held_back c.requires.steps c.loop-x.x (omega arith) (omega arith), c.loop-x.invariant.1)

pub loop-x-preserved : goal.loop-x-preserved
loop-x-preserved c = (omega arith, omega (arith, held_back c.requires.steps c.loop-x.x (omega arith) (omega arith), c.loop-x.invariant.1))
