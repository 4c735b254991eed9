-- The flash of the line at the spot, and what is left from the next line on; or nothing, where no line as ruled stands.
use Rattle.std.proofs.Common.{arith}
use mathlib.Core.Path.{ap}
use lib.ListN.{length}
use Rattle.listcheck.proofs.Onward.{turn, over}
use Rattle.listcheck.proofs.lines.FlashesIterator.next.Goals as goal

pub returns-in_err-flash-clause-steps : goal.returns-in_err-flash-clause-steps
returns-in_err-flash-clause-steps c = let o = (over _ _ c.read_flash.ensures (c.in_err-flash.was)).0 in
    rw c.from_residual.ensures (o, o)

pub returns-clause-steps : goal.returns-clause-steps
returns-clause-steps c = (turn _ _ c.read_flash.ensures (c.in_ok-flash.was)).rest

pub returns-clause-goes : goal.returns-clause-goes
returns-clause-goes c = let e = ap length (turn _ _ c.read_flash.ensures (c.in_ok-flash.was)).rest in
    record { on = λ _. (tt, tt, omega (arith, e)); keeps = tt; rests = λ _. tt }
