-- `next_on` meets its contract: where nothing is left nothing is found; else the zeros below the lowest digit of what the shift leaves are counted.
use Rattle.std.proofs.Common.{arith}
use Prim.Native.Nat.{◌/◌, ◌^◌, ◌<◌}
use Rattle.words.proofs.Found.{next-none, next-some}
use Rattle.words.proofs.next_on.Goals as goal

pub returns-then-rest-eq0 : goal.returns-then-rest-eq0
returns-then-rest-eq0 c = let a = c.args in next-none a.w a.from c.if-from-ge-BITS.false c.if-rest-eq0.true

pub returns : goal.returns
returns c = let a = c.args in
    let some_left : 0 < a.w / 2 ^ a.from = omega arith in
    next-some a.w a.from c.if-from-ge-BITS.false c.ranges.w.fits some_left
