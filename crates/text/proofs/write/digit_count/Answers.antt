-- A number from 10 ^ k up to ten times that has k + 1 digits; one below 10 has one.
use Rattle.std.proofs.Common.{arith}
use Rattle.text.proofs.Turns.{count-two, count-tens}
use Rattle.text.proofs.write.digit_count.Goals as goal

pub returns-then-value-lt100-clause-value : goal.returns-then-value-lt100-clause-value
returns-then-value-lt100-clause-value c = count-two c.args.value c.if-value-lt100.true c.from.ensures

pub returns-else-value-lt100-clause-value : goal.returns-else-value-lt100-clause-value
returns-else-value-lt100-clause-value c = let i = c.ilog10.ensures in omega (arith, count-tens c.ilog10.result c.args.value i.power_le i.next_power_gt)
