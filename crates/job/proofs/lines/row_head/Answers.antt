-- The word, the number's digits and the two tabs.
use Rattle.std.proofs.Common.{arith}
use Rattle.job.proofs.Lengths.{length-head}
use Rattle.job.proofs.lines.row_head.Goals as goal

pub returns : goal.returns
returns c = omega (arith, c.digit_count.ensures.value, length-head c.args.row.0)
