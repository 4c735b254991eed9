-- `count_lines` meets its contract: a count of the one kind, and one of the other.
use Rattle.std.proofs.Common.{arith}
use Rattle.counts.proofs.TallyLaws.{one_short, begin_fits, end_fits}
use Rattle.counts.proofs.tally.count_lines.Goals as goal

pub offset_bounds-begins-i : goal.offset_bounds-begins-i
offset_bounds-begins-i g c = omega (arith, one_short _ _ _ _ c.requires)

pub bounds-begins-i : goal.bounds-begins-i
bounds-begins-i g c = omega (arith, one_short _ _ _ _ c.requires)

pub step-requires : goal.step-requires
step-requires g c = begin_fits _ _ _ _ c.requires

pub offset_bounds-ends-i : goal.offset_bounds-ends-i
offset_bounds-ends-i g c = omega (arith, one_short _ _ _ _ c.requires)

pub bounds-ends-i : goal.bounds-ends-i
bounds-ends-i g c = omega (arith, one_short _ _ _ _ c.requires)

pub step-requires-2 : goal.step-requires-2
step-requires-2 g c = end_fits _ _ _ _ c.requires
