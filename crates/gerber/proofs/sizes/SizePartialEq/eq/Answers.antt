-- Two sizes as one number each are equal where both sides are.
use mathlib.Core.Path.{◌∙◌}
use lib.Dec.{eqb}
use Rattle.gerber.proofs.SizeLists.{one_number}
use Rattle.gerber.proofs.sizes.SizePartialEq.eq.Goals as goal

pub returns : goal.returns
returns c = let s = c.args.self.now in
    let t = c.args.other.now in
    (λ i. eqb (c.number.ensures.value i) (c.number-2.ensures.value i)) ∙ one_number s.wide s.high t.wide t.high c.number.ensures.high c.number-2.ensures.high
