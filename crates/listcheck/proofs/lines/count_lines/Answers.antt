-- `count_lines` meets its contract. The loop's invariant: the lines that are counted and those that are left are all lines, and these end alike.
use Rattle.std.proofs.Common.{arith}
use mathlib.Core.Path.{◌≡◌, refl, sym, ap, ◌∙◌}
use lib.ListN.{length}
use Rattle.listcheck.specs.FlashList.{flashes_of}
use Rattle.listcheck.proofs.Onward.{turn, over}
use Rattle.listcheck.proofs.lines.count_lines.Goals as goal

pub loop-next-init : goal.loop-next-init
unfolding flashes_of
loop-next-init c = record { counted = omega arith; ends = refl; few = omega arith; inside = omega arith }

pub loop-next-smaller : goal.loop-next-smaller
loop-next-smaller c = let t = turn _ _ c.read_flash.ensures c.in-Some.is in
    omega (arith, t.further, t.inside)

pub loop-next-preserved : goal.loop-next-preserved
loop-next-preserved c = let l = c.loop-next.invariant in
    let t = turn _ _ c.read_flash.ensures c.in-Some.is in
    record { counted = omega (arith, l.counted, ap length t.rest); ends = l.ends ∙ t.ends; few = omega (arith, l.few, t.further); inside = t.inside }

pub returns : goal.returns
returns c = let l = c.loop-next.invariant in
    let o = over _ _ c.read_flash.ensures c.in_default.is in
    let n : length (flashes_of c.args.text.now) ≡ c.loop-next.lines.count = omega (arith, l.counted, ap length o.0) in
    let e = l.ends ∙ o.1 in
    sym (λ i. record { count = n i; end = e i })
