-- Beyond ten digits to the right already, or the sum is in range and is compared with both ends.
use mathlib.Core.Path.{sym, refl}
use Prim.Native.Nat.{◌+◌, ◌*◌, ◌/◌, suc}
use Rattle.gerber.proofs.Signs.{from-small, centre-beyond, sum-fits, not-low, too-low}
use Rattle.gerber.proofs.centres.Axis.coordinate_fits.Goals as goal

pub returns-then-self-gt-MOST : goal.returns-then-self-gt-MOST
returns-then-self-gt-MOST c = let a = c.args in
    let p = a.self in
    let small = from-small p.pitch a.a a.b p.fits c.requires.0 c.requires.1 in
    sym (centre-beyond p.pitch a.a a.b p.origin p.in_word (p.pitch / 2 * (a.a + suc a.b)) refl small c.if-self-gt-MOST.true)

pub overflow_add-centre : goal.overflow_add-centre
overflow_add-centre c = let a = c.args in sum-fits a.self.pitch a.a a.b a.self.origin a.self.in_word c.from_origin.ensures c.if-self-gt-MOST.false

pub returns-then-centre-ge-LEAST : goal.returns-then-centre-ge-LEAST
returns-then-centre-ge-LEAST c = let a = c.args in
    not-low a.self.pitch a.a a.b a.self.origin a.self.in_word c.from_origin.ensures c.if-self-gt-MOST.false c.if-centre-ge-LEAST.true

pub returns-else-centre-ge-LEAST : goal.returns-else-centre-ge-LEAST
returns-else-centre-ge-LEAST c = let a = c.args in
    too-low a.self.pitch a.a a.b a.self.origin a.self.in_word c.from_origin.ensures c.if-self-gt-MOST.false c.if-centre-ge-LEAST.false
