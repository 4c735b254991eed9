-- The invariant: the lines of the sizes before the k-th are written, and the others are left.
use mathlib.Core.Path.{sym, subst}
use Prim.Native.Nat.{◌+◌}
use lib.ListN.{drop, get_or}
use Rattle.text.proofs.Onward.{Remains, start, fits_next, piece, whole}
use Rattle.gerber.specs.File.{aperture_line, aperture_lines}
use Rattle.gerber.specs.declared.sizes.Size.{Size}
use Rattle.gerber.proofs.Listing.{apertures-next, apertures-over}
use Rattle.gerber.proofs.lines.put_apertures.Goals as goal

pub loop-k-init : goal.loop-k-init
loop-k-init c = let a = c.args in
    subst (λ ss. Remains a.room.now a.spot (aperture_lines a.plane.pitch 0 a.apertures.now) a.room.now a.spot (aperture_lines a.plane.pitch 0 ss)) (sym c.sizes-size-items.ensures.are)
    (start _ _ _ c.requires)

pub put_aperture-at-requires-clause-fits : goal.put_aperture-at-requires-clause-fits
put_aperture-at-requires-clause-fits c = let p = c.args.plane.pitch in
    let sizes = c.sizes-size-items.result.now in
    let k = c.loop-k.k in
    let d : Size = record { wide = 0; high = 0 } in
    fits_next c.loop-k.invariant (aperture_line p k (get_or sizes k d)) (aperture_lines p (k + 1) (drop (k + 1) sizes)) (apertures-next p sizes k d c.loop-k-test.true)

pub loop-k-preserved : goal.loop-k-preserved
loop-k-preserved c = piece c.loop-k.invariant _ _ (apertures-next c.args.plane.pitch c.sizes-size-items.result.now c.loop-k.k _ c.loop-k-test.true) c.put_aperture-at.ensures

pub returns : goal.returns
returns c = whole c.loop-k.invariant (apertures-over c.args.plane.pitch c.sizes-size-items.result.now c.loop-k.k c.loop-k-test.false)
