-- The invariant: the lines of the flashes before the k-th are written, and the others are left.
use Rattle.std.proofs.Common.{arith}
use mathlib.Core.Path.{refl, ap, subst, ◌∙◌}
use mathlib.Core.Option.{none}
use Rattle.text.proofs.Onward.{Remains, start, fits_next, piece, whole}
use Rattle.cover.specs.Code.{rectangle_of}
use Rattle.cover.specs.Records.{flashes_in}
use Rattle.gerber.specs.File.{place_of, centre_fits, centre_line, flash_lines}
use Rattle.gerber.specs.Parts.{before_of}
use Rattle.gerber.proofs.Records.{flashes-all, fit-each}
use Rattle.gerber.proofs.SizeLists.{place-most}
use Rattle.gerber.proofs.Listing.{select-fits, past-select, lines-over}
use Rattle.gerber.proofs.lines.put_flashes.Goals as goal

pub loop-k-init : goal.loop-k-init
loop-k-init c = let a = c.args in
    let p = a.plane in
    subst (Remains a.room.now a.spot (flash_lines p.pitch p.x p.y a.apertures.now none (flashes_in a.flashes.count a.flashes.records.now)) a.room.now a.spot)
    (ap (flash_lines p.pitch p.x p.y a.apertures.now none) (flashes-all a.flashes.records.now a.flashes.count))
    (start _ _ _ c.requires.fits)

pub put_change-line-requires : goal.put_change-line-requires
put_change-line-requires c = let a = c.args in
    let place = c.place_of.ensures ∙ ap (place_of c.size_of-size.result) c.sizes.ensures.are in (
      omega (arith, place, place-most c.size_of-size.result a.apertures.now, c.sizes.ensures.few),
      select-fits a.plane.pitch a.plane.x a.plane.y a.apertures.now a.flashes.records.now a.flashes.count c.loop-k.k
          (before_of c.loop-k.before) c.loop-k-test.true c.at-q.ensures.is c.size_of-size.ensures place c.loop-k.invariant,
    )

pub put_centre-at-requires : goal.put_centre-at-requires
put_centre-at-requires c = let a = c.args in
    let p = a.plane in
    let place = c.place_of.ensures ∙ ap (place_of c.size_of-size.result) c.sizes.ensures.are in
    let fit = fit-each a.flashes.records.now a.flashes.count (centre_fits p.pitch p.x p.y) c.loop-k.k c.requires.centres c.loop-k-test.true in record {
      fits = (c.at-q.ensures.drawn, ap (centre_fits p.pitch p.x p.y) c.at-q.ensures.is ∙ fit);
      q_in_bounds = fits_next (past-select a.plane.pitch a.plane.x a.plane.y a.apertures.now a.flashes.records.now a.flashes.count c.loop-k.k
          (before_of c.loop-k.before) c.loop-k-test.true c.at-q.ensures.is c.size_of-size.ensures place c.loop-k.invariant c.put_change-line.ensures)
          (centre_line p.pitch p.x p.y (rectangle_of c.at-q.result)) _ refl;
    }

pub loop-k-preserved : goal.loop-k-preserved
loop-k-preserved c = let a = c.args in
    let place = c.place_of.ensures ∙ ap (place_of c.size_of-size.result) c.sizes.ensures.are in
    piece (past-select a.plane.pitch a.plane.x a.plane.y a.apertures.now a.flashes.records.now a.flashes.count c.loop-k.k
    (before_of c.loop-k.before) c.loop-k-test.true c.at-q.ensures.is c.size_of-size.ensures place c.loop-k.invariant c.put_change-line.ensures) _ _ refl c.put_centre-at.ensures

pub returns : goal.returns
returns c = let a = c.args in
    let l = c.loop-k in
    whole l.invariant (lines-over a.plane.pitch a.plane.x a.plane.y a.apertures.now a.flashes.records.now a.flashes.count l.k (before_of l.before) (omega arith))
