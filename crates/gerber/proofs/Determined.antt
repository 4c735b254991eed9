-- Every public function's contract determines its outcome: no second result fits, and nothing else behind a reference.
-- Each `ensures` is an equation with a definition, or a record of such equations.
use mathlib.Core.HLevel.{is_prop→PathP}
use mathlib.Core.Bool.{true}
use mathlib.Core.Path.{◌≡◌, refl, sym, ap, ◌∙◌}
use native.Mathlib.Omega.{arith}
use Rattle.std.proofs.Common.{w64, FitsSigned}
use Rattle.std.proofs.Props.{props}
use Rattle.std.proofs.lemmas.Result.{IfOk-at_ok}
use Rattle.grid.proofs.Outcome.{Determined}
use Rattle.grid.proofs.Refusals.{answered-tells}
use Rattle.cover.specs.Code.{rectangle_of}
use Rattle.cover.specs.declared.flashes.Flash.{Flash}
use Rattle.grid.specs.Lines.{column, row}
use Rattle.gerber.specs.File.{pitch_fits as as_pitch}
use Rattle.gerber.specs.Format.{number_of}
use Rattle.gerber.specs.Writing.{Given}
use Rattle.gerber.specs.Reading as Reading
use Rattle.gerber.specs.declared.centres.Axis.{Axis}
use Rattle.gerber.specs.declared.centres.Plane.{Plane}
use Rattle.gerber.specs.declared.versions.Version.{Version}
use Rattle.gerber.specs.declared.versions.Version.TheVariants.{Comments, Attributes}
use Rattle.gerber.proofs.apertures.Apertures.none
use Rattle.gerber.proofs.apertures.Apertures.push
use Rattle.gerber.proofs.apertures.Apertures.note
use Rattle.gerber.proofs.sizes.SizePartialEq.eq
use Rattle.gerber.proofs.sizes.size_of
use Rattle.gerber.proofs.sizes.place_of
use Rattle.gerber.proofs.flashes.flash_at
use Rattle.gerber.proofs.flashes.Flashes.at
use Rattle.gerber.proofs.centres.pitch_fits
use Rattle.gerber.proofs.centres.Axis.coordinate_fits
use Rattle.gerber.proofs.centres.Axis.centre
use Rattle.gerber.proofs.centres.Plane.checked
use Rattle.gerber.proofs.centres.Plane.across
use Rattle.gerber.proofs.centres.Plane.upward
use Rattle.gerber.proofs.centres.Plane.centres_fit
use Rattle.gerber.proofs.versions.VersionTryFromU64.try_from
use Rattle.gerber.proofs.versions.format_checked
use Rattle.gerber.proofs.found.number_at
use Rattle.gerber.proofs.found.find_side
use Rattle.gerber.proofs.found.find_square
use Rattle.gerber.proofs.lines.put_millimetres
use Rattle.gerber.proofs.lines.put_file
use Rattle.gerber.proofs.turns.RefusalFromBadLine.from as from_line
use Rattle.gerber.proofs.turns.read_aperture
use Rattle.gerber.proofs.turns.take_turn
use Rattle.gerber.proofs.read.ReadOutcomeFromRefusal.from as from_refusal
use Rattle.gerber.proofs.read.keekaboor_read_gerber
use Rattle.gerber.proofs.write.WriteOutcomeFromRefusal.from as from_refused
use Rattle.gerber.proofs.write.keekaboor_write_gerber

-- what a plane and an axis keep of their numbers has one proof
same-plane : (p q : Plane) → p.pitch ≡ q.pitch → p.x ≡ q.x → p.y ≡ q.y → p ≡ q
same-plane p q e f g = λ i. record {
  pitch = e i;
  x = f i;
  y = g i;
  fits = is_prop→PathP (λ j. as_pitch (e j) ≡ true) (λ j. Prim.hlevel props) p.fits q.fits i;
  in_words = is_prop→PathP (λ j. FitsSigned w64 (f j) × FitsSigned w64 (g j)) (λ j. Prim.hlevel props) p.in_words q.in_words i;
}

same-axis : (p q : Axis) → p.pitch ≡ q.pitch → p.origin ≡ q.origin → p ≡ q
same-axis p q e f = λ i. record {
  pitch = e i;
  origin = f i;
  fits = is_prop→PathP (λ j. as_pitch (e j) ≡ true) (λ j. Prim.hlevel props) p.fits q.fits i;
  in_word = is_prop→PathP (λ j. FitsSigned w64 (f j)) (λ j. Prim.hlevel props) p.in_word q.in_word i;
}

-- a flash is known by its rectangle, and a version by its number
same-flash : (p q : Flash) → rectangle_of p ≡ rectangle_of q → p ≡ q
same-flash p q e = λ i. record { first = column (e i).first; last = column (e i).last; bottom = row (e i).bottom; top = row (e i).top }

same-version : (v w : Version) → number_of v ≡ number_of w → v ≡ w
same-version Comments Comments e = refl
same-version Comments Attributes e = absurd (omega arith)
same-version Attributes Comments e = absurd (omega arith)
same-version Attributes Attributes e = refl

pub none-determined : Determined none.Kinds.ps none.Kinds.r none.Reads.Pre none.Reads.Post
none-determined κs a pre x y v w p q = (p ∙ sym q, refl)

pub push-determined : Determined push.Kinds.ps push.Kinds.r push.Reads.Pre push.Reads.Post
push-determined κs a pre x y v w p q = (refl, λ i. ((p ∙ sym q) i, v.1))

pub note-determined : Determined note.Kinds.ps note.Kinds.r note.Reads.Pre note.Reads.Post
note-determined κs a pre x y v w p q = (refl, λ i. ((p ∙ sym q) i, v.1))

pub eq-determined : Determined eq.Kinds.ps eq.Kinds.r eq.Reads.Pre eq.Reads.Post
eq-determined κs a pre x y v w p q = (p ∙ sym q, refl)

pub size_of_determined : Determined size_of.Kinds.ps size_of.Kinds.r size_of.Reads.Pre size_of.Reads.Post
size_of_determined κs a pre x y v w p q = (p ∙ sym q, refl)

pub flash-at-determined : Determined flash_at.Kinds.ps flash_at.Kinds.r flash_at.Reads.Pre flash_at.Reads.Post
flash-at-determined κs a pre x y v w p q = (same-flash x y (p ∙ sym q), refl)

pub at-determined : Determined at.Kinds.ps at.Kinds.r at.Reads.Pre at.Reads.Post
at-determined κs a pre x y v w p q = (same-flash x y (p.0 ∙ sym q.0), refl)

pub checked-determined : Determined checked.Kinds.ps checked.Kinds.r checked.Reads.Pre checked.Reads.Post
checked-determined κs a pre x y v w p q = (
  answered-tells x y (p.0 ∙ sym q.0)
      (λ r s e f.
      let g = IfOk-at_ok _ e p.1 in
      let h = IfOk-at_ok _ f q.1 in
      same-plane r s (g.0 ∙ sym h.0) (g.1 ∙ sym h.1) (g.2 ∙ sym h.2)),
  refl,
)

pub across-determined : Determined across.Kinds.ps across.Kinds.r across.Reads.Pre across.Reads.Post
across-determined κs a pre x y v w p q = (same-axis x y (p.0 ∙ sym q.0) (p.1 ∙ sym q.1), refl)

pub upward-determined : Determined upward.Kinds.ps upward.Kinds.r upward.Reads.Pre upward.Reads.Post
upward-determined κs a pre x y v w p q = (same-axis x y (p.0 ∙ sym q.0) (p.1 ∙ sym q.1), refl)

pub try_from-determined : Determined try_from.Kinds.ps try_from.Kinds.r try_from.Reads.Pre try_from.Reads.Post
try_from-determined κs a pre x y v w p q = (answered-tells x y (p.0 ∙ sym q.0) (λ r s e f. same-version r s (IfOk-at_ok _ e p.1 ∙ sym (IfOk-at_ok _ f q.1))), refl)

-- a refusal as an outcome
pub from_line-determined : Determined from_line.Kinds.ps from_line.Kinds.r from_line.Reads.Pre from_line.Reads.Post
from_line-determined κs a pre x y v w p q = (p ∙ sym q, refl)

pub from_refusal-determined : Determined from_refusal.Kinds.ps from_refusal.Kinds.r from_refusal.Reads.Pre from_refusal.Reads.Post
from_refusal-determined κs a pre x y v w p q = (p ∙ sym q, refl)

pub from_refused-determined : Determined from_refused.Kinds.ps from_refused.Kinds.r from_refused.Reads.Pre from_refused.Reads.Post
from_refused-determined κs a pre x y v w p q = (p ∙ sym q, refl)

pub place_of_determined : Determined place_of.Kinds.ps place_of.Kinds.r place_of.Reads.Pre place_of.Reads.Post
place_of_determined κs a pre x y v w p q = (p ∙ sym q, refl)

pub pitch_fits-determined : Determined pitch_fits.Kinds.ps pitch_fits.Kinds.r pitch_fits.Reads.Pre pitch_fits.Reads.Post
pitch_fits-determined κs a pre x y v w p q = (p ∙ sym q, refl)

pub centre-determined : Determined centre.Kinds.ps centre.Kinds.r centre.Reads.Pre centre.Reads.Post
centre-determined κs a pre x y v w p q = (p ∙ sym q, refl)

pub centres_fit-determined : Determined centres_fit.Kinds.ps centres_fit.Kinds.r centres_fit.Reads.Pre centres_fit.Reads.Post
centres_fit-determined κs a pre x y v w p q = (p ∙ sym q, refl)

pub format_checked-determined : Determined format_checked.Kinds.ps format_checked.Kinds.r format_checked.Reads.Pre format_checked.Reads.Post
format_checked-determined κs a pre x y v w p q = (
  answered-tells x y (p.0 ∙ sym q.0)
      (λ r s e f.
      let g = IfOk-at_ok _ e p.1 in
      let h = IfOk-at_ok _ f q.1 in
      let version = same-version r.0 s.0 (g.0 ∙ sym h.0) in
      let plane = same-plane r.1 s.1 (g.1 ∙ sym h.1) (g.2 ∙ sym h.2) (g.3 ∙ sym h.3) in
      (λ i. (version i, plane i))),
  refl,
)

pub put_file-determined : Determined put_file.Kinds.ps put_file.Kinds.r put_file.Reads.Pre put_file.Reads.Post
put_file-determined κs a pre x y v w p q =
    let e = p.left ∙ sym q.left in
    (p.past ∙ sym q.past, λ i. (e i, v.1))

-- answer, place, counts, copper number, length, and every byte of the three rooms
pub write_gerber_determined : Determined keekaboor_write_gerber.Kinds.ps keekaboor_write_gerber.Kinds.r keekaboor_write_gerber.Reads.Pre keekaboor_write_gerber.Reads.Post
write_gerber_determined κs a pre x y v w p q =
    let e = p ∙ sym q in
    let f = ap (λ (g : Given). g.flashes_after) e in
    let m = ap (λ (g : Given). g.marks_after) e in
    let t = ap (λ (g : Given). g.file_after) e in
    (ap (λ (g : Given). g.outcome) e, λ i. (tt, (tt, (tt, (tt, (f i, (m i, (tt, (tt, (tt, (tt, (t i, tt))))))))))))

pub coordinate_fits-determined : Determined coordinate_fits.Kinds.ps coordinate_fits.Kinds.r coordinate_fits.Reads.Pre coordinate_fits.Reads.Post
coordinate_fits-determined κs a pre x y v w p q = (p ∙ sym q, refl)

pub number-at-determined : Determined number_at.Kinds.ps number_at.Kinds.r number_at.Reads.Pre number_at.Reads.Post
number-at-determined κs a pre x y v w p q = (p ∙ sym q, refl)

pub find_side-determined : Determined find_side.Kinds.ps find_side.Kinds.r find_side.Reads.Pre find_side.Reads.Post
find_side-determined κs a pre x y v w p q = (p ∙ sym q, refl)

pub find_square-determined : Determined find_square.Kinds.ps find_square.Kinds.r find_square.Reads.Pre find_square.Reads.Post
find_square-determined κs a pre x y v w p q = (p ∙ sym q, refl)

pub read_aperture_determined : Determined read_aperture.Kinds.ps read_aperture.Kinds.r read_aperture.Reads.Pre read_aperture.Reads.Post
read_aperture_determined κs a pre x y v w p q = (p ∙ sym q, refl)

pub take-turn-determined : Determined take_turn.Kinds.ps take_turn.Kinds.r take_turn.Reads.Pre take_turn.Reads.Post
take-turn-determined κs a pre x y v w p q = (p ∙ sym q, refl)

pub put_millimetres-determined : Determined put_millimetres.Kinds.ps put_millimetres.Kinds.r put_millimetres.Reads.Pre put_millimetres.Reads.Post
put_millimetres-determined κs a pre x y v w p q = let r = p.left ∙ sym q.left in (p.past ∙ sym q.past, λ i. (r i, (tt, (tt, tt))))

-- answer, place, number of flashes, and every byte of the flash room
pub read_gerber_determined : Determined keekaboor_read_gerber.Kinds.ps keekaboor_read_gerber.Kinds.r keekaboor_read_gerber.Reads.Pre keekaboor_read_gerber.Reads.Post
read_gerber_determined κs a pre x y v w p q =
    let e = p ∙ sym q in
    let f = ap (λ (g : Reading.Given). g.flashes_after) e in
    (ap (λ (g : Reading.Given). g.outcome) e, λ i. (tt, (tt, (tt, (tt, (tt, (f i, tt)))))))
