-- Every public function's contract determines its outcome: no second outcome fits.
-- Each `ensures` is an equation of the result with a definition; of the two columns beside a line, one of a line that the column gives, and no other column gives that line.
use mathlib.Core.Path.{refl, sym, ap, ◌∙◌}
use mathlib.Core.List.{List}
use Prim.Native.Nat.{ℕ}
use Rattle.std.proofs.Common.{Fits, w64}
use Rattle.std.proofs.lemmas.Result.{IfOk-at_ok}
use Rattle.grid.proofs.Refusals.{answered-tells}
use Rattle.grid.proofs.Rasters.{same-raster}
use Rattle.grid.proofs.Outcome.{Determined}
use Rattle.grid.proofs.Edges.{of_left, of_right}
use Rattle.grid.proofs.lines.Column.left_line
use Rattle.grid.proofs.lines.Column.right_line
use Rattle.grid.proofs.lines.Line.column_after
use Rattle.grid.proofs.lines.Line.column_before
use Rattle.grid.proofs.lines.Interval.up_to
use Rattle.grid.proofs.lines.Interval.length
use Rattle.grid.proofs.lines.Interval.meet
use Rattle.grid.proofs.lines.Interval.contains
use Rattle.grid.proofs.lines.Interval.holds
use Rattle.grid.proofs.lines.Interval.columns
use Rattle.grid.proofs.raster.size_fits
use Rattle.grid.proofs.raster.length_fits
use Rattle.grid.proofs.raster.Raster.bad_byte
use Rattle.grid.proofs.raster.Raster.is_copper
use Rattle.grid.proofs.raster.Raster.broken
use Rattle.grid.proofs.raster.Raster.checked
use Rattle.grid.proofs.rooms.put_bytes
use Rattle.grid.proofs.rooms.put_record
use Rattle.grid.proofs.answers.Refusal.answer
use Rattle.grid.proofs.answers.check
use Rattle.grid.proofs.answers.AnswerFromRefusal.from

pub left-line-determined : Determined left_line.Kinds.ps left_line.Kinds.r left_line.Reads.Pre left_line.Reads.Post
left-line-determined κs a pre x y v w p q = (p ∙ sym q, refl)

pub right_line-determined : Determined right_line.Kinds.ps right_line.Kinds.r right_line.Reads.Pre right_line.Reads.Post
right_line-determined κs a pre x y v w p q = (p ∙ sym q, refl)

pub column-after-determined : Determined column_after.Kinds.ps column_after.Kinds.r column_after.Reads.Pre column_after.Reads.Post
column-after-determined κs a pre x y v w p q = (of_left x a.0 p ∙ sym (of_left y a.0 q), refl)

pub column-before-determined : Determined column_before.Kinds.ps column_before.Kinds.r column_before.Reads.Pre column_before.Reads.Post
column-before-determined κs a pre x y v w p q = (of_right x a.0 p ∙ sym (of_right y a.0 q), refl)

pub up-to-determined : Determined up_to.Kinds.ps up_to.Kinds.r up_to.Reads.Pre up_to.Reads.Post
up-to-determined κs a pre x y v w p q = (p ∙ sym q, refl)

pub length-determined : Determined length.Kinds.ps length.Kinds.r length.Reads.Pre length.Reads.Post
length-determined κs a pre x y v w p q = (p ∙ sym q, refl)

pub meet-determined : Determined meet.Kinds.ps meet.Kinds.r meet.Reads.Pre meet.Reads.Post
meet-determined κs a pre x y v w p q = (p ∙ sym q, refl)

pub contains-determined : Determined contains.Kinds.ps contains.Kinds.r contains.Reads.Pre contains.Reads.Post
contains-determined κs a pre x y v w p q = (p ∙ sym q, refl)

pub holds-determined : Determined holds.Kinds.ps holds.Kinds.r holds.Reads.Pre holds.Reads.Post
holds-determined κs a pre x y v w p q = (p ∙ sym q, refl)

pub columns-determined : Determined columns.Kinds.ps columns.Kinds.r columns.Reads.Pre columns.Reads.Post
columns-determined κs a pre x y v w p q = (p ∙ sym q, refl)

pub size_fits-determined : Determined size_fits.Kinds.ps size_fits.Kinds.r size_fits.Reads.Pre size_fits.Reads.Post
size_fits-determined κs a pre x y v w p q = (p ∙ sym q, refl)

pub length-fits-determined : Determined length_fits.Kinds.ps length_fits.Kinds.r length_fits.Reads.Pre length_fits.Reads.Post
length-fits-determined κs a pre x y v w p q = (p ∙ sym q, refl)

pub bad_byte_determined : Determined bad_byte.Kinds.ps bad_byte.Kinds.r bad_byte.Reads.Pre bad_byte.Reads.Post
bad_byte_determined κs a pre x y v w p q = (p ∙ sym q, refl)

pub is-copper-determined : Determined is_copper.Kinds.ps is_copper.Kinds.r is_copper.Reads.Pre is_copper.Reads.Post
is-copper-determined κs a pre x y v w p q = (p ∙ sym q, refl)

pub broken_determined : Determined broken.Kinds.ps broken.Kinds.r broken.Reads.Pre broken.Reads.Post
broken_determined κs a pre x y v w p q = (p ∙ sym q, refl)

pub put_bytes-determined : Determined put_bytes.Kinds.ps put_bytes.Kinds.r put_bytes.Reads.Pre put_bytes.Reads.Post
put_bytes-determined κs a pre x y v w p q = (p.past ∙ sym q.past, ap (λ (l : List ℕ). (l, v.1)) (p.left ∙ sym q.left))

pub put_record-determined : (n : ℕ) (f : Fits w64 n) → Determined (put_record.Kinds.ps n f) (put_record.Kinds.r n f) (put_record.Reads.Pre n f) (put_record.Reads.Post n f)
put_record-determined n f κs a pre x y v w p q = let r = p ∙ sym q in (refl, λ i. (r i, (tt, (tt, tt))))

pub answer-determined : Determined answer.Kinds.ps answer.Kinds.r answer.Reads.Pre answer.Reads.Post
answer-determined κs a pre x y v w p q = (p ∙ sym q, refl)

pub check-determined : Determined check.Kinds.ps check.Kinds.r check.Reads.Pre check.Reads.Post
check-determined κs a pre x y v w p q = (p ∙ sym q, refl)

pub from-determined : Determined from.Kinds.ps from.Kinds.r from.Reads.Pre from.Reads.Post
from-determined κs a pre x y v w p q = (p ∙ sym q, refl)

pub checked-determined : Determined checked.Kinds.ps checked.Kinds.r checked.Reads.Pre checked.Reads.Post
checked-determined κs a pre x y v w p q = (
  answered-tells x y (p.0 ∙ sym q.0)
      (λ r s e f.
      let g = IfOk-at_ok _ e p.1 in
      let h = IfOk-at_ok _ f q.1 in
      let w = g.0 ∙ sym h.0 in
      let l = g.1 ∙ sym h.1 in
      same-raster r s (λ i. record { width = w i; height = l i }) (g.2 ∙ sym h.2)),
  refl,
)
