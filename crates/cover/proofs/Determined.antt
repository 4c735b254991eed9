-- Every public function's contract determines its outcome: no second result fits, and nothing else behind a reference.
-- Each `ensures` is an equation with a definition, or a record of such equations. Of the entry point it is said of `Gives` too.
use denote.Param.Laws.{Laws}
use denote.RattleType.{RattleType}
use mir.Syntax.{Dict}
use mathlib.Core.Path.{◌≡◌, refl, sym, ap, ◌∙◌}
use mathlib.Core.List.{List}
use Prim.Native.Nat.{ℕ}
use Rattle.std.proofs.lemmas.Result.{IfOk-at_ok}
use Rattle.grid.proofs.Outcome.{Determined, Alike}
use Rattle.grid.proofs.Rasters.{same-raster}
use Rattle.grid.proofs.Refusals.{answered-tells, passed-tells}
use Rattle.intervals.proofs.SameTables.{same-table}
use Rattle.intervals.specs.declared.final_set.Search.{Ghosts as Searching}
use Rattle.counts.specs.declared.Marking.{Ghosts}
use Rattle.cover.proofs.Sheeted.{one-sheet}
use Rattle.cover.specs.Cover.{Given, Gives}
use Rattle.cover.specs.declared.entry.Outcome.{Outcome}
use Rattle.cover.proofs.slices.last_line
use Rattle.cover.proofs.slices.copper_along
use Rattle.cover.proofs.slices.put_starting
use Rattle.cover.proofs.slices.starting
use Rattle.cover.proofs.flashes.put_flash
use Rattle.cover.proofs.flashes.write_flashes
use Rattle.cover.proofs.marks.write_marks
use Rattle.cover.proofs.sheet.Sheet.of
use Rattle.cover.proofs.sheet.Sheet.checked
use Rattle.cover.proofs.entry.OutcomeFromRefusal.from
use Rattle.cover.proofs.entry.sizes_checked
use Rattle.cover.proofs.entry.raster_checked
use Rattle.cover.proofs.entry.cover_area
use Rattle.cover.proofs.entry.keekaboor_cover
use Rattle.cover.proofs.entry.keekaboor_cover_plain

pub last-line-determined : Determined last_line.Kinds.ps last_line.Kinds.r last_line.Reads.Pre last_line.Reads.Post
last-line-determined κs a pre x y v w p q = (p ∙ sym q, refl)

pub copper-along-determined : Determined copper_along.Kinds.ps copper_along.Kinds.r copper_along.Reads.Pre copper_along.Reads.Post
copper-along-determined κs a pre x y v w p q = (p ∙ sym q, refl)

pub put_starting-determined : Determined put_starting.Kinds.ps put_starting.Kinds.r put_starting.Reads.Pre put_starting.Reads.Post
put_starting-determined κs a pre x y v w p q = (refl, λ i. (tt, (tt, (same-table v.1.1.0 w.1.1.0 (p.0 ∙ sym q.0) (p.1 ∙ sym q.1) i, tt))))

pub starting-determined : Determined starting.Kinds.ps starting.Kinds.r starting.Reads.Pre starting.Reads.Post
starting-determined κs a pre x y v w p q = (same-table x y (p.0 ∙ sym q.0) (p.1 ∙ sym q.1), refl)

pub put_flash-determined : Determined put_flash.Kinds.ps put_flash.Kinds.r put_flash.Reads.Pre put_flash.Reads.Post
put_flash-determined κs a pre x y v w p q = (refl, ap (λ (l : List ℕ). (l, v.1)) (p ∙ sym q))

pub write_flashes-determined : Determined write_flashes.Kinds.ps write_flashes.Kinds.r write_flashes.Reads.Pre write_flashes.Reads.Post
write_flashes-determined κs a pre x y v w p q =
    let c = p.count ∙ sym q.count in
    let o = p.area ∙ sym q.area in
    let f = p.room ∙ sym q.room in
    (λ i. record { count = c i; area = o i }, λ i. (tt, (tt, (f i, tt))))

pub write_marks-determined : Determined write_marks.Kinds.ps write_marks.Kinds.r write_marks.Reads.Pre write_marks.Reads.Post
write_marks-determined κs a pre x y v w p q =
    let m = p.room ∙ sym q.room in
    (p.counted ∙ sym q.counted, λ i. (tt, (tt, (tt, (tt, (m i, tt))))))

pub of-determined : Determined of.Kinds.ps of.Kinds.r of.Reads.Pre of.Reads.Post
of-determined κs a pre x y v w p q = (one-sheet p q, refl)

pub checked-determined : Determined checked.Kinds.ps checked.Kinds.r checked.Reads.Pre checked.Reads.Post
checked-determined κs a pre x y v w p q = (answered-tells x y (p.0 ∙ sym q.0) (λ r s e f. one-sheet (IfOk-at_ok _ e p.1) (IfOk-at_ok _ f q.1)), refl)

pub from-determined : Determined from.Kinds.ps from.Kinds.r from.Reads.Pre from.Reads.Post
from-determined κs a pre x y v w p q = (p ∙ sym q, refl)

pub sizes-checked-determined : Determined sizes_checked.Kinds.ps sizes_checked.Kinds.r sizes_checked.Reads.Pre sizes_checked.Reads.Post
sizes-checked-determined κs a pre x y v w p q = (
  answered-tells x y (p.0 ∙ sym q.0)
      (λ r s e f.
      let g = IfOk-at_ok _ e p.1 in
      let h = IfOk-at_ok _ f q.1 in
      let w = g.0 ∙ sym h.0 in
      let l = g.1 ∙ sym h.1 in
      same-raster r s (λ i. record { width = w i; height = l i }) (g.2 ∙ sym h.2)),
  refl,
)

pub raster-checked-determined : Determined raster_checked.Kinds.ps raster_checked.Kinds.r raster_checked.Reads.Pre raster_checked.Reads.Post
raster-checked-determined κs a pre x y v w p q = (passed-tells x y (p ∙ sym q), refl)

-- by whichever search
module _ (T : RattleType) (L : Laws T) (M : Ghosts T.Denot) (d : Dict) (S : Searching T.Denot) (e : Dict) where
  pub cover-area-determined : Determined (cover_area.Kinds.ps T L) (cover_area.Kinds.r T L) (cover_area.Reads.Pre T L M d S e) (cover_area.Reads.Post T L M d S e)
  cover-area-determined κs a pre x y v w p q =
      let r = p ∙ sym q in
      let f = ap (λ (g : Given). g.flashes_after) r in
      let m = ap (λ (g : Given). g.marks_after) r in
      (ap (λ (g : Given). g.outcome) r, λ i. (tt, (tt, (f i, (m i, tt)))))

pub cover-determined : Determined keekaboor_cover.Kinds.ps keekaboor_cover.Kinds.r keekaboor_cover.Reads.Pre keekaboor_cover.Reads.Post
cover-determined κs a pre x y v w p q =
    let e = p ∙ sym q in
    let f = ap (λ (g : Given). g.flashes_after) e in
    let m = ap (λ (g : Given). g.marks_after) e in
    (ap (λ (g : Given). g.outcome) e, λ i. (tt, (tt, (tt, (tt, (f i, (m i, tt)))))))

pub cover-plain-determined : Determined keekaboor_cover_plain.Kinds.ps keekaboor_cover_plain.Kinds.r keekaboor_cover_plain.Reads.Pre keekaboor_cover_plain.Reads.Post
cover-plain-determined κs a pre x y v w p q =
    let e = p ∙ sym q in
    let f = ap (λ (g : Given). g.flashes_after) e in
    let m = ap (λ (g : Given). g.marks_after) e in
    (ap (λ (g : Given). g.outcome) e, λ i. (tt, (tt, (tt, (tt, (f i, (m i, tt)))))))

-- Whichever search is used, the same outcome and the same bytes (02, R-13).
pub both-covers : Alike keekaboor_cover.Kinds.ps keekaboor_cover.Kinds.r keekaboor_cover.Reads.Pre keekaboor_cover.Reads.Post keekaboor_cover_plain.Reads.Pre keekaboor_cover_plain.Reads.Post
both-covers κs a pre pre' x y v w p q =
    let e = p ∙ sym q in
    let f = ap (λ (g : Given). g.flashes_after) e in
    let m = ap (λ (g : Given). g.marks_after) e in
    (ap (λ (g : Given). g.outcome) e, λ i. (tt, (tt, (tt, (tt, (f i, (m i, tt)))))))

-- answer, place, counts, copper number, and every byte of both rooms
pub determined : (w h k : ℕ) (raster f m : List ℕ) (r s : Outcome) (f' f'' m' m'' : List ℕ) → Gives w h k raster f m r f' m' → Gives w h k raster f m s f'' m''
    → (r ≡ s) × (f' ≡ f'') × (m' ≡ m'')
determined w h k raster f m r s f' f'' m' m'' p q =
    let e = p ∙ sym q in
    (ap (λ (g : Given). g.outcome) e, ap (λ (g : Given). g.flashes_after) e, ap (λ (g : Given). g.marks_after) e)
