-- `cover_checked` meets its contract: a refusal, or the work of what passed every check.
use mathlib.Core.Path.{sym, ap, ◌∙◌}
use Rattle.grid.specs.Answers as Answers
use Rattle.cover.specs.Cover.{answered}
use Rattle.cover.proofs.Checks.{done-asked}
use Rattle.cover.proofs.Refusals.{gives-refused, gives_worked}
use Rattle.cover.proofs.entry.cover_checked.Goals as goal

pub cover_sheet-requires : goal.cover_sheet-requires
cover_sheet-requires g c = let p = c.args in
    let a = done-asked p.width p.height p.allowance p.raster.now p.flash_room.now p.mark_room.now c.in-Ok.ensures.value in
    (a.allowance, a.flashes-fit, a.marks-fit)

pub returns-in-Ok : goal.returns-in-Ok
returns-in-Ok g c =
    let p = c.args in
    let s = c.in-Ok.ensures.sheet in
    gives_worked _ _ _ _ _ _ c.in-Ok.ensures.value
    (c.cover_sheet.ensures ∙ (λ i. answered (s.2 i) (s.0 i) (s.1 i) p.allowance p.flash_room.now p.mark_room.now))

pub returns-in-Err : goal.returns-in-Err
returns-in-Err g c = gives-refused _ _ _ _ _ _ c.in-Err.refusal (sym (ap Answers.answered c.in-Err.is) ∙ c.checked.ensures.value) c.into.ensures
