-- `cover_area` meets its contract: the sheet's area is the raster's.
use mathlib.Core.Path.{◌∙◌}
use Rattle.cover.specs.Cover.{answered}
use Rattle.cover.proofs.entry.cover_area.Goals as goal

pub returns : goal.returns
returns g c =
    let p = c.args in
    let S = c.of-sheet.ensures in
    c.cover_sheet.ensures ∙ (λ i. answered (S.area i) ((S.size i).width) ((S.size i).height) p.allowance p.flash_room.now p.mark_room.now)
