-- `checked` meets its contract: one chain of checks behind the other.
use Rattle.std.proofs.Common.{◌≡◌, sym, ap, ◌∙◌, length, rules, Err}
use Rattle.grid.specs.Answers as Answers
use Rattle.grid.specs.Answers.{first_refusal}
use Rattle.grid.proofs.Chain.{chain-stops, chain-goes-on}
use Rattle.columns.specs.Columns.{raster_checks}
use Rattle.cover.specs.Code.{size_checks}
use Rattle.cover.proofs.entry.checked.Goals as goal

pub returns-in_err-raster-clause-value : goal.returns-in_err-raster-clause-value
returns-in_err-raster-clause-value c =
    let g = c.args in
    let same : c.from_residual.result ≡ Err c.in_err-raster.field-0.0 = search rules in
    let cs = size_checks g.width g.height g.allowance (length g.raster.now) (length g.flash_room.now) (length g.mark_room.now) in
    ap Answers.answered same ∙ chain-stops cs (raster_checks g.width g.height g.raster.now) c.sizes_checked.ensures.value c.in_err-raster.was

pub returns-clause-value : goal.returns-clause-value
returns-clause-value c =
    let g = c.args in
    let r = c.in_ok-raster.ensures.raster in
    let cs = size_checks g.width g.height g.allowance (length g.raster.now) (length g.flash_room.now) (length g.mark_room.now) in
    c.fill.ensures.value
    ∙ (λ i. first_refusal (raster_checks (r.0 i) (r.1 i) ((r.2 i).now)))
    ∙ sym (chain-goes-on cs (raster_checks g.width g.height g.raster.now) c.sizes_checked.ensures.value c.in_ok-raster.was)
