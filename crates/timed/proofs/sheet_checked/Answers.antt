-- `sheet_checked` meets its contract: one chain of checks behind the other.
use Rattle.std.proofs.Common.{◌≡◌, sym, ap, ◌∙◌, length, rules, Err}
use Rattle.grid.specs.Answers.{answered, first_refusal}
use Rattle.grid.specs.Limits.{flash_room_size, mark_room_size}
use Rattle.grid.proofs.Chain.{chain-stops, chain-goes-on}
use Rattle.columns.specs.Columns.{raster_checks}
use Rattle.cover.specs.Code.{size_checks}
use Rattle.timed.proofs.sheet_checked.Goals as goal

pub returns-in_err-sizes_checked-clause-value : goal.returns-in_err-sizes_checked-clause-value
returns-in_err-sizes_checked-clause-value c =
    let g = c.args in
    let same : c.from_residual.result ≡ Err c.in_err-sizes_checked.field-0.0 = search rules in
    let cs = size_checks g.width g.height 0 (length g.raster.now) flash_room_size mark_room_size in
    ap answered same ∙ chain-stops cs (raster_checks g.width g.height g.raster.now) c.sizes_checked.ensures.value c.in_err-sizes_checked.was

pub returns-clause-value : goal.returns-clause-value
returns-clause-value c =
    let g = c.args in
    let r = c.in_ok-sizes_checked.ensures.raster in
    let cs = size_checks g.width g.height 0 (length g.raster.now) flash_room_size mark_room_size in
    c.checked.ensures.value
    ∙ (λ i. first_refusal (raster_checks (r.0 i) (r.1 i) ((r.2 i).now)))
    ∙ sym (chain-goes-on cs (raster_checks g.width g.height g.raster.now) c.sizes_checked.ensures.value c.in_ok-sizes_checked.was)
