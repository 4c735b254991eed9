-- `check_list` meets its contract: the first refusal of the three parts of the chain, or the verdict on what passed them all.
use Rattle.std.proofs.Common.{◌≡◌, sym, ap, ◌∙◌, rules, Err}
use lib.ListN.{length}
use Rattle.grid.specs.Limits.{flash_room_size}
use Rattle.grid.specs.Raster.{area_of}
use Rattle.grid.specs.Answers.{answered}
use Rattle.grid.specs.declared.answers.Answer.{Answer}
use Rattle.grid.proofs.Chain.{chain-past}
use Rattle.columns.proofs.Whole.{passed-unbroken}
use Rattle.cover.specs.Code.{size_checks}
use Rattle.cover.proofs.Checks.{sizes-passed}
use Rattle.listcheck.specs.FlashList.{flashes_of}
use Rattle.listcheck.specs.Checked.{judged}
use Rattle.listcheck.proofs.Refusals.{sizes-refuse, raster-refuses, list-refuses, gives-judged, of-raster}
use Rattle.listcheck.proofs.entry.check_list.Goals as goal

pub returns-in_err-raster : goal.returns-in_err-raster
returns-in_err-raster c = let g = c.args in
    let same : c.from_residual.result ≡ Err c.in_err-raster.field-0.0 = search rules in
    rw same (sizes-refuse g.width g.height g.allowance g.raster.now g.list.now g.mark_room.now _ c.sizes_checked.ensures.value c.in_err-raster.was)

pub returns-in_err-raster_checked : goal.returns-in_err-raster_checked
returns-in_err-raster_checked c = let g = c.args in
    let same : c.from_residual-in_err-raster_checked.result ≡ Err c.in_err-raster_checked.field-0.0 = search rules in
    rw same (raster-refuses g.width g.height g.allowance g.raster.now g.list.now g.mark_room.now _ c.sizes_checked.ensures.value c.in_ok-raster.was
    _ (of-raster c.in_ok-raster.raster c.in_ok-raster.ensures.raster c.raster_checked.ensures) c.in_err-raster_checked.was)

pub returns-in_err-count : goal.returns-in_err-count
returns-in_err-count c = let g = c.args in
    let same : c.from_residual-in_err-count.result ≡ Err c.in_err-count.field-0.0 = search rules in
    rw same (list-refuses g.width g.height g.allowance g.raster.now g.list.now g.mark_room.now _ c.sizes_checked.ensures.value c.in_ok-raster.was
    _ (of-raster c.in_ok-raster.raster c.in_ok-raster.ensures.raster c.raster_checked.ensures) c.in_ok-raster_checked.was
    _ c.list_checked.ensures.value c.in_err-count.was)

pub judge-requires-clause-unbroken : goal.judge-requires-clause-unbroken
judge-requires-clause-unbroken c = passed-unbroken _ _ _ (ap (λ (a : Answer). a.number) (sym c.raster_checked.ensures ∙ ap answered c.in_ok-raster_checked.was))

pub judge-requires-clause-count_value : goal.judge-requires-clause-count_value
judge-requires-clause-count_value c = let g = c.args in
    let cs = size_checks g.width g.height g.allowance (length g.raster.now) flash_room_size (length g.mark_room.now) in
    (c.in_ok-count.ensures.count, (sizes-passed _ _ _ (length g.raster.now) flash_room_size _ (chain-past cs cs c.sizes_checked.ensures.value c.in_ok-raster.was)).mark_room)

pub returns : goal.returns
returns c = let g = c.args in
    let s = c.in_ok-raster.ensures.raster in
    (λ i. record { outcome = c.told.ensures i; marks_after = c.judge.new.mark_room })
    ∙ gives-judged g.width g.height g.allowance g.raster.now g.list.now g.mark_room.now _ c.sizes_checked.ensures.value c.in_ok-raster.was
    _ (of-raster c.in_ok-raster.raster s c.raster_checked.ensures) c.in_ok-raster_checked.was
    _ c.list_checked.ensures.value c.in_ok-count.was
    (c.judge.ensures ∙ (λ i. judged (area_of (s.0 i) (s.1 i) ((s.2 i).now)) (s.0 i) (s.1 i) (flashes_of g.list.now) g.mark_room.now))
