-- `write_flash` meets its contract: one record more, its number and its area added.
use Rattle.std.proofs.Common.{arith}
use mathlib.Core.Path.{sym, subst}
use Rattle.grid.specs.Lines.{span_of}
use Rattle.cover.specs.Code.{rectangle_of, Drawn}
use Rattle.cover.proofs.FlashBounds.{stands-drawn, area_small}
use Rattle.cover.proofs.RecordsBehind.{one-added}
use Rattle.cover.proofs.flashes.write_flash.Goals as goal

pub put_flash-requires : goal.put_flash-requires
put_flash-requires c =
    let drawn : Drawn (rectangle_of c.flash_of-q.result) =
    subst Drawn (sym c.flash_of-q.ensures) (stands-drawn _ _ (span_of c.args.i) c.requires.standing) in
    (drawn, omega arith, omega arith)

pub area-requires : goal.area-requires
area-requires c = subst Drawn (sym c.flash_of-q.ensures) (stands-drawn _ _ (span_of c.args.i) c.requires.standing)

pub overflow_add-result-2 : goal.overflow_add-result-2
overflow_add-result-2 c =
    let b = area_small _ (subst Drawn (sym c.flash_of-q.ensures) (stands-drawn _ _ (span_of c.args.i) c.requires.standing)) in
    let d = c.requires.ready in
    omega (arith, c.area.ensures, d.small, d.short)

pub returns : goal.returns
returns c = let d = c.requires.ready in
    one-added (omega (arith, d.short)) (omega (arith, d.lent)) c.flash_of-q.ensures c.area.ensures c.put_flash.ensures
