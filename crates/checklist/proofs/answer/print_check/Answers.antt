-- The check's outcome and marks, printed.
use Rattle.std.proofs.Common.{arith}
use lib.ListN.{replicate}
use Rattle.grid.specs.Limits.{mark_room_size}
use Rattle.listcheck.proofs.Few.{few-marks}
use Rattle.printed.proofs.Forms.{as_text}
use Rattle.checklist.proofs.Program.{given-text}
use Rattle.checklist.proofs.answer.print_check.Goals as goal

pub print_checked-requires : goal.print_checked-requires
print_checked-requires c = let a = c.args in
    let g = c.keekaboor_check-checked in
    let few = few-marks a.width a.height a.allowance a.raster.now a.list.now (replicate mark_room_size 0) g.result g.new.mark_room g.ensures in
    (few, omega arith, c.requires)

pub returns : goal.returns
returns c = let a = c.args in
    let g = c.keekaboor_check-checked in
    as_text (given-text a.width a.height a.allowance a.raster.now a.list.now (replicate mark_room_size 0) g.result g.new.mark_room g.ensures)
    c.print_checked.ensures
