-- The cover's outcome and records, printed.
use Rattle.std.proofs.Common.{arith}
use lib.ListN.{replicate}
use Rattle.grid.specs.Limits.{flash_room_size, mark_room_size}
use Rattle.printed.proofs.Forms.{as_text}
use Rattle.flashlist.proofs.Program.{printable, given-text}
use Rattle.flashlist.proofs.answer.print_cover.Goals as goal

pub print_outcome-requires : goal.print_outcome-requires
print_outcome-requires c = let a = c.args in
    let g = c.keekaboor_cover-outcome in
    printable a.width a.height a.allowance a.raster.now (replicate flash_room_size 0) (replicate mark_room_size 0) g.result g.new.flash_room g.new.mark_room
    g.ensures (omega arith) (omega arith) a.out.now c.requires

pub returns : goal.returns
returns c = let a = c.args in
    let g = c.keekaboor_cover-outcome in
    as_text (given-text a.width a.height a.allowance a.raster.now (replicate flash_room_size 0) (replicate mark_room_size 0) g.result g.new.flash_room g.new.mark_room g.ensures)
    c.print_outcome.ensures
