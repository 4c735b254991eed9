-- A refusal of the reader is printed; with a job that was read the list is checked, and what the check gave is printed.
use Rattle.std.proofs.Common.{arith}
use mathlib.Core.Path.{refl}
use Prim.Native.Nat.{◌*◌}
use lib.ListN.{replicate, length-take}
use Rattle.grid.specs.Limits.{raster_room}
use Rattle.printed.proofs.Forms.{as_text}
use Rattle.checklist.proofs.Program.{refused-text, ready}
use Rattle.checklist.proofs.answer.answer.Goals as goal

pub returns-then-read-ne-DONE : goal.returns-then-read-ne-DONE
returns-then-read-ne-DONE c = as_text (refused-text _ c.args.list.now (replicate raster_room 0) _ _ refl c.keekaboor_read_job-read.ensures c.if-read-ne-DONE.true) c.print_refusal.ensures

pub overflow_mul-size : goal.overflow_mul-size
overflow_mul-size c = omega (arith, (ready _ c.args.list.now (replicate raster_room 0) _ _ refl c.keekaboor_read_job-read.ensures c.if-read-ne-DONE.false).small)

pub slice_bounds-room-end : goal.slice_bounds-room-end
slice_bounds-room-end c = omega (arith, (ready _ c.args.list.now (replicate raster_room 0) _ _ refl c.keekaboor_read_job-read.ensures c.if-read-ne-DONE.false).small)

pub slice_bounds-print_check-end : goal.slice_bounds-print_check-end
slice_bounds-print_check-end c = let r = c.keekaboor_read_job-read in
    omega (arith, (ready _ c.args.list.now (replicate raster_room 0) _ _ refl r.ensures c.if-read-ne-DONE.false).small, length-take (r.result.width * r.result.height) r.new.raster_room)

pub returns : goal.returns
returns c = as_text (ready _ c.args.list.now (replicate raster_room 0) _ _ refl c.keekaboor_read_job-read.ensures c.if-read-ne-DONE.false).same c.print_check.ensures
