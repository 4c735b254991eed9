-- A refusal of the reader is printed; a job that was read is written, and what that gave is printed.
use Rattle.std.proofs.Common.{arith}
use mathlib.Core.Path.{refl}
use Prim.Native.Nat.{◌*◌}
use lib.ListN.{replicate, length-take}
use Rattle.grid.specs.Limits.{raster_room}
use Rattle.printed.proofs.Forms.{as_text}
use Rattle.gerberfile.proofs.Texts.{print_fits}
use Rattle.gerberfile.proofs.Program.{unread, ready}
use Rattle.gerberfile.proofs.answer.print_job.Goals as goal

pub print_refusal-requires : goal.print_refusal-requires
print_refusal-requires c = omega (arith, print_fits, c.requires)

pub returns-then-read-ne-DONE : goal.returns-then-read-ne-DONE
returns-then-read-ne-DONE c = let k = c.args.call in
    as_text (unread _ k.version k.pitch k.x k.y (replicate raster_room 0) _ _ refl c.keekaboor_read_job-read.ensures c.if-read-ne-DONE.true) c.print_refusal.ensures

pub overflow_mul-size : goal.overflow_mul-size
overflow_mul-size c = let k = c.args.call in
    omega (arith, (ready _ k.version k.pitch k.x k.y (replicate raster_room 0) _ _ refl c.keekaboor_read_job-read.ensures c.if-read-ne-DONE.false).small)

pub slice_bounds-room-end : goal.slice_bounds-room-end
slice_bounds-room-end c = let k = c.args.call in
    omega (arith, (ready _ k.version k.pitch k.x k.y (replicate raster_room 0) _ _ refl c.keekaboor_read_job-read.ensures c.if-read-ne-DONE.false).small)

pub slice_bounds-print_file-end : goal.slice_bounds-print_file-end
slice_bounds-print_file-end c = let k = c.args.call in
    let r = c.keekaboor_read_job-read in
    omega (arith, (ready _ k.version k.pitch k.x k.y (replicate raster_room 0) _ _ refl r.ensures c.if-read-ne-DONE.false).small, length-take (r.result.width * r.result.height) r.new.raster_room)

pub returns : goal.returns
returns c = let k = c.args.call in
    as_text (ready _ k.version k.pitch k.x k.y (replicate raster_room 0) _ _ refl c.keekaboor_read_job-read.ensures c.if-read-ne-DONE.false).same c.print_file.ensures
