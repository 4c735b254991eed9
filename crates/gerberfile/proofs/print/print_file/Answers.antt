-- What writing gave is printed: the refusal with its marks, or the file.
use Rattle.std.proofs.Common.{arith, rules}
use lib.ListN.{length-take}
use Rattle.printed.proofs.Forms.{as_text}
use Rattle.gerberfile.proofs.Texts.{print_fits, few-marks, short-file, file-text, refused-text}
use Rattle.gerberfile.proofs.print.print_file.Goals as goal

pub print_outcome-requires : goal.print_outcome-requires
print_outcome-requires c = let a = c.args in
    let few = few-marks a.width a.height a.allowance a.raster.now a.call.version a.call.pitch a.call.x a.call.y (search rules) (search rules)
    c.keekaboor_write_gerber-o.ensures in
    record { few-flashes = omega arith; few-marks = few; flashes-held = omega arith; marks-held = omega (arith, few); room = omega (arith, print_fits, c.requires) }

pub returns-then-o-ne-DONE : goal.returns-then-o-ne-DONE
returns-then-o-ne-DONE c = let a = c.args in
    as_text (refused-text a.width a.height a.allowance a.raster.now a.call.version a.call.pitch a.call.x a.call.y (search rules) (search rules)
    c.keekaboor_write_gerber-o.ensures c.if-o-ne-DONE.true) c.print_outcome.ensures

pub slice_bounds-file_room-end : goal.slice_bounds-file_room-end
slice_bounds-file_room-end c = let a = c.args in
    omega (
      arith,
      short-file a.width a.height a.allowance a.raster.now a.call.version a.call.pitch a.call.x a.call.y (search rules) (search rules)
          c.keekaboor_write_gerber-o.ensures,
    )

pub slice_bounds-put_bytes-end : goal.slice_bounds-put_bytes-end
slice_bounds-put_bytes-end c = let a = c.args in
    let o = c.keekaboor_write_gerber-o in
    omega (
      arith,
      short-file a.width a.height a.allowance a.raster.now a.call.version a.call.pitch a.call.x a.call.y (search rules) (search rules)
          o.ensures,
      length-take o.result.length o.new.file_room,
    )

pub put_bytes-requires : goal.put_bytes-requires
put_bytes-requires c = let a = c.args in
    let o = c.keekaboor_write_gerber-o in
    omega (
      arith,
      short-file a.width a.height a.allowance a.raster.now a.call.version a.call.pitch a.call.x a.call.y (search rules) (search rules)
          o.ensures,
      c.requires,
      length-take o.result.length o.new.file_room,
    )

pub returns : goal.returns
returns c = let a = c.args in
    as_text (file-text a.width a.height a.allowance a.raster.now a.call.version a.call.pitch a.call.x a.call.y (search rules) (search rules)
    c.keekaboor_write_gerber-o.ensures c.if-o-ne-DONE.false) c.put_bytes.ensures
