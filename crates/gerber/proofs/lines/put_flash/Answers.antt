-- The pieces of the line, one after the other.
use Rattle.std.proofs.Common.{arith}
use mathlib.Core.Path.{refl, ap}
use lib.IntN.{ℤ}
use lib.ListN.{length}
use mir.Facts.{to_z-of_z}
use Rattle.text.specs.Signed.{signed}
use Rattle.text.proofs.Onward.{start, piece, last}
use Rattle.gerber.specs.File.{flash_line}
use Rattle.gerber.proofs.Pieces.{length_flash}
use Rattle.gerber.proofs.lines.put_flash.Goals as goal

pub put_bytes-across-requires : goal.put_bytes-across-requires
put_bytes-across-requires c = omega (arith, length_flash c.args.x c.args.y)

pub print_signed-upward-requires : goal.print_signed-upward-requires
print_signed-upward-requires c = omega (arith, length_flash c.args.x c.args.y, ap (λ (z : ℤ). length (signed z)) (to_z-of_z c.ranges.x))

pub put_bytes-up-requires : goal.put_bytes-up-requires
put_bytes-up-requires c = omega (arith, length_flash c.args.x c.args.y, ap (λ (z : ℤ). length (signed z)) (to_z-of_z c.ranges.x))

pub print_signed-end-requires : goal.print_signed-end-requires
print_signed-end-requires c = omega (arith, length_flash c.args.x c.args.y, ap (λ (z : ℤ). length (signed z)) (to_z-of_z c.ranges.x), ap (λ (z : ℤ). length (signed z)) (to_z-of_z c.ranges.y))

pub put_bytes-requires : goal.put_bytes-requires
put_bytes-requires c = omega (arith, length_flash c.args.x c.args.y, ap (λ (z : ℤ). length (signed z)) (to_z-of_z c.ranges.x), ap (λ (z : ℤ). length (signed z)) (to_z-of_z c.ranges.y))

pub returns : goal.returns
unfolding flash_line
returns c = last
    (piece
    (piece
    (piece
    (piece (start c.args.room.now c.args.spot (flash_line c.args.x c.args.y) c.requires) _ _ refl c.put_bytes-across.ensures)
    _ _ refl (rw (to_z-of_z c.ranges.x) at c.print_signed-upward.ensures))
    _ _ refl c.put_bytes-up.ensures)
    _ _ refl (rw (to_z-of_z c.ranges.y) at c.print_signed-end.ensures))
    _ refl c.put_bytes.ensures
