-- The pieces of the line, one after the other.
use mathlib.Core.Path.{refl}
use Rattle.text.proofs.Onward.{start, piece, last}
use Rattle.gerber.specs.File.{aperture_line}
use Rattle.gerber.proofs.lines.put_aperture.Goals as goal

pub returns : goal.returns
unfolding aperture_line
returns c = let a = c.args in
    last
    (piece
    (piece
    (piece
    (piece
    (piece
    (piece (start a.room.now a.spot (aperture_line a.plane.pitch a.k a.size) c.requires.fits) _ _ refl c.put_bytes-number.ensures)
    _ _ refl c.print_number-form.ensures)
    _ _ refl c.put_bytes-wide.ensures)
    _ _ refl c.put_millimetres-times.ensures)
    _ _ refl c.put_bytes-high.ensures)
    _ _ refl c.put_millimetres-end.ensures)
    _ refl c.put_bytes.ensures
