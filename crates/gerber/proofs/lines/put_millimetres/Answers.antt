-- The pieces, one after the other.
use mathlib.Core.Path.{refl}
use Rattle.text.proofs.Onward.{start, piece, last}
use Rattle.gerber.specs.File.{millimetres}
use Rattle.gerber.proofs.lines.put_millimetres.Goals as goal

pub returns : goal.returns
unfolding millimetres
returns c = last
    (piece
    (piece (start c.args.room.now c.args.spot (millimetres c.args.value) c.requires) _ _ refl c.print_number-point.ensures)
    _ _ refl c.put_bytes-digits.ensures)
    _ refl c.put_digits.ensures
