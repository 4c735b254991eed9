-- The pieces of the line, one after the other.
use mathlib.Core.Path.{refl}
use Rattle.text.proofs.Onward.{start, piece, last}
use Rattle.gerber.specs.File.{select_line}
use Rattle.gerber.proofs.lines.put_select.Goals as goal

pub returns : goal.returns
unfolding select_line
returns c = last
    (piece
    (piece (start c.args.room.now c.args.spot (select_line c.args.k) c.requires.1) _ _ refl c.put_bytes-number.ensures)
    _ _ refl c.print_number-end.ensures)
    _ refl c.put_bytes.ensures
