-- What is printed is the piece.
use Rattle.std.proofs.Common.{arith}
use mathlib.Core.Path.{sym, ap, ◌∙◌}
use mathlib.Core.List.{◌++◌}
use lib.Seq.{length-take-le}
use Rattle.text.specs.Words.{word_at}
use Rattle.gerber.proofs.Compared.{number_fits, printed}
use Rattle.gerber.proofs.found.number_at.Goals as goal

pub slice_bounds-piece_at-end : goal.slice_bounds-piece_at-end
slice_bounds-piece_at-end c = sym (length-take-le _ c.print_number-end.new.room (omega (arith, number_fits c.args.number (omega arith), c.print_number-end.ensures.past, c.print_number-end.auto.room)))

pub returns : goal.returns
returns c = c.piece_at.ensures ∙ ap (λ p. word_at c.args.text.now c.args.spot (p ++ c.args.close.now)) (printed c.print_number-end.ensures)
