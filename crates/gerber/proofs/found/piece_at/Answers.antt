-- The piece, and then what closes it.
use mathlib.Core.Path.{sym, ◌∙◌}
use Rattle.gerber.proofs.Compared.{word_none, word_then}
use Rattle.gerber.proofs.found.piece_at.Goals as goal

pub returns-in_err-read_word : goal.returns-in_err-read_word
returns-in_err-read_word c = let a = c.args in
    c.from_residual.ensures ∙ sym (word_none a.text.now a.spot a.piece.now a.close.now (sym c.read_word.ensures ∙ c.in_err-read_word.was))

pub returns : goal.returns
returns c = let a = c.args in
    c.read_word-2.ensures ∙ sym (word_then a.text.now a.spot a.piece.now a.close.now (sym c.read_word.ensures ∙ c.in_ok-read_word.was))
