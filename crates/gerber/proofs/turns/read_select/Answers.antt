-- The letter, and then the number.
use mathlib.Core.Path.{sym, ◌∙◌}
use Rattle.gerber.proofs.SelectRead.{select-none, select-then}
use Rattle.gerber.proofs.turns.read_select.Goals as goal

pub returns-in_err-number : goal.returns-in_err-number
returns-in_err-number c = c.from_residual.ensures ∙ sym (select-none _ _ _ (sym c.read_word.ensures ∙ c.in_err-number.was))

pub returns : goal.returns
returns c = c.find_select.ensures ∙ sym (select-then _ _ _ (sym c.read_word.ensures ∙ c.in_ok-number.was))
