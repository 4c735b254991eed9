-- An aperture that may be selected, and then its number.
use mathlib.Core.Path.{sym, ◌∙◌}
use Rattle.text.specs.Words.{word_at}
use Rattle.gerber.proofs.turns.select_at.Goals as goal

pub returns-then-not-may_select : goal.returns-then-not-may_select
returns-then-not-may_select c = let e = sym c.may_select.ensures ∙ c.if-not-may_select.true in rw e

pub returns : goal.returns
unfolding word_at
returns c = let e = sym c.may_select.ensures ∙ c.if-not-may_select.false in rw e c.number_at.ensures
