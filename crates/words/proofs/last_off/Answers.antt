-- `last_off` meets its contract: a search in the word turned over.
use mathlib.Core.Path.{◌∙◌}
use borrow.Author.Rules.{rules}
use Rattle.words.specs.Words.{bits}
use Rattle.words.proofs.Operations.{turned_down}
use Rattle.words.proofs.last_off.Goals as goal

pub returns : goal.returns
returns c = c.last_on.ensures ∙ turned_down bits c.args.w c.ranges.w.fits c.args.before (search rules)
