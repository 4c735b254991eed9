-- The comment, or else the attribute.
use Rattle.std.proofs.Common.{rules}
use Rattle.text.specs.Words.{word_at, begins}
use Rattle.gerber.proofs.ReadOutcomes.{first_either}
use Rattle.gerber.proofs.read.read_first.Goals as goal

pub returns : goal.returns
unfolding word_at begins
returns c = first_either c.args.text.now c.read_word.result c.read_word.ensures c.or_else.ensures (λ p. search rules)
