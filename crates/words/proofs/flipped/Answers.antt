-- `flipped` meets its contract: one bit at its place, against the word.
use borrow.Author.Rules.{rules}
use Rattle.words.specs.Words.{bits}
use Rattle.words.proofs.Operations.{flipped_bits}
use Rattle.words.proofs.flipped.Goals as goal

pub returns : goal.returns
returns c = flipped_bits bits c.args.w c.args.k (search rules)
