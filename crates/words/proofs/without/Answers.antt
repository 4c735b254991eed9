-- `without` meets its contract: the word under all bits but one.
use borrow.Author.Rules.{rules}
use Rattle.words.specs.Words.{bits}
use Rattle.words.proofs.Operations.{without-bits}
use Rattle.words.proofs.without.Goals as goal

pub returns : goal.returns
returns c = without-bits bits c.args.w c.args.k c.ranges.w.fits (search rules)
