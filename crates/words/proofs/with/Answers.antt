-- `with` meets its contract: one bit at its place, joined to the word.
use borrow.Author.Rules.{rules}
use Rattle.words.specs.Words.{bits}
use Rattle.words.proofs.Operations.{with-bits}
use Rattle.words.proofs.with.Goals as goal

pub returns : goal.returns
returns c = with-bits bits c.args.w c.args.k (search rules)
