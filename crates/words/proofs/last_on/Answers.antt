-- `last_on` meets its contract: the zeros above the highest digit of the bits before the end are counted.
use borrow.Author.Rules.{rules}
use Rattle.words.specs.Words.{bits}
use Rattle.words.proofs.Found.{last}
use Rattle.words.proofs.last_on.Goals as goal

pub returns : goal.returns
returns c = let a = c.args in last a.w a.before bits c.below.result (search rules) c.below.ensures
