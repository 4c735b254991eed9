-- `below` meets its contract: the word under the bits before the end; at the end of a word, all of it.
use Rattle.words.specs.Words.{bits}
use Rattle.words.proofs.Operations.{below-bits, whole-bits}
use Rattle.words.proofs.below.Goals as goal

pub returns-then-end-ge-BITS : goal.returns-then-end-ge-BITS
returns-then-end-ge-BITS c = whole-bits bits c.args.w c.args.end c.ranges.w.fits c.if-end-ge-BITS.true

pub returns : goal.returns
returns c = below-bits bits c.args.w c.args.end c.if-end-ge-BITS.false
