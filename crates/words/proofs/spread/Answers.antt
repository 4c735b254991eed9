-- `spread` meets its contract: the word, halved and doubled.
use Rattle.words.specs.Words.{bits}
use Rattle.words.proofs.Operations.{spread_bits}
use Rattle.words.proofs.spread.Goals as goal

pub returns : goal.returns
returns c = spread_bits bits c.args.w c.ranges.w.fits
