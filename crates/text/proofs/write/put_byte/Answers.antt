-- One byte stored is a writing of one byte.
use mathlib.Core.Path.{refl}
use Rattle.grid.proofs.Writing.{written-set}
use Rattle.text.proofs.write.put_byte.Goals as goal

pub returns : goal.returns
returns c = record { past = refl; left = written-set c.args.room.now c.args.spot c.args.byte c.requires }
