-- The line has room where a file has.
use Rattle.std.proofs.Common.{arith}
use Rattle.gerberfile.proofs.Texts.{wrong_fits}
use Rattle.gerberfile.proofs.print.print_wrong.Goals as goal

pub put_line-requires : goal.put_line-requires
put_line-requires c = omega (arith, wrong_fits c.args.word (omega arith), c.requires)
