-- What reading the file gave is printed.
use Rattle.std.proofs.Common.{arith, rules}
use Rattle.printed.proofs.Forms.{as_text}
use Rattle.gerberfile.proofs.Back.{few-flashes, read-text}
use Rattle.gerberfile.proofs.print.print_read.Goals as goal

pub print_flashes-requires : goal.print_flashes-requires
print_flashes-requires c = let k = c.args.call in
    let few = few-flashes c.args.text.now k.version k.pitch k.x k.y (search rules) (search rules) c.keekaboor_read_gerber-o.ensures (omega arith) in
    (few, omega (arith, few), c.requires)

pub returns : goal.returns
returns c = let k = c.args.call in
    as_text (read-text c.args.text.now k.version k.pitch k.x k.y (search rules) (search rules) c.keekaboor_read_gerber-o.ensures) c.print_flashes.ensures
