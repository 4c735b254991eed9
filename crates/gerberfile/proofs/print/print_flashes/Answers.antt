-- The refusal, or the flashes' lines, which have room where a file has.
use Rattle.std.proofs.Common.{arith}
use Rattle.text.proofs.Lengths.{bytes-within}
use Rattle.printed.proofs.Forms.{as_text}
use Rattle.gerberfile.proofs.Texts.{print_fits, flashes-fit, back-flashes, back-refused}
use Rattle.gerberfile.proofs.print.print_flashes.Goals as goal

pub print_refusal-requires : goal.print_refusal-requires
print_refusal-requires c = omega (arith, print_fits, c.requires.2)

pub returns-then-o-ne-DONE : goal.returns-then-o-ne-DONE
returns-then-o-ne-DONE c = let a = c.args in as_text (back-refused a.o a.records.now c.if-o-ne-DONE.true) c.print_refusal.ensures

pub put_record_lines-requires : goal.put_record_lines-requires
put_record_lines-requires c = let a = c.args in
    (c.requires.1, omega (arith, flashes-fit a.o.flashes a.records.now c.requires.0 (bytes-within a.records.now (λ i. (c.type_inv.records i).fits)), c.requires.2))

pub returns : goal.returns
returns c = let a = c.args in as_text (back-flashes a.o a.records.now c.if-o-ne-DONE.false) c.put_record_lines.ensures
