-- Field by field. The invariant: as many fields are read as numbers are passed, and what is left to read is the fields from the spot that was reached.
use Rattle.std.proofs.Common.{sym, ◌∙◌}
use Rattle.text.proofs.Filling.{reading, read_next, read-stop, read_done, none-filled}
use Rattle.text.proofs.line.read_fields.Goals as goal

pub loop-number-init : goal.loop-number-init
loop-number-init c = reading _ _ _ _

pub returns-in_err-value : goal.returns-in_err-value
returns-in_err-value c = record {
  past = c.from_residual.ensures ∙ sym (read-stop c.loop-number.invariant c.loop-number-test.true (sym c.read_field.ensures ∙ c.in_err-value.was));
  filled = none-filled _ _ c.from_residual.ensures;
}

pub loop-number-preserved : goal.loop-number-preserved
loop-number-preserved c = read_next c.loop-number.invariant c.loop-number-test.true (sym c.read_field.ensures ∙ c.in_ok-value.was)

pub returns : goal.returns
returns c = let d = read_done c.loop-number.invariant c.loop-number-test.false in record { past = sym d.0; filled = d.1 }
