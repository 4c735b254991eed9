-- What the digits say, judged for a leading zero.
use Rattle.std.proofs.Common.{arith, sym, ◌∙◌, length-take-le}
use Rattle.text.proofs.Turns.{number-none, count-read, digits-fit, number-judged, some-number}
use Rattle.text.proofs.read.read_number.Goals as goal

pub returns-in_err-value : goal.returns-in_err-value
returns-in_err-value c = c.from_residual.ensures ∙ sym (number-none _ _ _ (sym c.read_digits.ensures ∙ c.in_err-value.was))

pub slice_bounds-is_plain-length : goal.slice_bounds-is_plain-length
slice_bounds-is_plain-length c = let f = digits-fit _ _ _ _ _ (sym c.read_digits.ensures ∙ c.in_ok-value.was) c.rest.ensures in sym (length-take-le _ _ f)

pub slice_bounds-is_plain-count : goal.slice_bounds-is_plain-count
slice_bounds-is_plain-count c = omega (arith, count-read _ _ _ _ _ (sym c.read_digits.ensures ∙ c.in_ok-value.was))

pub returns : goal.returns
returns c = c.then_some.ensures ∙ some-number _ _ _ ∙ sym (number-judged _ _ _ _ _ (sym c.read_digits.ensures ∙ c.in_ok-value.was) c.rest.ensures c.is_plain.ensures)
