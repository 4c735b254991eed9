-- As many of the last digits as the number has are its digits.
use Rattle.text.proofs.Turns.{all-last-digits}
use Rattle.text.proofs.write.print_number.Goals as goal

pub returns : goal.returns
returns c = rw (c.digit_count.ensures.value, ← all-last-digits c.args.value) at c.put_digits.ensures
