-- A digit too many for the limit ends the reading with nothing, another byte and the text's end with the value so far.
use Rattle.std.proofs.Common.{arith, sym, ◌∙◌}
use Rattle.text.proofs.Turns.{on-ended, on-other, on-digit, digit-over}
use Rattle.text.proofs.read.read_digits.Goals as goal

pub returns-in_err-most : goal.returns-in_err-most
returns-in_err-most c = let l = c.loop-byte in
    let d = sym c.is_ascii_digit.ensures.value ∙ c.if-not-is_ascii_digit.false in
    let n = c.in_err-most.ensures in
    let f = c.from-digit.ensures in
    c.from_residual.ensures
    ∙ sym (l.invariant.2 ∙ digit-over _ _ _ _ _ _ c.rest-byte-items.ensures l.invariant.1 c.loop-byte-test.true d (omega arith))

pub returns-then-most-value : goal.returns-then-most-value
returns-then-most-value c = let l = c.loop-byte in
    let d = sym c.is_ascii_digit.ensures.value ∙ c.if-not-is_ascii_digit.false in
    let n = c.in_ok-most.ensures in
    let f = c.from-digit.ensures in
    sym (l.invariant.2 ∙ digit-over _ _ _ _ _ _ c.rest-byte-items.ensures l.invariant.1 c.loop-byte-test.true d (omega arith))

pub loop-byte-preserved : goal.loop-byte-preserved
loop-byte-preserved c = let l = c.loop-byte in
    let d = sym c.is_ascii_digit.ensures.value ∙ c.if-not-is_ascii_digit.false in
    let n = c.in_ok-most.ensures in
    let f = c.from-digit.ensures in (
      omega arith,
      omega arith,
      rw (f) (l.invariant.2 ∙ on-digit _ _ _ _ _ _ c.rest-byte-items.ensures l.invariant.1 c.loop-byte-test.true d),
    )

pub returns-after-loop-byte : goal.returns-after-loop-byte
returns-after-loop-byte c = let l = c.loop-byte in
    sym (l.invariant.2 ∙ on-ended _ _ _ _ _ _ c.rest-byte-items.ensures l.invariant.1 (omega arith) l.invariant.0)

pub returns-then-not-is_ascii_digit : goal.returns-then-not-is_ascii_digit
returns-then-not-is_ascii_digit c = let l = c.loop-byte in
    let d = sym c.is_ascii_digit.ensures.value ∙ c.if-not-is_ascii_digit.true in
    sym (l.invariant.2 ∙ on-other _ _ _ _ _ _ c.rest-byte-items.ensures l.invariant.1 c.loop-byte-test.true d l.invariant.0)
