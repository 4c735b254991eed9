-- A minus, and the number past it; else the number at the spot.
use Rattle.std.proofs.Common.{sym, ap, ◌∙◌, ℕ, Some}
use Rattle.text.specs.Signed.{upward, downward}
use Rattle.text.proofs.Integers.{signed-minus, signed-plain}
use Rattle.text.proofs.Signs.{integer-near, integer-far, downward-is, upward-some, upward-none}
use Rattle.text.proofs.signed.read_signed.Goals as goal

pub returns-in_err-away-in-Some : goal.returns-in_err-away-in-Some
returns-in_err-away-in-Some c = c.from_residual.ensures
    ∙ sym (signed-minus _ _ _ (sym c.read_byte.ensures ∙ c.in-Some.is) ∙ ap downward (sym c.read_number.ensures ∙ c.in_err-away-in-Some.was))

pub returns-then-away-eq0 : goal.returns-then-away-eq0
returns-then-away-eq0 c =
    let number = sym c.read_number.ensures ∙ c.in_ok-away-in-Some.was ∙ ap (λ (n : ℕ). Some (n, c.in_ok-away-in-Some.next)) c.if-away-eq0.true in
    sym (signed-minus _ _ _ (sym c.read_byte.ensures ∙ c.in-Some.is) ∙ ap downward number)

pub returns-in_err-checked_sub_unsigned-in-Some : goal.returns-in_err-checked_sub_unsigned-in-Some
returns-in_err-checked_sub_unsigned-in-Some c = c.from_residual-in_err-checked_sub_unsigned-in-Some.ensures
    ∙ sym (signed-minus _ _ _ (sym c.read_byte.ensures ∙ c.in-Some.is) ∙ ap downward (sym c.read_number.ensures ∙ c.in_ok-away-in-Some.was)
    ∙ downward-is _ _ c.if-away-eq0.false ∙ integer-far _ _ c.in_err-checked_sub_unsigned-in-Some.ensures)

pub returns-in_ok-checked_sub_unsigned-in-Some : goal.returns-in_ok-checked_sub_unsigned-in-Some
returns-in_ok-checked_sub_unsigned-in-Some c = let e = c.in_ok-checked_sub_unsigned-in-Some.ensures in
    sym (signed-minus _ _ _ (sym c.read_byte.ensures ∙ c.in-Some.is) ∙ ap downward (sym c.read_number.ensures ∙ c.in_ok-away-in-Some.was)
    ∙ downward-is _ _ c.if-away-eq0.false ∙ integer-near _ _ e.0 e.1)

pub returns-in_err-value-in-None : goal.returns-in_err-value-in-None
returns-in_err-value-in-None c = c.from_residual-in_err-value-in-None.ensures
    ∙ sym (signed-plain _ _ _ (sym c.read_byte.ensures ∙ c.in-None.is) ∙ ap upward (sym c.read_number-in-None.ensures ∙ c.in_err-value-in-None.was))

pub returns-in_err-ok-in-None : goal.returns-in_err-ok-in-None
returns-in_err-ok-in-None c = c.from_residual-in_err-ok-in-None.ensures
    ∙ sym (signed-plain _ _ _ (sym c.read_byte.ensures ∙ c.in-None.is) ∙ ap upward (sym c.read_number-in-None.ensures ∙ c.in_ok-value-in-None.was)
    ∙ upward-none _ _ _ c.try_from.ensures c.in_err-ok-in-None.ensures.value)

pub returns-in_ok-ok-in-None : goal.returns-in_ok-ok-in-None
returns-in_ok-ok-in-None c =
    sym (signed-plain _ _ _ (sym c.read_byte.ensures ∙ c.in-None.is) ∙ ap upward (sym c.read_number-in-None.ensures ∙ c.in_ok-value-in-None.was)
    ∙ upward-some _ _ _ c.try_from.ensures c.in_ok-ok-in-None.ensures.value)
