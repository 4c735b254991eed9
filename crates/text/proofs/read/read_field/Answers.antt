-- The tab, and then the number past it.
use Rattle.std.proofs.Common.{arith, [], sym, refl, ◌∙◌}
use Rattle.text.specs.Words.{tab}
use Rattle.text.specs.Decimal.{field_at}
use Rattle.text.proofs.Stands.{byte-word, stands-inside}
use Rattle.text.proofs.read.read_field.Goals as goal

pub returns-then-not-has_byte : goal.returns-then-not-has_byte
unfolding field_at
returns-then-not-has_byte c = let a = c.args in rw (byte-word a.text.now a.spot tab (sym c.if-not-has_byte.true ∙ c.has_byte.ensures)) refl

pub overflow_add-spot : goal.overflow_add-spot
overflow_add-spot c = let a = c.args in
    omega (arith, stands-inside a.text.now a.spot tab [] (sym c.has_byte.ensures ∙ c.if-not-has_byte.false))

pub returns : goal.returns
unfolding field_at
returns c = let a = c.args in rw (byte-word a.text.now a.spot tab (sym c.if-not-has_byte.false ∙ c.has_byte.ensures)) c.read_number.ensures
