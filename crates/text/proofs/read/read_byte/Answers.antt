-- A byte that stands there lies in the text.
use Rattle.std.proofs.Common.{arith, [], sym, ◌∙◌}
use Rattle.text.proofs.Stands.{byte-word, stands-inside}
use Rattle.text.proofs.read.read_byte.Goals as goal

pub overflow_add-result : goal.overflow_add-result
overflow_add-result c = let a = c.args in
    omega (arith, stands-inside a.text.now a.spot a.byte [] (sym c.has_byte.ensures ∙ c.if-has_byte.true))

pub returns-then-has_byte : goal.returns-then-has_byte
returns-then-has_byte c = let a = c.args in sym (byte-word a.text.now a.spot a.byte (sym c.if-has_byte.true ∙ c.has_byte.ensures))

pub returns-else-has_byte : goal.returns-else-has_byte
returns-else-has_byte c = let a = c.args in sym (byte-word a.text.now a.spot a.byte (sym c.if-has_byte.false ∙ c.has_byte.ensures))
