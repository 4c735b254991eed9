-- `has` meets its contract: the test of the lines, and then that of the bit, is what membership comes to.
use mathlib.Core.Path.{sym, ◌∙◌}
use Rattle.grid.specs.Lines.{span_of}
use Rattle.intervals.proofs.TableLaws.{has-bit, has-none}
use Rattle.intervals.proofs.Table.has.Goals as goal

pub returns-then-within : goal.returns-then-within
returns-then-within c = let a = c.args in
    c.is_on.ensures ∙ has-bit a.self.now.last.0 a.self.now.rows (span_of a.i) (sym c.within.ensures ∙ c.if-within.true)

pub returns-else-within : goal.returns-else-within
returns-else-within c = let a = c.args in
    c.if-within.false ∙ has-none a.self.now.last.0 a.self.now.rows (span_of a.i) (sym c.within.ensures ∙ c.if-within.false)
