-- The line as it was tried; where it is not there, each number is set to 0.
use Rattle.text.proofs.Filling.{line_read, line_refused}
use Rattle.text.proofs.line.read_line.Goals as goal

pub returns-then-is_none : goal.returns-then-is_none
returns-then-is_none c = line_refused _ _ _ _ _ _ c.try_line-next.ensures c.if-is_none.ensures c.try_line-next.auto.numbers (c.fill.ensures.after (λ y e. e))

pub returns-else-is_none : goal.returns-else-is_none
returns-else-is_none c = line_read _ _ _ _ _ _ c.try_line-next.ensures c.if-is_none.ensures
