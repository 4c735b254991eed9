-- No second outcome fits the contract of `answer` or of `print_checked`: the bytes are a definition's, and their number is theirs.
use mathlib.Core.Path.{sym, ◌∙◌}
use Rattle.grid.proofs.Outcome.{Determined}
use Rattle.checklist.proofs.print.print_checked
use Rattle.checklist.proofs.answer.answer

pub print_checked-determined : Determined print_checked.Kinds.ps print_checked.Kinds.r print_checked.Reads.Pre print_checked.Reads.Post
print_checked-determined κs a pre x y v w p q = let m = p.left ∙ sym q.left in (p.past ∙ sym q.past, λ i. (tt, (tt, (m i, tt))))

pub answer-determined : Determined answer.Kinds.ps answer.Kinds.r answer.Reads.Pre answer.Reads.Post
answer-determined κs a pre x y v w p q = let m = p.left ∙ sym q.left in (p.past ∙ sym q.past, λ i. (tt, (tt, (m i, tt))))
