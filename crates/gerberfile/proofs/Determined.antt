-- No second outcome fits the contract of any function that another file calls: the numbers are a definition's, the bytes are one's, and their number is theirs.
use mathlib.Core.Path.{refl, sym, ◌∙◌}
use Rattle.grid.proofs.Outcome.{Determined}
use Rattle.gerberfile.proofs.call.asked
use Rattle.gerberfile.proofs.call.WrongWord.number
use Rattle.gerberfile.proofs.print.print_wrong
use Rattle.gerberfile.proofs.print.print_file
use Rattle.gerberfile.proofs.print.print_read
use Rattle.gerberfile.proofs.answer.answer

pub asked-determined : Determined asked.Kinds.ps asked.Kinds.r asked.Reads.Pre asked.Reads.Post
asked-determined κs a pre x y v w p q = (p ∙ sym q, refl)

pub number-determined : Determined number.Kinds.ps number.Kinds.r number.Reads.Pre number.Reads.Post
number-determined κs a pre x y v w p q = (p ∙ sym q, refl)

pub print_wrong_determined : Determined print_wrong.Kinds.ps print_wrong.Kinds.r print_wrong.Reads.Pre print_wrong.Reads.Post
print_wrong_determined κs a pre x y v w p q = let m = p.left ∙ sym q.left in (p.past ∙ sym q.past, λ i. (tt, (m i, tt)))

pub print_file-determined : Determined print_file.Kinds.ps print_file.Kinds.r print_file.Reads.Pre print_file.Reads.Post
print_file-determined κs a pre x y v w p q = let m = p.left ∙ sym q.left in (p.past ∙ sym q.past, λ i. (tt, (tt, (tt, (tt, (tt, (m i, tt)))))))

pub print_read-determined : Determined print_read.Kinds.ps print_read.Kinds.r print_read.Reads.Pre print_read.Reads.Post
print_read-determined κs a pre x y v w p q = let m = p.left ∙ sym q.left in (p.past ∙ sym q.past, λ i. (tt, (tt, (m i, tt))))

pub answer-determined : Determined answer.Kinds.ps answer.Kinds.r answer.Reads.Pre answer.Reads.Post
answer-determined κs a pre x y v w p q = let m = p.left ∙ sym q.left in (p.past ∙ sym q.past, λ i. (tt, (tt, (tt, (tt, (tt, (tt, (m i, tt))))))))
