-- Every public leaf's contract determines its outcome: no second answer fits, and no other byte in a lent room.
-- Each `ensures` is an equation of the answer with a definition, or the two equations of `Written`.
use mathlib.Core.Path.{refl, sym, ◌∙◌}
use Rattle.grid.proofs.Outcome.{Determined}
use Rattle.text.proofs.line.put_line
use Rattle.text.proofs.line.put_record_line
use Rattle.text.proofs.line.put_record_lines
use Rattle.text.proofs.line.read_line
use Rattle.text.proofs.read.read_word
use Rattle.text.proofs.read.read_byte
use Rattle.text.proofs.read.read_body
use Rattle.text.proofs.read.read_number
use Rattle.text.proofs.read.read_field
use Rattle.text.proofs.signed.print_signed
use Rattle.text.proofs.signed.read_signed
use Rattle.text.proofs.write.put_byte
use Rattle.text.proofs.write.put_body
use Rattle.text.proofs.write.put_squares
use Rattle.text.proofs.write.print_number
use Rattle.text.proofs.write.put_digits
use Rattle.text.proofs.write.put_field
use Rattle.text.proofs.write.digit_count

pub read_word_determined : Determined read_word.Kinds.ps read_word.Kinds.r read_word.Reads.Pre read_word.Reads.Post
read_word_determined κs a pre x y v w p q = (p ∙ sym q, refl)

pub read_byte_determined : Determined read_byte.Kinds.ps read_byte.Kinds.r read_byte.Reads.Pre read_byte.Reads.Post
read_byte_determined κs a pre x y v w p q = (p ∙ sym q, refl)

pub read-body-determined : Determined read_body.Kinds.ps read_body.Kinds.r read_body.Reads.Pre read_body.Reads.Post
read-body-determined κs a pre x y v w p q = (p ∙ sym q, refl)

pub read-number-determined : Determined read_number.Kinds.ps read_number.Kinds.r read_number.Reads.Pre read_number.Reads.Post
read-number-determined κs a pre x y v w p q = (p ∙ sym q, refl)

pub read-field-determined : Determined read_field.Kinds.ps read_field.Kinds.r read_field.Reads.Pre read_field.Reads.Post
read-field-determined κs a pre x y v w p q = (p ∙ sym q, refl)

pub digit-count-determined : Determined digit_count.Kinds.ps digit_count.Kinds.r digit_count.Reads.Pre digit_count.Reads.Post
digit-count-determined κs a pre x y v w p q = (p.0 ∙ sym q.0, refl)

pub put_byte_determined : Determined put_byte.Kinds.ps put_byte.Kinds.r put_byte.Reads.Pre put_byte.Reads.Post
put_byte_determined κs a pre x y v w p q = let r = p.left ∙ sym q.left in (p.past ∙ sym q.past, λ i. (r i, (tt, (tt, tt))))

pub put_body-determined : Determined put_body.Kinds.ps put_body.Kinds.r put_body.Reads.Pre put_body.Reads.Post
put_body-determined κs a pre x y v w p q = let r = p.left ∙ sym q.left in (p.past ∙ sym q.past, λ i. (r i, (tt, (tt, tt))))

pub put_squares-determined : Determined put_squares.Kinds.ps put_squares.Kinds.r put_squares.Reads.Pre put_squares.Reads.Post
put_squares-determined κs a pre x y v w p q = let r = p.left ∙ sym q.left in (p.past ∙ sym q.past, λ i. (r i, (tt, (tt, tt))))

pub print_number-determined : Determined print_number.Kinds.ps print_number.Kinds.r print_number.Reads.Pre print_number.Reads.Post
print_number-determined κs a pre x y v w p q = let r = p.left ∙ sym q.left in (p.past ∙ sym q.past, λ i. (r i, (tt, (tt, tt))))

pub put_digits-determined : Determined put_digits.Kinds.ps put_digits.Kinds.r put_digits.Reads.Pre put_digits.Reads.Post
put_digits-determined κs a pre x y v w p q = let r = p.left ∙ sym q.left in (p.past ∙ sym q.past, λ i. (r i, (tt, (tt, (tt, tt)))))

pub put_field-determined : Determined put_field.Kinds.ps put_field.Kinds.r put_field.Reads.Pre put_field.Reads.Post
put_field-determined κs a pre x y v w p q = let r = p.left ∙ sym q.left in (p.past ∙ sym q.past, λ i. (r i, (tt, (tt, tt))))

pub put_line-determined : Determined put_line.Kinds.ps put_line.Kinds.r put_line.Reads.Pre put_line.Reads.Post
put_line-determined κs a pre x y v w p q = let r = p.left ∙ sym q.left in (p.past ∙ sym q.past, λ i. (r i, (tt, (tt, (tt, tt)))))

pub put_record_line-determined : Determined put_record_line.Kinds.ps put_record_line.Kinds.r put_record_line.Reads.Pre put_record_line.Reads.Post
put_record_line-determined κs a pre x y v w p q = let r = p.left ∙ sym q.left in (p.past ∙ sym q.past, λ i. (r i, (tt, (tt, (tt, tt)))))

pub put_record_lines-determined : Determined put_record_lines.Kinds.ps put_record_lines.Kinds.r put_record_lines.Reads.Pre put_record_lines.Reads.Post
put_record_lines-determined κs a pre x y v w p q = let r = p.left ∙ sym q.left in (p.past ∙ sym q.past, λ i. (r i, (tt, (tt, (tt, (tt, (tt, tt)))))))

pub read-line-determined : Determined read_line.Kinds.ps read_line.Kinds.r read_line.Reads.Pre read_line.Reads.Post
read-line-determined κs a pre x y v w p q = let r = p.left ∙ sym q.left in (p.past ∙ sym q.past, λ i. (tt, (tt, (tt, (tt, (r i, tt))))))

pub print_signed-determined : Determined print_signed.Kinds.ps print_signed.Kinds.r print_signed.Reads.Pre print_signed.Reads.Post
print_signed-determined κs a pre x y v w p q = let r = p.left ∙ sym q.left in (p.past ∙ sym q.past, λ i. (r i, (tt, (tt, tt))))

pub read-signed-determined : Determined read_signed.Kinds.ps read_signed.Kinds.r read_signed.Reads.Pre read_signed.Reads.Post
read-signed-determined κs a pre x y v w p q = (p ∙ sym q, refl)
