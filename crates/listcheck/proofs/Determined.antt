-- No second outcome fits a public function's contract: what it returns and what it leaves behind each reference are determined.
-- Each `ensures` is an equation with a definition.
use mathlib.Core.Path.{refl, sym, ap, ◌∙◌}
use Rattle.grid.proofs.Outcome.{Determined}
use Rattle.listcheck.specs.Checked.{Given}
use Rattle.listcheck.proofs.lines.read_flash
use Rattle.listcheck.proofs.lines.count_lines
use Rattle.listcheck.proofs.flash.is_good
use Rattle.listcheck.proofs.flash.bad_line
use Rattle.listcheck.proofs.bare.is_held
use Rattle.listcheck.proofs.bare.bare_square
use Rattle.listcheck.proofs.entry.keekaboor_check
use Rattle.listcheck.proofs.entry.CheckedFromRefusal.from as refused

pub read-flash-determined : Determined read_flash.Kinds.ps read_flash.Kinds.r read_flash.Reads.Pre read_flash.Reads.Post
read-flash-determined κs a pre x y v w p q = (p ∙ sym q, refl)

pub count-lines-determined : Determined count_lines.Kinds.ps count_lines.Kinds.r count_lines.Reads.Pre count_lines.Reads.Post
count-lines-determined κs a pre x y v w p q = (p ∙ sym q, refl)

pub is-good-determined : Determined is_good.Kinds.ps is_good.Kinds.r is_good.Reads.Pre is_good.Reads.Post
is-good-determined κs a pre x y v w p q = (p ∙ sym q, refl)

pub bad-line-determined : Determined bad_line.Kinds.ps bad_line.Kinds.r bad_line.Reads.Pre bad_line.Reads.Post
bad-line-determined κs a pre x y v w p q = (p ∙ sym q, refl)

pub is-held-determined : Determined is_held.Kinds.ps is_held.Kinds.r is_held.Reads.Pre is_held.Reads.Post
is-held-determined κs a pre x y v w p q = (p ∙ sym q, refl)

pub bare-square-determined : Determined bare_square.Kinds.ps bare_square.Kinds.r bare_square.Reads.Pre bare_square.Reads.Post
bare-square-determined κs a pre x y v w p q = (p ∙ sym q, refl)

pub check-determined : Determined keekaboor_check.Kinds.ps keekaboor_check.Kinds.r keekaboor_check.Reads.Pre keekaboor_check.Reads.Post
check-determined κs a pre x y v w p q =
    let e = p ∙ sym q in
    let m = ap (λ (g : Given). g.marks_after) e in
    (ap (λ (g : Given). g.outcome) e, λ i. (tt, (tt, (tt, (tt, (tt, (m i, tt)))))))

pub refused-determined : Determined refused.Kinds.ps refused.Kinds.r refused.Reads.Pre refused.Reads.Post
refused-determined κs a pre x y v w p q = (p ∙ sym q, refl)
