-- Every public function's contract determines its outcome, the number of bytes and each byte of the room: no second outcome fits.
-- Both are equations with what stands in the contract.
use mathlib.Core.Path.{sym, ap, ◌∙◌}
use mathlib.Core.List.{List}
use Prim.Native.Nat.{ℕ}
use Rattle.grid.proofs.Outcome.{Determined}
use Rattle.printed.proofs.outcome.print_outcome
use Rattle.printed.proofs.outcome.print_refusal

pub print_outcome-determined : Determined print_outcome.Kinds.ps print_outcome.Kinds.r print_outcome.Reads.Pre print_outcome.Reads.Post
print_outcome-determined κs a pre x y v w p q = (p.past ∙ sym q.past, ap (λ (l : List ℕ). (v.0, (v.1.0, (v.1.1.0, (l, v.1.1.1.1))))) (p.left ∙ sym q.left))

pub print_refusal-determined : Determined print_refusal.Kinds.ps print_refusal.Kinds.r print_refusal.Reads.Pre print_refusal.Reads.Post
print_refusal-determined κs a pre x y v w p q = let m = p.left ∙ sym q.left in (p.past ∙ sym q.past, λ i. (tt, (m i, tt)))
