-- The contract of `answer` determines its outcome, the number of bytes and each byte of the room: no second outcome fits.
-- Both are equations with what stands in the contract.
use mathlib.Core.Path.{sym, ap, ◌∙◌}
use mathlib.Core.List.{List}
use Prim.Native.Nat.{ℕ}
use Rattle.grid.proofs.Outcome.{Determined}
use Rattle.flashlist.proofs.answer.answer

pub answer-determined : Determined answer.Kinds.ps answer.Kinds.r answer.Reads.Pre answer.Reads.Post
answer-determined κs a pre x y v w p q = (p.past ∙ sym q.past, ap (λ (l : List ℕ). (v.0, (l, v.1.1))) (p.left ∙ sym q.left))
