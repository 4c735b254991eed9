-- A set over the lines of the largest grid has at most as many intervals as run between them, so the room for brackets holds a record for each.
-- From line l run as many as there are lines beyond it; summed from the last line down.
use mathlib.Core.Path.{◌≡◌, refl, ap, ◌∙◌}
use mathlib.Core.List.{List}
use mathlib.Core.Logic.{by_cases}
use Prim.Native.Nat.{ℕ, zero, suc, ◌+◌, ◌-◌, ◌*◌, ◌≤◌}
use native.Mathlib.Omega.{arith}
use native.Mathlib.Decide.{dec_le}
use lib.ListN.{length, get_or, length-append, length-map, replicate, length-replicate}
use Rattle.lists.specs.Lists.{gather, from}
use Rattle.lists.proofs.Keep.{count-length, count-at-most}
use Rattle.lists.proofs.Ranges.{length_from}
use Rattle.method.specs.Intervals.{Interval as Span, span, beginning_at, every}
use Rattle.grid.specs.Limits.{side, bracket_record, bracket_room}
use Rattle.words.specs.Words.{on}
use Rattle.intervals.specs.Finished.{Roomy}
use Rattle.intervals.specs.Table.{set_of}

-- 1 + 2 + .. + n
abbrev sum_to : ℕ → ℕ
sum_to zero = 0
sum_to (suc n) = suc n + sum_to n

sum_rises : (m n : ℕ) → m ≤ n → sum_to m ≤ sum_to n
sum_rises m zero h = let e : m ≡ 0 = omega arith in omega (arith, ap sum_to e)
sum_rises m (suc n) h =
    by_cases (dec_le m n) (λ u. omega (arith, sum_rises m n u)) (λ u. let e : m ≡ suc n = omega arith in omega (arith, ap sum_to e))

from-line : (n l : ℕ) → length (beginning_at n l) ≡ n - l
from-line n l = length-map (from (suc l) (n - l)) (λ r. span l r) ∙ length_from (suc l) (n - l)

from-lines : (n a m : ℕ) → a + m ≡ n → length (gather (beginning_at n) (from a m)) ≡ sum_to m
from-lines n a zero e = refl
from-lines n a (suc m) e =
    length-append (beginning_at n a) (gather (beginning_at n) (from (suc a) m)) ∙ omega (arith, from-line n a, from-lines n (suc a) m (omega arith))

pub set_bound : (n : ℕ) (t : List ℕ) → n ≤ side → length (set_of n t) * bracket_record ≤ bracket_room
unfolding set_of
set_bound n t h =
    omega (
      arith,
      sum_rises n side h,
      count-length (λ (i : Span). on (get_or t i.left 0) (i.right - 1)) (every n),
      count-at-most (λ (i : Span). on (get_or t i.left 0) (i.right - 1)) (every n),
      from-lines n 0 n (omega arith),
    )

-- a room of that length, cleared
pub room-holds : (n : ℕ) (t : List ℕ) (m : ℕ) → m ≡ bracket_room → n ≤ side → Roomy (set_of n t) (replicate m 0)
room-holds n t m e h = omega (arith, length-replicate {A = ℕ} m 0, set_bound n t h)
