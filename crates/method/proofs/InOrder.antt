-- A listed set stands in order, by left line and then by right line, no interval twice.
-- All intervals over n lines are laid out so, and a listed set keeps some of them.
use mathlib.Core.Path.{◌≡◌, refl, sym, ap, subst}
use mathlib.Core.List.{List}
use mathlib.Core.Logic.{◌⊎◌, inl, inr}
use Prim.Native.Nat.{ℕ, suc, ◌-◌, ◌<◌}
use native.Mathlib.Omega.{arith}
use Rattle.lists.specs.Lists.{from, up_to}
use Rattle.lists.proofs.Members.{In}
use Rattle.lists.proofs.Ranges.{map_in}
use Rattle.lists.proofs.Pairs.{Pairs}
use Rattle.lists.proofs.Related.{pairs_keep, pairs_map, pairs_weaken, pairs_gather, from-rise}
use Rattle.method.specs.Intervals.{Interval, span, beginning_at, every, member}
use Rattle.method.specs.Runs.{Listed}

-- "by left line, then by right line"
abbrev pub Before : Interval → Interval → Type 0
Before i j = (i.left < j.left) ⊎ ((i.left ≡ j.left) × (i.right < j.right))

begins : (n l : ℕ) {i : Interval} → In i (beginning_at n l) → i.left ≡ l
begins n l m = ap (λ (i : Interval). i.left) (map_in (λ r. span l r) (from (suc l) (n - l)) m).2

row_in_order : (n l : ℕ) → Pairs Before (beginning_at n l)
row_in_order n l =
    pairs_map Before (λ r. span l r) (from (suc l) (n - l))
    (pairs_weaken (λ x y. x < y) (λ x y. Before (span l x) (span l y)) (from (suc l) (n - l)) (λ x y k m u. inr (refl, u)) (from-rise (suc l) (n - l)))

pub every_in_order : (n : ℕ) → Pairs Before (every n)
every_in_order n =
    pairs_gather Before (beginning_at n) (up_to n) (λ l m. row_in_order n l)
    (pairs_weaken (λ x y. x < y) (λ x y. (i j : Interval) → In i (beginning_at n x) → In j (beginning_at n y) → Before i j) (up_to n)
    (λ x y k l u i j p q. inl (omega (arith, begins n x p, begins n y q)))
    (from-rise 0 n))

pub listed_in_order : (n : ℕ) (s : List Interval) → Listed n s → Pairs Before s
listed_in_order n s listed = subst (Pairs Before) (sym listed) (pairs_keep Before (λ i. member i s) (every n) (every_in_order n))
