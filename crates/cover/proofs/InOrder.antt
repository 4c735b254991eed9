-- Flashes stand in the order of rule 7, by first column and then by last column, no two with the same columns.
-- The final set is listed, and a flash keeps the lines of its interval.
use mathlib.Core.Path.{◌≡◌}
use mathlib.Core.Logic.{◌⊎◌, inl, inr, ⊎_elim}
use Prim.Native.Nat.{ℕ, ◌<◌}
use native.Mathlib.Omega.{arith}
use Rattle.lists.proofs.Pairs.{Pairs}
use Rattle.lists.proofs.Related.{pairs_map, pairs_weaken}
use Rattle.method.specs.Final.{final}
use Rattle.method.proofs.InOrder.{Before, listed_in_order}
use Rattle.method.proofs.Listed.{in_member}
use Rattle.method.proofs.Final.{final-listed}
use Rattle.grid.specs.Squares.{Area, Rectangle}
use Rattle.cover.specs.Slices.{starting}
use Rattle.cover.specs.Flashes.{flash, flashes}
use Rattle.cover.proofs.Starting.{starting-listed}
use Rattle.cover.proofs.Covering.{final-lines}

-- "by first column, then by last column"
abbrev pub Ahead : Rectangle → Rectangle → Type 0
Ahead p q = (p.first < q.first) ⊎ ((p.first ≡ q.first) × (p.last < q.last))

pub flashes_in_order : (a : Area) (w h : ℕ) → Pairs Ahead (flashes a w h)
unfolding flashes flash
flashes_in_order a w h =
    let s = final w (starting a w h) in
    pairs_map Ahead (flash a h) s
    (pairs_weaken Before (λ i j. Ahead (flash a h i) (flash a h j)) s
    (λ i j k l. ⊎_elim (λ u. inl u) (λ u. inr (u.0, omega (arith, final-lines a w h i (in_member k)))))
    (listed_in_order w s (final-listed w (starting a w h) (starting-listed a w h))))
