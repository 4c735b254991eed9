-- The flash of an interval that stands has its sides the right way round and within the largest grid, so its numbers fit bytes and its area is small.
-- Its bottom lies below its end. `write_flash` and `write_flashes` use it.
use mathlib.Core.List.Memᴰ
use mathlib.Core.List.{List, [], ◌∷◌}
use mathlib.Core.Path.{refl}
use Prim.Native.Nat.{ℕ, suc, ◌-◌, ◌*◌, ◌≤◌}
use native.Mathlib.Nat.{mul-le-mul}
use native.Mathlib.Omega.{arith}
use lib.ListN.{length}
use Rattle.lists.proofs.Members.{In}
use Rattle.method.specs.Intervals.{Interval}
use Rattle.grid.specs.Limits.{side}
use Rattle.grid.specs.Squares.{Rectangle}
use Rattle.cover.specs.Flashes.{area_of_flash, flashed_area}
use Rattle.columns.proofs.Extremes.{least-low}
use Rattle.cover.specs.Code.{flash_between, Standing, Drawn}

pub stands-drawn : (bottoms ends : List ℕ) (i : Interval) → Standing bottoms ends i → Drawn (flash_between bottoms ends i)
stands-drawn bottoms ends i z = record {
  wide = omega (arith, z.wide);
  narrow = omega (arith, z.wide, z.narrow);
  tall = omega (arith, z.tall);
  low = omega (arith, z.tall, least-low ends i.left (i.right - i.left));
}

pub area_small : (q : Rectangle) → Drawn q → area_of_flash q ≤ side * side
area_small q d =
    let wide : suc (q.last - q.first) ≤ side = omega arith in
    let tall : suc (q.top - q.bottom) ≤ side = omega arith in
    omega (arith, mul-le-mul wide tall)

pub flashed-small : (qs : List Rectangle) → ((q : Rectangle) → In q qs → Drawn q) → flashed_area qs ≤ length qs * (side * side)
unfolding flashed_area
flashed-small [] d = omega arith
flashed-small (q ∷ qs) d =
    omega (arith, area_small q (d q (Memᴰ.head refl)), flashed-small qs (λ x m. d x (Memᴰ.tail m)))
