-- No cover gives more records than the largest grid has columns.
-- The final set has no more intervals than the area has columns, and there are as many marks as flashes. `print_outcome` asks for it.
use mathlib.Core.List.{List}
use Prim.Native.Nat.{ℕ, suc, ◌≤◌}
use native.Mathlib.Omega.{arith}
use lib.Dec.{ltb}
use lib.ListN.{length, length-take}
use Rattle.lists.proofs.Truth.{bcase}
use Rattle.grid.specs.Limits.{side}
use Rattle.grid.specs.Squares.{Area}
use Rattle.grid.specs.Raster.{area_of}
use Rattle.cover.specs.Flashes.{flashes}
use Rattle.cover.specs.Marks.{marks}
use Rattle.cover.specs.Cover.{Given, answered, cover_gives}
use Rattle.cover.proofs.Covering.{flashes-short}
use Rattle.cover.proofs.MarkLaws.{marks-flashes}
use Rattle.cover.proofs.Checks.{outcomes}

abbrev Few : Given → Type 0
Few g = (g.outcome.flashes ≤ side) × (g.outcome.marks ≤ side)

answered-few : (a : Area) (w h k : ℕ) (f m : List ℕ) → w ≤ side → Few (answered a w h k f m)
answered-few a w h k f m narrow =
    let n = flashes-short a w h in
    let e = marks-flashes a w h in
    bcase (ltb k (length (flashes a w h)))
    (λ t. rw t (omega arith, omega (arith, length-take (suc k) (marks a w h))))
    (λ t. rw t (omega arith, omega arith))

pub few : (w h k : ℕ) (raster f m : List ℕ) → Few (cover_gives w h k raster f m)
few w h k raster f m =
    outcomes w h k raster f m Few
    (λ n x y l u. (omega arith, omega arith))
    (λ q. answered-few (area_of w h raster) w h k f m q.wide.1)
