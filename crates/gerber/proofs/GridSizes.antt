-- The sizes of flashes within the grid are within the grid, and so are the apertures of a list of them.
-- The functions that write a file, the longest file, and reading our own file back go by this.
use mathlib.Core.List.{List, [], ◌∷◌, ◌++◌, map}
use Prim.Native.Nat.{ℕ, zero, suc, ◌+◌, ◌≤◌}
use native.Mathlib.Omega.{arith}
use Rattle.lists.specs.Lists.{any, from}
use Rattle.lists.proofs.Truth.{bcase}
use Rattle.grid.specs.Squares.{Rectangle}
use Rattle.cover.specs.Code.{Drawn}
use Rattle.cover.specs.Records.{flash_in, flashes_in}
use Rattle.gerber.specs.File.{size_of, is_same_size, added, used, apertures}
use Rattle.gerber.specs.Code.{OnGrid, EachOnGrid, FlashesHeld}
use Rattle.gerber.specs.declared.sizes.Size.{Size}

abbrev pub AllOnGrid : List Size → Type 0
AllOnGrid [] = Unit {0}
AllOnGrid (z ∷ zs) = OnGrid z × AllOnGrid zs

abbrev pub Drawns : List Rectangle → Type 0
Drawns [] = Unit {0}
Drawns (q ∷ qs) = Drawn q × Drawns qs

pub drawn-on_grid : (q : Rectangle) → Drawn q → OnGrid (size_of q)
drawn-on_grid q d = record { some-wide = omega arith; wide = omega arith; some-high = omega arith; high = omega arith }

grid_last : (zs : List Size) (z : Size) → AllOnGrid zs → OnGrid z → AllOnGrid (zs ++ (z ∷ []))
grid_last [] z gs g = (g, tt)
grid_last (y ∷ zs) z gs g = (gs.0, grid_last zs z gs.1 g)

grid_added : (zs : List Size) (z : Size) → AllOnGrid zs → OnGrid z → AllOnGrid (added zs z)
unfolding added
grid_added zs z gs g = bcase (any (is_same_size z) zs) (λ u. rw u gs) (λ u. rw u (grid_last zs z gs g))

pub used-on_grid : (zs : List Size) (qs : List Rectangle) → AllOnGrid zs → Drawns qs → AllOnGrid (used zs qs)
unfolding used
used-on_grid zs [] gs ds = gs
used-on_grid zs (q ∷ qs) gs ds = used-on_grid (added zs (size_of q)) qs (grid_added zs (size_of q) gs (drawn-on_grid q ds.0)) ds.1

-- one more size, at any place
pub each-behind : (zs : List Size) (z : Size) → EachOnGrid zs → OnGrid z → EachOnGrid (zs ++ (z ∷ []))
each-behind [] z gs g zero d h = g
each-behind [] z gs g (suc k) d h = absurd (omega arith)
each-behind (y ∷ zs) z gs g zero d h = gs zero d (omega arith)
each-behind (y ∷ zs) z gs g (suc k) d h = each-behind zs z (λ j e m. gs (suc j) e (omega (arith, m))) g k d (omega (arith, h))

pub apertures-on_grid : (qs : List Rectangle) → Drawns qs → AllOnGrid (apertures qs)
apertures-on_grid qs ds = used-on_grid [] qs tt ds

-- the flashes of a room
pub held-drawn : (n : ℕ) (records : List ℕ) → FlashesHeld n records → Drawns (flashes_in n records)
unfolding flashes_in
held-drawn n records h = go 0 n (omega arith)
  where
    go : (a m : ℕ) → a + m ≤ n → Drawns (map (flash_in records) (from a m))
    go a zero l = tt
    go a (suc m) l = (h.drawn a (omega arith), go (suc a) m (omega arith))
