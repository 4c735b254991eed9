-- The verdict on a list (02, R-5): "It says sound exactly when every flash lies in the copper and every copper square lies in a flash. Otherwise it
-- names the first bad flash by line, or failing that the first bare square in raster order."
use Rattle.std.specs.Prelude.{Bool, cond, not, ◌&&◌, List, [], ◌∷◌, ℕ, suc, ◌-◌, ◌*◌, ◌/◌, ◌%◌, leb, ltb}
use Rattle.std.proofs.Math.Option.{Option, none, some}
use Rattle.lists.specs.Lists.{all, any, first, from, up_to}
use Rattle.method.specs.Intervals.{span}
use Rattle.grid.specs.Squares.{Area, Rectangle, Square, square}
use Rattle.grid.specs.Raster.{in_raster}
use Rattle.cover.specs.Slices.{copper_along}

-- each row of the flash is copper along its columns
unfoldable pub copper_rows : Area → Rectangle → Bool
copper_rows a q = all (λ y. copper_along a y (span q.first (suc q.last))) (from q.bottom (suc q.top - q.bottom))

-- its bounds are not reversed; it is on a grid of w columns and h rows
unfoldable pub upright : Rectangle → Bool
upright q = leb q.first q.last && leb q.bottom q.top

unfoldable pub on_grid : ℕ → ℕ → Rectangle → Bool
on_grid w h q = ltb q.last w && ltb q.top h

-- "A flash with reversed bounds or off the grid is bad", and so is one that does not lie in the copper
unfoldable pub good : Area → ℕ → ℕ → Rectangle → Bool
good a w h q = upright q && on_grid w h q && copper_rows a q

-- the first bad flash by line, where the first of the flashes stands in that line
unfoldable pub bad_from : Area → ℕ → ℕ → ℕ → List Rectangle → Option ℕ
bad_from a w h line [] = none
bad_from a w h line (q ∷ qs) = cond (good a w h q) (bad_from a w h (suc line) qs) (some line)

abbrev pub bad_line : Area → ℕ → ℕ → List Rectangle → Option ℕ
bad_line a w h qs = bad_from a w h 1 qs

-- the flash holds the square
unfoldable pub between : ℕ → ℕ → ℕ → Bool
between low n high = leb low n && leb n high

unfoldable pub holds_square : Square → Rectangle → Bool
holds_square s q = between q.first s.column q.last && between q.bottom s.row q.top

-- a copper square that lies in no flash
unfoldable pub bare : Area → List Rectangle → Square → Bool
bare a qs s = a s.column s.row && not (any (holds_square s) qs)

-- "the first bare square in raster order"
unfoldable pub first_bare : Area → ℕ → ℕ → List Rectangle → Option ℕ
first_bare a w h qs = first (λ i. bare a qs (square (i % w) (i / w))) (up_to (w * h))

abbrev pub bare_square : Area → ℕ → ℕ → List Rectangle → Option Square
bare_square a w h qs = in_raster w (first_bare a w h qs)
