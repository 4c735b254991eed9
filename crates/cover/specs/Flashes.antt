-- Flashes (rules 6 and 7), and the flashed area.
use Rattle.std.specs.Prelude.{List, [], ◌∷◌, map, ℕ, suc, ◌+◌, ◌-◌, ◌*◌}
use Rattle.std.proofs.Math.Option.{Option, none, some}
use Rattle.lists.specs.Lists.{first, up_to, down}
use Rattle.method.specs.Intervals.{Interval}
use Rattle.method.specs.Final.{final}
use Rattle.grid.specs.Squares.{Area, Rectangle}
use Rattle.cover.specs.Slices.{copper_along, starting}

-- a row that was found; 0 where there is none, which no interval of a final set meets
abbrev pub row_found : Option ℕ → ℕ
row_found none = 0
row_found (some y) = y

-- "its columns, and all rows that are copper in every one of them": from the lowest of these rows to the highest
unfoldable pub flash : Area → ℕ → Interval → Rectangle
flash a h i = record {
  first = i.left;
  last = i.right - 1;
  bottom = row_found (first (λ y. copper_along a y i) (up_to h));
  top = row_found (first (λ y. copper_along a y i) (down h));
}

-- "Each interval of the final set gives one flash", "listed by first column, then by last column": the order of the set
unfoldable pub flashes : Area → ℕ → ℕ → List Rectangle
flashes a w h = map (flash a h) (final w (starting a w h))

-- the squares of a rectangle
abbrev pub area_of_flash : Rectangle → ℕ
area_of_flash q = suc (q.last - q.first) * suc (q.top - q.bottom)

-- "The sum of flash areas stays as a second number, the flashed area" (02, R-1)
unfoldable pub flashed_area : List Rectangle → ℕ
flashed_area [] = 0
flashed_area (q ∷ qs) = area_of_flash q + flashed_area qs
