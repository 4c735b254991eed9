-- Slices and the starting set (rule 1).
use Rattle.std.specs.Prelude.{Bool, true, not, ◌&&◌, List, ℕ, zero, suc}
use Rattle.std.proofs.Math.Option.{Option}
use Rattle.lists.specs.Lists.{all, any, first, up_to}
use Rattle.method.specs.Intervals.{Interval, proper, columns, select}
use Rattle.grid.specs.Squares.{Area}

-- the square to the left of line l is not copper in row y; to the left of line 0 there is none
unfoldable pub ends_left : Area → ℕ → ℕ → Bool
ends_left a y zero = true
ends_left a y (suc c) = not (a c y)

-- the square to the right of line l is not copper in row y
unfoldable pub ends_right : Area → ℕ → ℕ → Bool
ends_right a y l = not (a l y)

-- all squares of the interval are copper in row y
unfoldable pub copper_along : Area → ℕ → Interval → Bool
copper_along a y i = all (λ c. a c y) (columns i)

-- "A slice is a run of copper squares in one row that cannot be made longer."
unfoldable pub slice : Area → ℕ → Interval → Bool
slice a y i = proper i && copper_along a y i && ends_left a y i.left && ends_right a y i.right

-- some row shows the interval as a slice, of the rows 0 to h - 1; the lowest row that does
unfoldable pub shown : Area → ℕ → Interval → Bool
shown a h i = any (λ y. slice a y i) (up_to h)

unfoldable pub lowest_shown : Area → ℕ → Interval → Option ℕ
lowest_shown a h i = first (λ y. slice a y i) (up_to h)

-- "The starting set S holds each slice's interval once, however many rows show it": over w columns and h rows
unfoldable pub starting : Area → ℕ → ℕ → List Interval
starting a w h = select w (shown a h)

-- "marks use the lowest" (02, R-3)
abbrev pub mark_row : Area → ℕ → Interval → Option ℕ
mark_row = lowest_shown
