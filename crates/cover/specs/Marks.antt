-- Marks (document 01, 'Marks').
use Rattle.std.specs.Prelude.{List, map, ℕ, eqb}
use Rattle.lists.specs.Lists.{keep, gather, up_to}
use Rattle.method.specs.Strike.{Marked, marked}
use Rattle.grid.specs.Squares.{Area, Square}
use Rattle.cover.specs.Slices.{starting, mark_row}
use Rattle.cover.specs.Flashes.{row_found}

-- "Mark the square in that column and in the" lowest "row with a slice of that interval." (02, R-3)
unfoldable pub mark : Area → ℕ → Marked → Square
mark a h m = record { column = m.column; row = row_found (mark_row a h m.interval) }

-- "Marks are listed by column, which need not be the order in which they were found."
unfoldable pub by_column : ℕ → List Marked → List Marked
by_column w ms = gather (λ c. keep (λ m. eqb m.column c) ms) (up_to w)

unfoldable pub marks : Area → ℕ → ℕ → List Square
marks a w h = map (mark a h) (by_column w (marked w (starting a w h)))
