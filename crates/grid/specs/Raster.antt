-- A raster as an area, and document 01's checks of it ('The grid and its numbers', 'Answers by number').
use Rattle.std.specs.Prelude.{Bool, not, ◌&&◌, List, [], ◌∷◌, ℕ, suc, ◌+◌, ◌-◌, ◌*◌, ◌/◌, ◌%◌, leb, ltb, eqb, length, get_or}
use Rattle.std.proofs.Math.Option.{Option, none, some}
use Rattle.lists.specs.Lists.{any, first, from, up_to, down}
use Rattle.grid.specs.Limits.{side}
use Rattle.grid.specs.Squares.{Area, Square, square}

-- "Width and height are 1 to 64."
abbrev pub side_fits : ℕ → Bool
side_fits n = leb 1 n && leb n side

abbrev pub size_fits : ℕ → ℕ → Bool
size_fits w h = side_fits w && side_fits h

-- "A raster is width times height bytes"
abbrev pub length_fits : ℕ → ℕ → ℕ → Bool
length_fits w h n = eqb n (w * h)

-- "row 0 first, each row from column 0. Byte 1 is copper, 0 is none."
abbrev pub byte_at : ℕ → List ℕ → ℕ → ℕ → ℕ
byte_at w bytes c r = get_or bytes (r * w + c) 0

abbrev pub area_of : ℕ → ℕ → List ℕ → Area
area_of w h bytes c r = ltb c w && ltb r h && eqb (byte_at w bytes c r) 1

-- "a raster byte not 0 or 1", by its place in the raster
unfoldable pub first_bad : List ℕ → Option ℕ
first_bad bytes = first (λ i. ltb 1 (get_or bytes i 0)) (up_to (length bytes))

-- the square of a byte, if there is one
abbrev pub in_raster : ℕ → Option ℕ → Option Square
in_raster w none = none
in_raster w (some i) = some (square (i % w) (i / w))

-- "column, row of the first in raster order"
abbrev pub bad_square : ℕ → List ℕ → Option Square
bad_square w bytes = in_raster w (first_bad bytes)

-- an "empty square with copper both below and above", in a column of h rows
abbrev pub gap_at : Area → ℕ → ℕ → ℕ → Bool
gap_at a h c r = not (a c r) && any (a c) (up_to r) && any (a c) (from (suc r) (h - suc r))

-- the column's lowest such square
unfoldable pub gap : Area → ℕ → ℕ → Option ℕ
gap a h c = first (gap_at a h c) (up_to h)

-- the square in column c, where a row is given; else a later one
abbrev pub in_column : ℕ → Option ℕ → Option Square → Option Square
in_column c none later = later
in_column c (some r) later = some (square c r)

-- "lowest such column; its lowest empty square with copper both below and above"
unfoldable pub broken_from : Area → ℕ → List ℕ → Option Square
broken_from a h [] = none
broken_from a h (c ∷ cs) = in_column c (gap a h c) (broken_from a h cs)

abbrev pub broken_square : Area → ℕ → ℕ → Option Square
broken_square a w h = broken_from a h (up_to w)

-- the lowest and the highest copper square of a column
unfoldable pub bottom_of : Area → ℕ → ℕ → Option ℕ
bottom_of a h c = first (a c) (up_to h)

unfoldable pub top_of : Area → ℕ → ℕ → Option ℕ
top_of a h c = first (a c) (down h)
