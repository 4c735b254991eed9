-- What only the contracts of functions name: the code's values read as the rules' ones, and how the code's own searches answer.
use Rattle.std.specs.Prelude.{◌≡◌, Bool, true, false, not, List, ℕ, ◌*◌, ◌≤◌, length, Option, Some, None}
use Rattle.std.proofs.Math.Option.{none, some}
use Rattle.std.proofs.Math.Option as Found
use Rattle.grid.specs.Limits.{side}
use Rattle.grid.specs.Lines.{column, row}
use Rattle.grid.specs.Squares.{Area, Square}
use Rattle.grid.specs.Raster.{area_of}
use Rattle.grid.specs.declared.raster.Size.{Size}
use Rattle.grid.specs.declared.lines.Column.{Column}
use Rattle.grid.specs.declared.lines.Row.{Row}

-- a raster of that size, which is within the limits
pub record Sized (size : Size) (bytes : List ℕ) : Type 0 where
  pub wide : 1 ≤ size.width
  pub narrow : size.width ≤ side
  pub tall : 1 ≤ size.height
  pub low : size.height ≤ side
  pub full : length bytes ≡ size.width * size.height

-- the area of a raster of that size
abbrev pub area_in : Size → List ℕ → Area
area_in size bytes = area_of size.width size.height bytes

-- what a search found, as the code holds it: a square, a row
abbrev pub place_of : Found.Option Square → Option (Column × Row)
place_of none = None
place_of (some s) = Some (column s.column, row s.row)

abbrev pub level_of : Found.Option ℕ → Option Row
level_of none = None
level_of (some y) = Some (row y)

-- the number found, or the end n where nothing is
abbrev pub or_end : ℕ → Found.Option ℕ → ℕ
or_end n none = n
or_end n (some i) = i

-- copper, or none, as asked
abbrev pub as_asked : Bool → Bool → Bool
as_asked true b = b
as_asked false b = not b
