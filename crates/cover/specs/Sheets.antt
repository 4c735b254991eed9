-- The sheet of a raster: its bottoms and ends are those of the raster's area, 0 past the last column, and the area between them is the raster's.
use Rattle.std.specs.Prelude.{◌≡◌, List, ℕ, replicate}
use Rattle.grid.specs.Limits.{side}
use Rattle.grid.specs.Squares.{Area}
use Rattle.grid.specs.Code.{area_in}
use Rattle.grid.specs.declared.raster.Size.{Size}
use Rattle.columns.specs.Columns.{Filled, bottom_at, end_at}
use Rattle.method.specs.Intervals.{Interval}
use Rattle.cover.specs.Slices.{starting}
use Rattle.cover.specs.Code.{between}
use Rattle.cover.specs.declared.sheet.Sheet.{Sheet}

-- the area of a sheet, and its starting set
abbrev pub copper_of : Sheet → Area
copper_of s = between s.size.width s.bottoms s.ends

abbrev pub starting_of : Sheet → List Interval
starting_of s = starting (copper_of s) s.size.width s.size.height

pub record SheetOf (over : Size) (bytes : List ℕ) (s : Sheet) : Type 0 where
  pub size : s.size ≡ over
  pub bottoms : Filled over.width (bottom_at (area_in over bytes) over.height) (replicate side 0) s.bottoms
  pub ends : Filled over.width (end_at (area_in over bytes) over.height) (replicate side 0) s.ends
  pub area : copper_of s ≡ area_in over bytes

-- no column: to be filled
pub record Blank (s : Sheet) : Type 0 where
  pub size : s.size ≡ record { width = 0; height = 0 }
  pub bottoms : s.bottoms ≡ replicate side 0
  pub ends : s.ends ≡ replicate side 0
