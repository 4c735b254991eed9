-- What only the contracts of inner functions name: a row taken into the columns' bottoms and ends, and the rows before y.
use Rattle.std.specs.Prelude.{◌≡◌, Bool, true, cond, ◌&&◌, ◌||◌, List, ℕ, zero, suc, ◌+◌, ◌*◌, ◌≤◌, ◌<◌, eqb, get_or}
use Rattle.grid.specs.Limits.{side}
use Rattle.grid.specs.Squares.{Area}
use Rattle.grid.specs.Raster.{area_of, byte_at}
use Rattle.columns.specs.Columns.{Filled}

-- a byte of row y that is 0, or is 1 where no copper lies below or the column's copper reaches up to this row
abbrev pub fits : ℕ → ℕ → ℕ → Bool
fits y byte end = eqb byte 0 || eqb byte 1 && (eqb end 0 || eqb end y)

-- a column's bottom and end after row y, from the row's byte and what they were
abbrev pub bottom_after : ℕ → ℕ → ℕ → ℕ → ℕ
bottom_after y byte end bottom = cond (eqb byte 1 && eqb end 0) y bottom

abbrev pub end_after : ℕ → ℕ → ℕ → ℕ
end_after y byte end = cond (eqb byte 1) (y + 1) end

-- the first n bytes of row y taken; where no misfit was met, each of them fits
pub record RowTaken (y : ℕ) (row : List ℕ) (n : ℕ) (bottoms ends : List ℕ) (misfits : ℕ) (bottoms' ends' : List ℕ) : Type 0 where
  pub few : misfits ≤ n
  pub fit : misfits ≡ 0 → (c : ℕ) → c < n → fits y (get_or row c 0) (get_or ends c 0) ≡ true
  pub low : Filled n (λ c. bottom_after y (get_or row c 0) (get_or ends c 0) (get_or bottoms c 0)) bottoms bottoms'
  pub high : Filled n (λ c. end_after y (get_or row c 0) (get_or ends c 0)) ends ends'

-- a column's bottom and end by its rows below y
unfoldable pub end_to : Area → ℕ → ℕ → ℕ
end_to a zero c = 0
end_to a (suc y) c = cond (a c y) (suc y) (end_to a y c)

unfoldable pub bottom_to : Area → ℕ → ℕ → ℕ
bottom_to a zero c = 0
bottom_to a (suc y) c = cond (a c y && eqb (end_to a y c) 0) y (bottom_to a y c)

-- the first y rows of a raster taken
pub record RowsTaken (w h : ℕ) (bytes : List ℕ) (y : ℕ) (bottoms ends : List ℕ) (misfits : ℕ) (bottoms' ends' : List ℕ) : Type 0 where
  pub few : misfits ≤ y * side
  pub fit : misfits ≡ 0 → (r c : ℕ) → r < y → c < w → fits r (byte_at w bytes c r) (end_to (area_of w h bytes) r c) ≡ true
  pub low : Filled w (bottom_to (area_of w h bytes) y) bottoms bottoms'
  pub high : Filled w (end_to (area_of w h bytes) y) ends ends'
