-- For inner functions alone: what they ask of the sizes and the flashes that they are given.
-- The promises of the exported functions stand in Writing.antt and Reading.antt and name none of it.
use Rattle.std.specs.Prelude.{◌≡◌, List, ℕ, ◌*◌, ◌≤◌, ◌<◌, length, get_or}
use Rattle.grid.specs.Limits.{side, flash_record}
use Rattle.cover.specs.Code.{Drawn}
use Rattle.cover.specs.Records.{flash_in}
use Rattle.gerber.specs.declared.sizes.Size.{Size}

-- a size within the grid
pub record OnGrid (z : Size) : Type 0 where
  pub some-wide : 1 ≤ z.wide
  pub wide : z.wide ≤ side
  pub some-high : 1 ≤ z.high
  pub high : z.high ≤ side

abbrev pub EachOnGrid : List Size → Type 0
EachOnGrid sizes = (k : ℕ) (d : Size) → k < length sizes → OnGrid (get_or sizes k d)

-- a table whose first sizes are within the grid; no more of them than the grid has columns
pub record Listed (count : ℕ) (table : List Size) : Type 0 where
  pub few : count ≤ side
  pub long : length table ≡ side
  pub on_grid : (k : ℕ) (d : Size) → k < count → OnGrid (get_or table k d)

-- flash records that a cover gave: no more than the grid has columns, in the room, their sides the right way round and within the grid
pub record FlashesHeld (n : ℕ) (records : List ℕ) : Type 0 where
  pub few : n ≤ side
  pub held : n * flash_record ≤ length records
  pub drawn : (k : ℕ) → k < n → Drawn (flash_in records k)
