-- Demand 3, as the user wrote it, over squares alone: what it says of one call.
-- "For each area of unbroken columns within the limits, with the lists' room given, and each allowance from 0 to 64."
use Rattle.std.specs.Prelude.{◌≡◌, List, ℕ, suc, ◌*◌, ◌≤◌, ◌<◌, length, get_or}
use Rattle.grid.specs.Limits.{side, allowance_limit, flash_room_size, mark_room_size}
use Rattle.grid.specs.Answers.{allowance_short}
use Rattle.grid.specs.Raster.{area_of}
use Rattle.grid.specs.Squares.{Area, Rectangle, Unbroken, Cover, Least, Evidence}
use Rattle.cover.specs.Records.{flashes_in, marks_in}
use Rattle.cover.specs.Cover.{Given}

-- the demand's own conditions on a call
pub record Asked (w h k : ℕ) (raster f m : List ℕ) : Type 0 where
  pub wide : (1 ≤ w) × (w ≤ side)
  pub high : (1 ≤ h) × (h ≤ side)
  pub full : length raster ≡ w * h
  pub bytes : (i : ℕ) → i < length raster → get_or raster i 0 ≤ 1
  pub unbroken : Unbroken (area_of w h raster)
  pub allowance : k ≤ allowance_limit
  pub flashes-fit : flash_room_size ≤ length f
  pub marks-fit : mark_room_size ≤ length m

-- "some set of rectangles inside the copper, no more than the allowance, covers it"
abbrev pub Fits : Area → ℕ → Type 0
Fits a k = (qs : List Rectangle) × Cover a qs × (length qs ≤ k)

-- "the answer is a cover of the least possible number, with equally many marked squares, no two of which fit in one rectangle inside the copper"
pub record Met (a : Area) (g : Given) : Type 0 where
  pub done : g.outcome.answer ≡ 0
  pub cover : Cover a (flashes_in g.outcome.flashes g.flashes_after)
  pub least : Least a g.outcome.flashes
  pub as_many : g.outcome.marks ≡ g.outcome.flashes
  pub evidence : Evidence a (marks_in g.outcome.marks g.marks_after)

-- "the allowance is refused as short, with one more marked square than the allowance, again no two in one rectangle"
pub record Short (a : Area) (k : ℕ) (g : Given) : Type 0 where
  pub refused : g.outcome.answer ≡ allowance_short
  pub one_more : g.outcome.marks ≡ suc k
  pub evidence : Evidence a (marks_in g.outcome.marks g.marks_after)

-- "if some set .. covers it, the answer is a cover ..; If no such set exists, and only then, the allowance is refused as short"
pub record Demand (a : Area) (k : ℕ) (g : Given) : Type 0 where
  pub covers : Fits a k → Met a g
  pub refuses : (Fits a k → ⊥) → Short a k g
  pub only_then : g.outcome.answer ≡ allowance_short → Fits a k → ⊥
