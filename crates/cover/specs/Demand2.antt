-- Demand 2: "Flash list and marks are those that document 01's rules give .. On success no flash touches a square outside the copper, and each
-- copper square lies in a flash." Each count and the flashed area are those of the records in the rooms, and the copper number is the area's. Of answer 9, which gives marks alone, the marks.
use Rattle.std.specs.Prelude.{◌≡◌, ℕ, suc, length, take}
use Rattle.grid.specs.Squares.{Area, Cover, copper_number}
use Rattle.cover.specs.Flashes.{flashes, flashed_area}
use Rattle.cover.specs.Marks.{marks}
use Rattle.cover.specs.Records.{flashes_in, marks_in}
use Rattle.cover.specs.Cover.{Given}

pub record Sound (a : Area) (w h : ℕ) (g : Given) : Type 0 where
  pub flashes-ruled : flashes_in g.outcome.flashes g.flashes_after ≡ flashes a w h
  pub marks-ruled : marks_in g.outcome.marks g.marks_after ≡ marks a w h
  pub flash-count : g.outcome.flashes ≡ length (flashes a w h)
  pub mark-count : g.outcome.marks ≡ length (marks a w h)
  pub copper-number : g.outcome.copper ≡ copper_number a w h
  pub flashed-area : g.outcome.flashed ≡ flashed_area (flashes_in g.outcome.flashes g.flashes_after)
  pub cover : Cover a (flashes_in g.outcome.flashes g.flashes_after)

-- "A short allowance k gives the first k + 1 marks of that list and no flash."
pub record ShortRuled (a : Area) (w h k : ℕ) (g : Given) : Type 0 where
  pub marks-ruled : marks_in g.outcome.marks g.marks_after ≡ take (suc k) (marks a w h)
