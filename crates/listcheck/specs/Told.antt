-- What the check tells of a list, over squares alone: of a call that is not refused, and of one that is.
use Rattle.std.specs.Prelude.{◌≡◌, List, ◌↔◌, ◌⊎◌, ℕ, suc, ◌+◌, ◌<◌, length}
use Rattle.grid.specs.Squares.{Area, Rectangle, Square, Within, InCopper, Copper, Cover, Least, Evidence, rectangle_at}
use Rattle.cover.specs.Records.{marks_in}
use Rattle.listcheck.specs.Checked.{Given, sound, bad, bare}

-- "the first bad flash by line"
pub record FirstBad (a : Area) (qs : List Rectangle) (line : ℕ) : Type 0 where
  pub place : ℕ
  pub in-line : line ≡ suc place
  pub inside : place < length qs
  pub is-bad : InCopper a (rectangle_at qs place) → ⊥
  pub before : (j : ℕ) → j < place → InCopper a (rectangle_at qs j)

-- a square before another in raster order, row 0 first, each row from column 0
abbrev pub Earlier : Square → Square → Type 0
Earlier t s = (t.row < s.row) ⊎ ((t.row ≡ s.row) × (t.column < s.column))

-- the square lies in a flash of the list
abbrev pub InSome : List Rectangle → Square → Type 0
InSome qs s = (k : ℕ) × (k < length qs) × Within (rectangle_at qs k) s

-- "failing that the first bare square in raster order"
pub record FirstBare (a : Area) (qs : List Rectangle) (s : Square) : Type 0 where
  pub no_bad : (k : ℕ) → k < length qs → InCopper a (rectangle_at qs k)
  pub copper : Copper a s
  pub is-bare : InSome qs s → ⊥
  pub before : (t : Square) → Earlier t s → Copper a t → InSome qs t

-- "A sound list is also told how many flashes it has above the least, with our marks as evidence."
pub record Weighed (a : Area) (qs : List Rectangle) (g : Given) : Type 0 where
  pub least : Least a g.outcome.marks
  pub above : length qs ≡ g.outcome.marks + g.outcome.above
  pub evidence : Evidence a (marks_in g.outcome.marks g.marks_after)

-- of a call that is not refused; m is what the mark room held before it
pub record Told (a : Area) (qs : List Rectangle) (m : List ℕ) (g : Given) : Type 0 where
  pub counted : g.outcome.flashes ≡ length qs
  pub verdict : (g.outcome.verdict ≡ sound) ⊎ (g.outcome.verdict ≡ bad) ⊎ (g.outcome.verdict ≡ bare)
  pub is-sound : (g.outcome.verdict ≡ sound) ↔ Cover a qs
  pub weighed : g.outcome.verdict ≡ sound → Weighed a qs g
  pub first-bad : g.outcome.verdict ≡ bad → FirstBad a qs g.outcome.place_x
  pub first-bare : g.outcome.verdict ≡ bare → FirstBare a qs (record { column = g.outcome.place_x; row = g.outcome.place_y })
  pub untouched : (g.outcome.verdict ≡ sound → ⊥) → g.marks_after ≡ m

-- of one that is
pub record Refused (m : List ℕ) (g : Given) : Type 0 where
  pub no-verdict : g.outcome.verdict ≡ 0
  pub no-flashes : g.outcome.flashes ≡ 0
  pub none_above : g.outcome.above ≡ 0
  pub no-marks : g.outcome.marks ≡ 0
  pub untouched : g.marks_after ≡ m
