-- A column's bottom and its end, the checks of the raster's bytes, and the copper number by columns.
use Rattle.std.specs.Prelude.{List, [], ◌∷◌, ◌≡◌, cond, ℕ, zero, suc, ◌+◌, ◌-◌, ◌≤◌, ◌<◌, min, max, ltb, length, get_or}
use Rattle.std.proofs.Math.Option.{Option, none, some}
use Rattle.grid.specs.Limits.{side}
use Rattle.grid.specs.Squares.{Area}
use Rattle.grid.specs.declared.answers.Answer.{Answer}
use Rattle.grid.specs.Answers.{check_at, bad_byte, broken_column}
use Rattle.grid.specs.Raster.{area_of, bad_square, broken_square, bottom_of, top_of}
use Rattle.grid.specs.Code.{or_end}

-- the column's lowest copper row; 0 where it has no copper
abbrev pub bottom_at : Area → ℕ → ℕ → ℕ
bottom_at a h c = or_end 0 (bottom_of a h c)

-- one more than its highest; 0 where it has no copper
abbrev pub past : Option ℕ → ℕ
past none = 0
past (some y) = suc y

abbrev pub end_at : Area → ℕ → ℕ → ℕ
end_at a h c = past (top_of a h c)

-- nothing was seen yet in the first w columns
abbrev pub Bare : ℕ → List ℕ → Type 0
Bare w numbers = (c : ℕ) → c < w → get_or numbers c 0 ≡ 0

-- the first w bytes by a rule, every other as it was
pub record Filled (w : ℕ) (rule : ℕ → ℕ) (before after : List ℕ) : Type 0 where
  pub each : (c : ℕ) → get_or after c 0 ≡ cond (ltb c w) (rule c) (get_or before c 0)
  pub as_long : length after ≡ length before

-- the bottoms and ends of an area's first w columns
pub record Reached (a : Area) (w h : ℕ) (bottoms ends : List ℕ) : Type 0 where
  pub low : (c : ℕ) → c < w → get_or bottoms c 0 ≡ bottom_at a h c
  pub high : (c : ℕ) → c < w → get_or ends c 0 ≡ end_at a h c
  pub low-long : w ≤ length bottoms
  pub high-long : w ≤ length ends

-- "7, a raster byte not 0 or 1", "8, a broken column": the checks of the raster's bytes, in their order
abbrev pub raster_checks : ℕ → ℕ → List ℕ → List Answer
raster_checks w h bytes = check_at (bad_square w bytes) bad_byte ∷ check_at (broken_square (area_of w h bytes) w h) broken_column ∷ []

-- no column's bottom lies above its end
abbrev pub Upright : ℕ → List ℕ → List ℕ → Type 0
Upright w bottoms ends = (c : ℕ) → c < w → get_or bottoms c 0 ≤ get_or ends c 0

-- the heights of the first n columns, from bottom to end, summed up
unfoldable pub heights_to : ℕ → List ℕ → List ℕ → ℕ
heights_to zero bottoms ends = 0
heights_to (suc c) bottoms ends = heights_to c bottoms ends + (get_or ends c 0 - get_or bottoms c 0)

-- the greatest and the least of the n numbers from the one of column l on
unfoldable pub greatest_in : List ℕ → ℕ → ℕ → ℕ
greatest_in numbers l zero = 0
greatest_in numbers l (suc n) = max (greatest_in numbers l n) (get_or numbers (l + n) 0)

unfoldable pub least_in : List ℕ → ℕ → ℕ → ℕ
least_in numbers l zero = side
least_in numbers l (suc n) = min (least_in numbers l n) (get_or numbers (l + n) 0)
