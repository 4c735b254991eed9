-- The whole outcome of the cover: numbers, places, and each byte of both rooms ('Answers by number').
-- Throughout, f and m are what the lent flash room and mark room hold before the call.
use Rattle.std.specs.Prelude.{◌≡◌, cond, List, [], ◌∷◌, ℕ, suc, leb, ltb, eqb, length, take}
use Rattle.grid.specs.Limits.{allowance_limit, flash_room_size, mark_room_size}
use Rattle.grid.specs.Answers.{check, check_at, first_refusal, size_out, raster_length, flash_room_short, mark_room_short, allowance_out, bad_byte, broken_column, allowance_short}
use Rattle.grid.specs.Squares.{Area, Rectangle, Square, copper_number}
use Rattle.grid.specs.Raster.{size_fits, length_fits, area_of, bad_square, broken_square}
use Rattle.grid.specs.declared.answers.Answer.{Answer}
use Rattle.cover.specs.Flashes.{flashes, flashed_area}
use Rattle.cover.specs.Marks.{marks}
use Rattle.cover.specs.Records.{flashes_written, marks_written}
use Rattle.cover.specs.declared.entry.Outcome.{Outcome}

-- what a call gives: its outcome, and what the two rooms hold after it
pub record Given : Type 0 where
  pub outcome : Outcome
  pub flashes_after : List ℕ
  pub marks_after : List ℕ

-- "On a refusal every count [and] the copper number .. are returned as 0, and nothing is written"; the flashed area is "0 on a refusal" (02, R-1)
abbrev pub refused_at : ℕ → ℕ → ℕ → List ℕ → List ℕ → Given
refused_at n x y f m = record {
  outcome = record { answer = n; place_x = x; place_y = y; flashes = 0; marks = 0; copper = 0; flashed = 0 };
  flashes_after = f;
  marks_after = m;
}

-- "answer 9 alone reports k + 1 marks and writes them, the flash room staying untouched"
abbrev pub short : List Square → List ℕ → List ℕ → Given
short ss f m = record {
  outcome = record { answer = allowance_short; place_x = 0; place_y = 0; flashes = 0; marks = length ss; copper = 0; flashed = 0 };
  flashes_after = f;
  marks_after = marks_written ss m;
}

-- "A success also gives the copper number": "the raster's copper squares, each once"; and the flashed area (02, R-1)
abbrev pub covered : ℕ → List Rectangle → List Square → List ℕ → List ℕ → Given
covered n qs ss f m = record {
  outcome = record { answer = 0; place_x = 0; place_y = 0; flashes = length qs; marks = length ss; copper = n; flashed = flashed_area qs };
  flashes_after = flashes_written qs f;
  marks_after = marks_written ss m;
}

-- "least number exceeds the allowance": 9 with "the first k + 1 marks of that list and no flash"; else the cover
abbrev pub answered : Area → ℕ → ℕ → ℕ → List ℕ → List ℕ → Given
answered a w h k f m =
    cond (ltb k (length (flashes a w h)))
    (short (take (suc k) (marks a w h)) f m)
    (covered (copper_number a w h) (flashes a w h) (marks a w h) f m)

-- width w, height h, allowance k; "Cover: 1, 2, 3, 4, 6, 7, 8, 9.": the checks before 9
abbrev pub cover_checks : ℕ → ℕ → ℕ → List ℕ → List ℕ → List ℕ → List Answer
cover_checks w h k raster f m =
    check (size_fits w h) size_out
    ∷ check (length_fits w h (length raster)) raster_length
    ∷ check (leb flash_room_size (length f)) flash_room_short
    ∷ check (leb mark_room_size (length m)) mark_room_short
    ∷ check (leb k allowance_limit) allowance_out
    ∷ check_at (bad_square w raster) bad_byte
    ∷ check_at (broken_square (area_of w h raster) w h) broken_column
    ∷ []

-- a refusal, or the work of what passed every check
unfoldable pub or_work : Answer → List ℕ → List ℕ → Given → Given
or_work a f m work = cond (eqb a.number 0) work (refused_at a.number a.x a.y f m)

unfoldable pub cover_gives : ℕ → ℕ → ℕ → List ℕ → List ℕ → List ℕ → Given
cover_gives w h k raster f m = or_work (first_refusal (cover_checks w h k raster f m)) f m (answered (area_of w h raster) w h k f m)

-- the contract of `keekaboor_cover`: outcome r, and rooms that hold f' and m' afterwards, are what the call gives
abbrev pub Gives : ℕ → ℕ → ℕ → List ℕ → List ℕ → List ℕ → Outcome → List ℕ → List ℕ → Type 0
Gives w h k raster f m r f' m' = record { outcome = r; flashes_after = f'; marks_after = m' } ≡ cover_gives w h k raster f m
