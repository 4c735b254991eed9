-- The whole outcome of writing a Gerber file: numbers, places, and each byte of the three rooms (document 02, R-2).
-- Throughout, f, m and t are what the lent flash room, mark room and file room hold before the call.
use Rattle.std.specs.Prelude.{◌≡◌, cond, List, [], ◌∷◌, ◌++◌, ℕ, leb, eqb, ℤ, length}
use Rattle.grid.specs.Limits.{file_room_size}
use Rattle.grid.specs.Answers.{check, first_refusal, centre_out, file_room_short}
use Rattle.grid.specs.Squares.{Rectangle}
use Rattle.grid.specs.Raster.{area_of}
use Rattle.grid.specs.Rooms.{written}
use Rattle.grid.specs.declared.answers.Answer.{Answer}
use Rattle.cover.specs.Flashes.{flashes}
use Rattle.cover.specs.Cover as Cover
use Rattle.cover.specs.Cover.{cover_gives}
use Rattle.cover.specs.declared.entry.Outcome.{Outcome}
use Rattle.gerber.specs.File.{gerber_file, format_checks, centres_fit}
use Rattle.gerber.specs.declared.write.WriteOutcome.{WriteOutcome}

-- what a call gives: its outcome, and what the three rooms hold after it
pub record Given : Type 0 where
  pub outcome : WriteOutcome
  pub flashes_after : List ℕ
  pub marks_after : List ℕ
  pub file_after : List ℕ

-- the cover's numbers and the file's length
abbrev pub with_length : Outcome → ℕ → WriteOutcome
with_length o n = record { answer = o.answer; place_x = o.place_x; place_y = o.place_y; flashes = o.flashes; marks = o.marks; copper = o.copper; flashed = o.flashed; length = n }

-- "after all of the cover's": what the cover refuses gives what the cover gives, and no file
abbrev pub no_file : Cover.Given → List ℕ → Given
no_file g t = record { outcome = with_length g.outcome 0; flashes_after = g.flashes_after; marks_after = g.marks_after; file_after = t }

abbrev pub filed : Cover.Given → List ℕ → List ℕ → Given
filed g t text = record { outcome = with_length g.outcome (length text); flashes_after = g.flashes_after; marks_after = g.marks_after; file_after = written t 0 text }

-- "Refusals: 13 pitch odd or out of range, 14 a centre coordinate of more than ten digits, 15 file room under 8,192; in that order"; under R-9 with 21 before 13
abbrev pub file_checks : ℕ → ℕ → ℤ → ℤ → List Rectangle → ℕ → List Answer
file_checks version pitch x y qs room = format_checks version pitch ++ (check (centres_fit pitch x y qs) centre_out ∷ check (leb file_room_size room) file_room_short ∷ [])

-- a refusal without a change, or the cover and the file
unfoldable pub or_file : Answer → Cover.Given → List ℕ → List ℕ → List ℕ → List ℕ → Given
or_file a g f m t text = cond (eqb a.number 0) (filed g t text) (no_file (Cover.refused_at a.number a.x a.y f m) t)

unfoldable pub write_gives : ℕ → ℕ → ℕ → List ℕ → ℕ → ℕ → ℤ → ℤ → List ℕ → List ℕ → List ℕ → Given
write_gives w h k raster version pitch x y f m t =
    let g = cover_gives w h k raster f m in
    let qs = flashes (area_of w h raster) w h in
    cond (eqb g.outcome.answer 0)
    (or_file (first_refusal (file_checks version pitch x y qs (length t))) g f m t (gerber_file version pitch x y qs))
    (no_file g t)

-- the contract of `keekaboor_write_gerber`: outcome r, and rooms that hold f', m' and t' afterwards, are what the call gives
abbrev pub WritesGerber : ℕ → ℕ → ℕ → List ℕ → ℕ → ℕ → ℤ → ℤ → List ℕ → List ℕ → List ℕ → WriteOutcome → List ℕ → List ℕ → List ℕ → Type 0
WritesGerber w h k raster version pitch x y f m t r f' m' t' =
    record { outcome = r; flashes_after = f'; marks_after = m'; file_after = t' } ≡ write_gives w h k raster version pitch x y f m t
