-- Writing a job (document 01, 'Answers by number'): the checks in their order, and then the one text of the job.
use Rattle.std.specs.Prelude.{◌≡◌, cond, List, [], ◌∷◌, ℕ, leb, eqb, length}
use Rattle.grid.specs.Limits.{allowance_limit}
use Rattle.grid.specs.Answers.{done, check, check_at, first_refusal, size_out, raster_length, text_room_short, allowance_out, bad_byte}
use Rattle.grid.specs.Raster.{size_fits, length_fits, bad_square}
use Rattle.grid.specs.Rooms.{written}
use Rattle.grid.specs.declared.answers.Answer.{Answer}
use Rattle.job.specs.JobText.{job_text, text_room}
use Rattle.job.specs.declared.write.WriteOutcome.{WriteOutcome}

-- width w, height h, allowance k, and the length of the room; "Writing a job: 1, 2, 5, 6, 7 (a broken column can be written)"
abbrev pub write_checks : ℕ → ℕ → ℕ → List ℕ → ℕ → List Answer
write_checks w h k raster room =
    check (size_fits w h) size_out
    ∷ check (length_fits w h (length raster)) raster_length
    ∷ check (leb text_room room) text_room_short
    ∷ check (leb k allowance_limit) allowance_out
    ∷ check_at (bad_square w raster) bad_byte
    ∷ []

unfoldable pub checked : ℕ → ℕ → ℕ → List ℕ → ℕ → Answer
checked w h k raster room = first_refusal (write_checks w h k raster room)

-- the work of what passed every check, or what a refusal gives
abbrev pub or_work {ℓ} : {A : Type ℓ} → Answer → A → A → A
or_work a refusal work = cond (eqb a.number done.number) work refusal

-- "On a refusal every count .. returned as 0"
abbrev pub not_written : Answer → WriteOutcome
not_written a = record { answer = a.number; place_x = a.x; place_y = a.y; length = 0 }

abbrev pub written_out : ℕ → WriteOutcome
written_out n = record { answer = done.number; place_x = done.x; place_y = done.y; length = n }

-- what `keekaboor_write_job` answers, and leaves in the text room: "nothing is written" on a refusal, else the text, and every byte past it as it was
pub record WriteJob (w h k : ℕ) (raster room : List ℕ) (r : WriteOutcome) (after : List ℕ) : Type 0 where
  pub outcome : r ≡ or_work (checked w h k raster (length room)) (not_written (checked w h k raster (length room))) (written_out (length (job_text w h k raster)))
  pub left : after ≡ or_work (checked w h k raster (length room)) room (written room 0 (job_text w h k raster))
