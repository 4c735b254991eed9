-- What the check program prints for the texts of a job and of a list. It reads the job first, then checks the list.
use Rattle.std.specs.Prelude.{cond, List, [], ◌∷◌, ◌++◌, ℕ, eqb, replicate, Ok, Err}
use Rattle.grid.specs.Limits.{mark_room_size, raster_room}
use Rattle.text.specs.Line.{line}
use Rattle.job.specs.Reading.{Judged, judged, raster_from}
use Rattle.printed.specs.Printed.{refused_word, mark_lines}
use Rattle.listcheck.specs.Checked.{Given, bad, bare, refused_at, check_gives}
use Rattle.listcheck.specs.declared.entry.Checked.{Checked}

-- `sound`, `bad`, `bare`
abbrev pub sound_word : List ℕ
sound_word = 115 ∷ 111 ∷ 117 ∷ 110 ∷ 100 ∷ []

abbrev pub bad_word : List ℕ
bad_word = 98 ∷ 97 ∷ 100 ∷ []

abbrev pub bare_word : List ℕ
bare_word = 98 ∷ 97 ∷ 114 ∷ 101 ∷ []

-- `sound`, how many above the least; `bad`, line; `bare`, column, row; `refused`, its number and the two place numbers
unfoldable pub verdict_line : Checked → List ℕ
verdict_line c =
    cond (eqb c.answer 0)
    (cond (eqb c.verdict bad)
    (line bad_word (c.place_x ∷ []))
    (cond (eqb c.verdict bare) (line bare_word (c.place_x ∷ c.place_y ∷ [])) (line sound_word (c.above ∷ []))))
    (line refused_word (c.answer ∷ c.place_x ∷ c.place_y ∷ []))

-- behind it our marks, which only a sound list has
unfoldable pub checked_text : Checked → List ℕ → List ℕ
checked_text c m = verdict_line c ++ mark_lines c.marks m

abbrev pub given_text : Given → List ℕ
given_text g = checked_text g.outcome g.marks_after

-- the mark room is lent with no record in it
abbrev pub check_text : ℕ → ℕ → ℕ → List ℕ → List ℕ → List ℕ
check_text w h k raster list = given_text (check_gives w h k raster list (replicate mark_room_size 0))

abbrev pub refusal_text : ℕ → ℕ → ℕ → List ℕ
refusal_text n x y = given_text (refused_at (record { number = n; x = x; y = y }) [])

abbrev pub judged_text : List ℕ → List ℕ → Judged → List ℕ
judged_text text list (Err a) = refusal_text a.number a.x a.y
judged_text text list (Ok (job, spot)) =
    check_text job.size.width job.size.height job.allowance (raster_from text job.size.width job.size.height spot) list

unfoldable pub program_text : List ℕ → List ℕ → List ℕ
program_text text list = judged_text text list (judged text raster_room)
