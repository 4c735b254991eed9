-- Reading a job (document 01, 'Job text' and 'Answers by number'): a text is judged line by line against the lines of the one text of a job.
use Rattle.std.specs.Prelude.{◌≡◌, cond, List, [], ◌∷◌, ◌++◌, map, ℕ, zero, suc, ◌+◌, ◌*◌, ◌≤◌, leb, eqb, length, take, drop, get_or, Option, Some, None, Result, Ok, Err}
use Rattle.grid.specs.Limits.{allowance_limit, raster_room}
use Rattle.grid.specs.Answers.{answer, done, check, first_refusal, answer_of, answered, size_out, allowance_out, text_long, bad_line, raster_room_short}
use Rattle.grid.specs.Raster.{size_fits}
use Rattle.grid.specs.declared.answers.Answer.{Answer}
use Rattle.grid.specs.declared.answers.Refusal.{Refusal}
use Rattle.grid.specs.declared.answers.Refusal.TheVariants.{BadLine}
use Rattle.grid.specs.declared.raster.Job.{Job}
use Rattle.grid.specs.declared.raster.Size.{Size}
use Rattle.text.specs.Words.{stands, found, square}
use Rattle.grid.specs.Rooms.{written}
use Rattle.text.specs.Line.{line_numbers, line_at}
use Rattle.job.specs.JobText.{number_limit, shape_word, row_head, row_line, text_room}
use Rattle.job.specs.declared.lines.Shape.{Shape}
use Rattle.job.specs.declared.read.ReadOutcome.{ReadOutcome}

-- "Line 1: `shape`, width, height, allowance.": its numbers, and the spot past it
abbrev pub shape_from : Option ℕ → List ℕ → Option (Shape × ℕ)
shape_from (Some next) numbers = Some (record { width = get_or numbers 0 0; height = get_or numbers 1 0; allowance = get_or numbers 2 0 }, next)
shape_from None numbers = None

unfoldable pub shape_at : List ℕ → ℕ → Option (Shape × ℕ)
shape_at text spot = shape_from (line_at text spot shape_word number_limit 3) (line_numbers text spot shape_word 3)

-- A line is as ruled where the text goes on with exactly its bytes. The line of row r: its squares can only be those of the width bytes behind its head.
abbrev pub squares_at : List ℕ → ℕ → ℕ → List ℕ
squares_at text spot w = map square (take w (drop spot text))

unfoldable pub row_at : List ℕ → ℕ → ℕ → ℕ → Option ℕ
row_at text spot w r =
    let line = row_line r (squares_at text (spot + length (row_head r)) w) in
    found (stands text spot line) (spot + length line)

-- "one line for each row from the top row down", here rows r - 1 to 0; "Nothing follows row 0." The first line that is not as ruled: "A missing
-- line is reported under the number it would have; text past the end, under its own line number; a last line without line feed, under its number."
abbrev pub then_rows : Option ℕ → ℕ → (ℕ → Result (Unit {0}) Refusal) → Result (Unit {0}) Refusal
then_rows (Some next) line rest = rest next
then_rows None line rest = Err (BadLine line)

unfoldable pub rows_from : List ℕ → ℕ → ℕ → ℕ → ℕ → Result (Unit {0}) Refusal
rows_from text w zero line spot = cond (eqb spot (length text)) (Ok tt) (Err (BadLine line))
rows_from text w (suc r) line spot = then_rows (row_at text spot w r) line (λ next. rows_from text w r (line + 1) next)

-- the raster of rows r - 1 to 0, whose lines begin at the spot: "row 0 first", so the rows below come before
unfoldable pub raster_from : List ℕ → ℕ → ℕ → ℕ → List ℕ
raster_from text w zero spot = []
raster_from text w (suc r) spot =
    raster_from text w r (spot + (length (row_head r) + w + 1)) ++ squares_at text (spot + length (row_head r)) w

-- what copying them asks: their lines stand at the spot, and the room holds the raster
pub record Copies (text : List ℕ) (spot : ℕ) (size : Size) (room : List ℕ) : Type 0 where
  pub ruled : rows_from text size.width size.height 2 spot ≡ Ok tt
  pub holds : size.height * size.width ≤ length room

-- the job of line 1, and the spot past it
abbrev pub job_of : Shape → Job
job_of s = record { size = record { width = s.width; height = s.height }; allowance = s.allowance }

abbrev pub shape_job : Option (Shape × ℕ) → Job
shape_job (Some (s, next)) = job_of s
shape_job None = record { size = record { width = 0; height = 0 }; allowance = 0 }

abbrev pub shape_next : Option (Shape × ℕ) → ℕ
shape_next (Some (s, next)) = next
shape_next None = 0

-- "text line not as ruled | line number from 1, 0"
abbrev pub check_shape : Option (Shape × ℕ) → Answer
check_shape (Some s) = done
check_shape None = answer bad_line 1 0

-- "11 for line 1, 1, 6, 11 for the rest in line order"
abbrev pub line_checks : List ℕ → Option (Shape × ℕ) → List Answer
line_checks text s =
    check_shape s
    ∷ check (size_fits (shape_job s).size.width (shape_job s).size.height) size_out
    ∷ check (leb (shape_job s).allowance allowance_limit) allowance_out
    ∷ answered (rows_from text (shape_job s).size.width (shape_job s).size.height 2 (shape_next s))
    ∷ []

-- "Reading a job: 12, 10", and then the lines
abbrev pub read_checks : List ℕ → ℕ → List Answer
read_checks text room =
    check (leb raster_room room) raster_room_short
    ∷ check (leb (length text) text_room) text_long
    ∷ line_checks text (shape_at text 0)

-- the job of line 1 and the spot past it, or a refusal's answer
abbrev pub Judged : Type 0
Judged = Result (Job × ℕ) Answer

abbrev pub judged_by : Answer → Option (Shape × ℕ) → Judged
judged_by a s = cond (eqb a.number done.number) (Ok (shape_job s, shape_next s)) (Err a)

unfoldable pub judged : List ℕ → ℕ → Judged
judged text room = judged_by (first_refusal (read_checks text room)) (shape_at text 0)

-- For inner functions alone: the lines of a text; what the code judges, with the refusal's answer.
unfoldable pub judged_lines : List ℕ → Judged
judged_lines text = judged_by (first_refusal (line_checks text (shape_at text 0))) (shape_at text 0)

abbrev pub told : Result (Job × ℕ) Refusal → Judged
told (Ok j) = Ok j
told (Err r) = Err (answer_of r)

-- the numbers and the place of each answer; "On a refusal .. a read job's width, height and allowance are returned as 0"
abbrev pub read_outcome : Judged → ReadOutcome
read_outcome (Err a) = record { answer = a.number; place_x = a.x; place_y = a.y; width = 0; height = 0; allowance = 0 }
read_outcome (Ok (job, spot)) =
    record { answer = done.number; place_x = done.x; place_y = done.y; width = job.size.width; height = job.size.height; allowance = job.allowance }

-- "and nothing is written"; on success the raster, and every byte past it as it was
abbrev pub read_room : List ℕ → List ℕ → Judged → List ℕ
read_room text room (Err a) = room
read_room text room (Ok (job, spot)) = written room 0 (raster_from text job.size.width job.size.height spot)

-- what `keekaboor_read_job` answers, and leaves in the raster room
pub record ReadJob (text room : List ℕ) (r : ReadOutcome) (after : List ℕ) : Type 0 where
  pub outcome : r ≡ read_outcome (judged text (length room))
  pub left : after ≡ read_room text room (judged text (length room))
