-- What the Gerber program prints for its words and a text on standard input.
use Rattle.std.specs.Prelude.{cond, List, [], ◌∷◌, ℕ, eqb, ℤ, replicate, take, Option, Some, None, Result, Ok, Err}
use Rattle.grid.specs.Limits.{flash_room_size, mark_room_size, raster_room, file_room_size}
use Rattle.text.specs.Line.{line}
use Rattle.job.specs.Reading.{Judged, judged, raster_from}
use Rattle.printed.specs.Printed.{printed, flash_lines}
use Rattle.gerber.specs.File.{bytes}
use Rattle.gerber.specs.Writing.{Given, write_gives}
use Rattle.gerber.specs.Reading.{read_gives}
use Rattle.gerber.specs.declared.read.ReadOutcome.{ReadOutcome}
use Rattle.text.specs.Words.{word_at}
use Rattle.gerberfile.specs.Words.{word_number, asked_by}
use Rattle.gerberfile.specs.declared.call.Call.{Call}
use Rattle.gerberfile.specs.declared.call.WrongWord.{WrongWord}

-- `wrong` and which word of the call is no number
abbrev pub wrong_text : ℕ → List ℕ
wrong_text word = line (bytes "wrong") (word ∷ [])

-- "A refusal prints `refused`, its number and the two place numbers; after number 9 the mark lines follow."
abbrev pub refused_text : ℕ → ℕ → ℕ → ℕ → List ℕ → List ℕ
refused_text n x y marks m = printed (record { answer = n; place_x = x; place_y = y; flashes = 0; marks = marks; copper = 0; flashed = 0 }) [] m

-- the file, or the refusal
abbrev pub given_text : Given → List ℕ
given_text g =
    let o = g.outcome in
    cond (eqb o.answer 0) (take o.length g.file_after) (refused_text o.answer o.place_x o.place_y o.marks g.marks_after)

-- the rooms are lent with no record in them
abbrev pub file_text : ℕ → ℕ → ℕ → List ℕ → ℕ → ℕ → ℤ → ℤ → List ℕ
file_text w h k raster version pitch x y = given_text (write_gives w h k raster version pitch x y (replicate flash_room_size 0) (replicate mark_room_size 0) (replicate file_room_size 0))

-- the job is read first
abbrev pub judged_text : List ℕ → ℕ → ℕ → ℤ → ℤ → Judged → List ℕ
judged_text text version pitch x y (Err a) = refused_text a.number a.x a.y 0 []
judged_text text version pitch x y (Ok (job, spot)) =
    file_text job.size.width job.size.height job.allowance (raster_from text job.size.width job.size.height spot) version pitch x y

unfoldable pub job_text : List ℕ → ℕ → ℕ → ℤ → ℤ → List ℕ
job_text text version pitch x y = judged_text text version pitch x y (judged text raster_room)

-- a file's flashes in its order, or the refusal
abbrev pub read_back_text : ReadOutcome → List ℕ → List ℕ
read_back_text o f = cond (eqb o.answer 0) (flash_lines o.flashes f) (refused_text o.answer o.place_x o.place_y 0 [])

unfoldable pub read_text : List ℕ → ℕ → ℕ → ℤ → ℤ → List ℕ
read_text text version pitch x y = let g = read_gives version pitch x y text (replicate flash_room_size 0) in read_back_text g.outcome g.flashes_after

-- the task `read` reads a file back; any other writes one
abbrev pub task_text : Option ℕ → List ℕ → ℕ → ℕ → ℤ → ℤ → List ℕ
task_text (Some next) text version pitch x y = read_text text version pitch x y
task_text None text version pitch x y = job_text text version pitch x y

abbrev pub asked_text : List ℕ → List ℕ → Result Call WrongWord → List ℕ
asked_text task text (Err word) = wrong_text (word_number word)
asked_text task text (Ok call) = task_text (word_at task 0 (bytes "read")) text call.version call.pitch call.x call.y

unfoldable pub program_text : List ℕ → List ℕ → List ℕ → List ℕ → List ℕ → List ℕ → List ℕ
program_text task version pitch x y text = asked_text task text (asked_by version pitch x y)
