-- What the cover program prints of an outcome ('Job text'). What is printed is said here and nowhere else.
-- Throughout, f and m are what the flash room and the mark room hold.
use Rattle.std.specs.Prelude.{cond, List, [], ◌∷◌, ◌++◌, ℕ, ◌+◌, ◌-◌, ◌*◌, ◌^◌, ◌≤◌, eqb, length}
use Rattle.grid.specs.Limits.{side, flash_record, mark_record}
use Rattle.grid.specs.Answers.{done, allowance_short}
use Rattle.grid.specs.declared.answers.Answer.{Answer}
use Rattle.cover.specs.declared.entry.Outcome.{Outcome}
use Rattle.grid.specs.Rooms.{Written}
use Rattle.text.specs.Line.{line, record_lines, field_room}

-- `cover`, `flash`, `mark`, `refused`
abbrev pub cover_word : List ℕ
cover_word = 99 ∷ 111 ∷ 118 ∷ 101 ∷ 114 ∷ []

abbrev pub flash_word : List ℕ
flash_word = 102 ∷ 108 ∷ 97 ∷ 115 ∷ 104 ∷ []

abbrev pub mark_word : List ℕ
mark_word = 109 ∷ 97 ∷ 114 ∷ 107 ∷ []

abbrev pub refused_word : List ℕ
refused_word = 114 ∷ 101 ∷ 102 ∷ 117 ∷ 115 ∷ 101 ∷ 100 ∷ []

-- "The fields of `cover` are the flash count and the copper number;" the flashed area is "printed as a third field" (02, R-1)
abbrev pub cover_line : Outcome → List ℕ
cover_line o = line cover_word (o.flashes ∷ o.copper ∷ o.flashed ∷ [])

-- "those of `flash` and `mark` are the record bytes in decimal.": a line for each record, in the order of the room
abbrev pub flash_lines : ℕ → List ℕ → List ℕ
flash_lines n f = record_lines flash_word flash_record n f

abbrev pub mark_lines : ℕ → List ℕ → List ℕ
mark_lines n m = record_lines mark_word mark_record n m

-- "A refusal prints `refused`, its number and the two place numbers;"
abbrev pub refusal_line : Answer → List ℕ
refusal_line a = line refused_word (a.number ∷ a.x ∷ a.y ∷ [])

abbrev pub refused_line : Outcome → List ℕ
refused_line o = refusal_line (record { number = o.answer; x = o.place_x; y = o.place_y })

-- "after number 9 the mark lines follow."
abbrev pub marks_after : Outcome → List ℕ → List ℕ
marks_after o m = cond (eqb o.answer allowance_short) (mark_lines o.marks m) []

unfoldable pub printed : Outcome → List ℕ → List ℕ → List ℕ
printed o f m =
    cond (eqb o.answer done.number)
    (cover_line o ++ (flash_lines o.flashes f ++ mark_lines o.marks m))
    (refused_line o ++ marks_after o m)

-- The longest line of each kind: its word, a tab and the most digits for each field (a count, a number of 64 bits, a byte), and the line feed.
abbrev pub byte_room : ℕ
byte_room = field_room (2 ^ 8 - 1)

abbrev pub cover_line_room : ℕ
cover_line_room = length cover_word + field_room side + 2 * field_room (2 ^ 64 - 1) + 1

abbrev pub flash_line_room : ℕ
flash_line_room = length flash_word + flash_record * byte_room + 1

abbrev pub mark_line_room : ℕ
mark_line_room = length mark_word + mark_record * byte_room + 1

-- the longest print
abbrev pub print_room : ℕ
print_room = cover_line_room + side * flash_line_room + side * mark_line_room

-- what printing asks: no more records than the grid has columns, rooms that hold them, and room for the longest print
pub record Printable (o : Outcome) (f m out : List ℕ) : Type 0 where
  pub few-flashes : o.flashes ≤ side
  pub few-marks : o.marks ≤ side
  pub flashes-held : o.flashes * flash_record ≤ length f
  pub marks-held : o.marks * mark_record ≤ length m
  pub room : print_room ≤ length out

-- the contract of `print_outcome`: the number of bytes n, and the room that held out and holds out' after it
abbrev pub Prints : Outcome → List ℕ → List ℕ → List ℕ → ℕ → List ℕ → Type 0
Prints o f m out n out' = Written out 0 (printed o f m) n out'
