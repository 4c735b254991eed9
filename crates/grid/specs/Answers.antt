-- Document 01's 'Answers by number': a number with its place, and the order where several apply.
use Rattle.std.specs.Prelude.{Bool, cond, List, [], ◌∷◌, ℕ, eqb, Result, Ok, Err}
use Rattle.std.proofs.Math.Option.{Option, none, some}
use Rattle.grid.specs.Squares.{Square}
use Rattle.grid.specs.declared.answers.Answer.{Answer}
use Rattle.grid.specs.declared.answers.Refusal.{Refusal}
use Rattle.grid.specs.declared.answers.Refusal.TheVariants.{SizeOut, RasterLength, FlashRoomShort, MarkRoomShort, TextRoomShort, AllowanceOut, BadByte, BrokenColumn}
use Rattle.grid.specs.declared.answers.Refusal.TheVariants.{AllowanceShort, TextLong, BadLine, RasterRoomShort, PitchOut, CentreOut, FileRoomShort, BadListLine, ListLong, VersionUnknown, BadFileLine}

abbrev pub answer : ℕ → ℕ → ℕ → Answer
answer n x y = record { number = n; x = x; y = y }

-- "0, done"; "A refusal for which no place is named has place 0, 0."
abbrev pub done : Answer
done = answer 0 0 0

abbrev pub refused : ℕ → Answer
refused n = answer n 0 0

-- a check: passed, or a refusal with its number
abbrev pub check : Bool → ℕ → Answer
check passed n = cond passed done (refused n)

-- a check that looks for a square: there is none, or a refusal with its number at the square's column and row
abbrev pub check_at : Option Square → ℕ → Answer
check_at none n = done
check_at (some s) n = answer n s.column s.row

-- an answer, or, where it refuses nothing, the next one
unfoldable pub or_else : Answer → Answer → Answer
or_else a next = cond (eqb a.number 0) next a

-- "Order where several apply": the first of the checks that refuses, or done
unfoldable pub first_refusal : List Answer → Answer
first_refusal [] = done
first_refusal (a ∷ later) = or_else a (first_refusal later)

abbrev pub size_out : ℕ
size_out = 1

abbrev pub raster_length : ℕ
raster_length = 2

abbrev pub flash_room_short : ℕ
flash_room_short = 3

abbrev pub mark_room_short : ℕ
mark_room_short = 4

abbrev pub text_room_short : ℕ
text_room_short = 5

abbrev pub allowance_out : ℕ
allowance_out = 6

abbrev pub bad_byte : ℕ
bad_byte = 7

abbrev pub broken_column : ℕ
broken_column = 8

abbrev pub allowance_short : ℕ
allowance_short = 9

abbrev pub text_long : ℕ
text_long = 10

abbrev pub bad_line : ℕ
bad_line = 11

abbrev pub raster_room_short : ℕ
raster_room_short = 12

-- document 02, R-2
abbrev pub pitch_out : ℕ
pitch_out = 13

abbrev pub centre_out : ℕ
centre_out = 14

abbrev pub file_room_short : ℕ
file_room_short = 15

abbrev pub bad_list_line : ℕ
bad_list_line = 16

abbrev pub list_long : ℕ
list_long = 17

-- document 02, R-9
abbrev pub version_unknown : ℕ
version_unknown = 21

-- document 02, R-2: reading back
abbrev pub bad_file_line : ℕ
bad_file_line = 30

-- a refusal of the code as an answer: its number, and the square's column and row, or the line, or no place
abbrev pub answer_of : Refusal → Answer
answer_of SizeOut = refused size_out
answer_of RasterLength = refused raster_length
answer_of FlashRoomShort = refused flash_room_short
answer_of MarkRoomShort = refused mark_room_short
answer_of TextRoomShort = refused text_room_short
answer_of AllowanceOut = refused allowance_out
answer_of (BadByte c r) = answer bad_byte c.0 r.0
answer_of (BrokenColumn c r) = answer broken_column c.0 r.0
answer_of AllowanceShort = refused allowance_short
answer_of TextLong = refused text_long
answer_of (BadLine n) = answer bad_line n 0
answer_of RasterRoomShort = refused raster_room_short
answer_of PitchOut = refused pitch_out
answer_of CentreOut = refused centre_out
answer_of FileRoomShort = refused file_room_short
answer_of (BadListLine n) = answer bad_list_line n 0
answer_of ListLong = refused list_long
answer_of VersionUnknown = refused version_unknown
answer_of (BadFileLine n) = answer bad_file_line n 0

-- what a function answers that is refused by a `?`, or done
abbrev pub answered : {T : Type 0} → Result T Refusal → Answer
answered (Ok _) = done
answered (Err r) = answer_of r
