-- Document 01's plus: its text is the one printed there, and is read as the plus. By evaluation.
use Rattle.std.proofs.Common.{Err, Ok}
use mathlib.Core.Path.{◌≡◌, refl}
use mathlib.Core.List.{List, [], ◌∷◌, ◌++◌}
use Prim.Native.Nat.{ℕ}
use Rattle.grid.specs.Limits.{raster_room}
use Rattle.grid.specs.Answers.{answer, or_else, first_refusal}
use Rattle.text.specs.Words.{begins}
use Rattle.text.specs.Decimal.{digits, decimal, run, value}
use Rattle.text.specs.Line.{line, numbers_from, line_at}
use Rattle.job.specs.JobText.{row_head, row_line, row_lines, job_text, rows_length, text_length}
use Rattle.job.specs.Reading.{shape_at, row_at, rows_from, raster_from, judged}

abbrev pub plus_text : List ℕ
plus_text =
    115 ∷ 104 ∷ 97 ∷ 112 ∷ 101 ∷ 9 ∷ 51 ∷ 9 ∷ 51 ∷ 9 ∷ 54 ∷ 52 ∷ 10
    ∷ 114 ∷ 111 ∷ 119 ∷ 9 ∷ 50 ∷ 9 ∷ 46 ∷ 35 ∷ 46 ∷ 10
    ∷ 114 ∷ 111 ∷ 119 ∷ 9 ∷ 49 ∷ 9 ∷ 35 ∷ 35 ∷ 35 ∷ 10
    ∷ 114 ∷ 111 ∷ 119 ∷ 9 ∷ 48 ∷ 9 ∷ 46 ∷ 35 ∷ 46 ∷ 10 ∷ []

abbrev pub plus_raster : List ℕ
plus_raster = 0 ∷ 1 ∷ 0 ∷ 1 ∷ 1 ∷ 1 ∷ 0 ∷ 1 ∷ 0 ∷ []

pub written : job_text 3 3 64 plus_raster ≡ plus_text
unfolding job_text line row_lines row_line row_head decimal digits
written = refl

pub read : judged plus_text raster_room ≡ Ok ((record { size = record { width = 3; height = 3 }; allowance = 64 }), 13)
unfolding judged or_else first_refusal shape_at line_at numbers_from line rows_from row_at row_line row_head text_length rows_length decimal digits run value begins
read = refl

pub raster : raster_from plus_text 3 3 13 ≡ plus_raster
unfolding raster_from row_head decimal digits
raster = refl

-- text past the end, a missing line, a leading zero, a fifth digit
pub past_end : judged (plus_text ++ (10 ∷ [])) raster_room ≡ Err (answer 11 5 0)
unfolding judged or_else first_refusal shape_at line_at numbers_from line rows_from row_at row_line row_head text_length rows_length decimal digits run value begins
past_end = refl

pub none_at_all : judged [] raster_room ≡ Err (answer 11 1 0)
unfolding judged or_else first_refusal shape_at line_at numbers_from line rows_from row_at row_line row_head text_length rows_length decimal digits run value begins
none_at_all = refl
