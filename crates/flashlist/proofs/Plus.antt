-- Document 01's plus through the whole program: its text on standard input prints its five lines.
-- By evaluation, over the definitions of every crate.
use mathlib.Core.Path.{◌≡◌, refl}
use mathlib.Core.List.{List, [], ◌∷◌, ◌++◌}
use Prim.Native.Nat.{ℕ}
use Rattle.method.specs.Dependent.{covered_inside, dependent, minimal}
use Rattle.method.specs.Reduce.{outermost, meets, reduce}
use Rattle.method.specs.Final.{leftmost, reduced, final}
use Rattle.method.specs.Strike.{held_once, strike, least, found, marked}
use Rattle.grid.specs.Answers.{or_else, first_refusal}
use Rattle.grid.specs.Squares.{grid_squares, copper_number}
use Rattle.grid.specs.Raster.{first_bad, gap, broken_from}
use Rattle.grid.specs.Rooms.{written}
use Rattle.text.specs.Words.{begins}
use Rattle.text.specs.Decimal.{digits, decimal, run, value}
use Rattle.text.specs.Line.{line, record_lines, numbers_from, line_at}
use Rattle.job.specs.JobText.{row_head, row_line, rows_length, text_length}
use Rattle.job.specs.Reading.{shape_at, row_at, rows_from, raster_from, judged}
use Rattle.cover.specs.Slices.{ends_left, ends_right, copper_along, slice, shown, lowest_shown, starting}
use Rattle.cover.specs.Flashes.{flash, flashes, flashed_area}
use Rattle.cover.specs.Marks.{mark, by_column, marks}
use Rattle.cover.specs.Cover.{or_work, cover_gives}
use Rattle.printed.proofs.Example.{five_lines}
use Rattle.printed.specs.Printed.{printed}
use Rattle.flashlist.specs.Program.{program_text}

-- "shape 3 3 64", "row 2 .#.", "row 1 ###", "row 0 .#.", with a tab for each space
abbrev plus_text : List ℕ
plus_text =
    (115 ∷ 104 ∷ 97 ∷ 112 ∷ 101 ∷ 9 ∷ 51 ∷ 9 ∷ 51 ∷ 9 ∷ 54 ∷ 52 ∷ 10 ∷ [])
    ++ (114 ∷ 111 ∷ 119 ∷ 9 ∷ 50 ∷ 9 ∷ 46 ∷ 35 ∷ 46 ∷ 10 ∷ [])
    ++ (114 ∷ 111 ∷ 119 ∷ 9 ∷ 49 ∷ 9 ∷ 35 ∷ 35 ∷ 35 ∷ 10 ∷ [])
    ++ (114 ∷ 111 ∷ 119 ∷ 9 ∷ 48 ∷ 9 ∷ 46 ∷ 35 ∷ 46 ∷ 10 ∷ [])

pub plus_prints : program_text plus_text ≡ five_lines
unfolding grid_squares copper_number program_text judged shape_at line_at numbers_from line record_lines rows_from row_at raster_from row_line row_head rows_length text_length digits decimal run value
    begins covered_inside dependent minimal outermost meets reduce leftmost reduced final held_once strike least found marked first_bad gap broken_from
    ends_left ends_right copper_along slice shown lowest_shown starting flash flashes flashed_area mark by_column marks written or_else first_refusal or_work cover_gives
    printed
plus_prints = refl
