-- The list that a text says (02, R-5: "his list, as `flash` lines in any order"): one line for each flash, in the form of a job's text.
use Rattle.std.specs.Prelude.{cond, List, [], ◌∷◌, ℕ, zero, suc, ◌-◌, eqb, length, Option, Some, None}
use Rattle.std.proofs.Math.Option.{none, some}
use Rattle.std.proofs.Math.Option as Found
use Rattle.grid.specs.Limits.{flash_record}
use Rattle.grid.specs.Squares.{Rectangle}
use Rattle.text.specs.Line.{line_at, line_numbers}
use Rattle.job.specs.JobText.{number_limit}
use Rattle.cover.specs.Records.{flash_of}
use Rattle.printed.specs.Printed.{flash_word}

-- the line at a spot, `flash` and four numbers, 0 to 9999; and the flash that its numbers say: first column, last column, bottom row, top row
unfoldable pub flash_line_at : List ℕ → ℕ → Option ℕ
flash_line_at text spot = line_at text spot flash_word number_limit flash_record

unfoldable pub flash_said : List ℕ → ℕ → Rectangle
flash_said text spot = flash_of (line_numbers text spot flash_word flash_record)

-- the flashes that the lines from a spot on say, up to the first that is not as ruled, and the spot where these lines end; `most` bounds their number
abbrev pub said_then : Option ℕ → Rectangle → (ℕ → List Rectangle) → List Rectangle
said_then (Some next) q later = q ∷ later next
said_then None q later = []

unfoldable pub flashes_from : ℕ → List ℕ → ℕ → List Rectangle
flashes_from zero text spot = []
flashes_from (suc most) text spot = said_then (flash_line_at text spot) (flash_said text spot) (flashes_from most text)

abbrev pub end_then : Option ℕ → ℕ → (ℕ → ℕ) → ℕ
end_then (Some next) spot later = later next
end_then None spot later = spot

unfoldable pub end_from : ℕ → List ℕ → ℕ → ℕ
end_from zero text spot = spot
end_from (suc most) text spot = end_then (flash_line_at text spot) spot (end_from most text)

-- a text has no more lines than bytes
abbrev pub flashes_at : List ℕ → ℕ → List Rectangle
flashes_at text spot = flashes_from (length text - spot) text spot

abbrev pub end_at : List ℕ → ℕ → ℕ
end_at text spot = end_from (length text - spot) text spot

unfoldable pub flashes_of : List ℕ → List Rectangle
flashes_of text = flashes_at text 0

-- "list line not as ruled, with its line": the line at which the lines as ruled end, where the text goes on there
unfoldable pub line_not_ruled : List ℕ → Found.Option ℕ
line_not_ruled text = cond (eqb (end_at text 0) (length text)) none (some (suc (length (flashes_of text))))
