-- What only the contracts of inner functions name: the code's values read as the rules' ones, and the chain in the parts in which the code asks it.
use Rattle.std.specs.Prelude.{List, [], ℕ, length, Option, Some, None, Result, Ok, Err}
use Rattle.std.proofs.Math.Option.{none, some}
use Rattle.std.proofs.Math.Option as Found
use Rattle.grid.specs.Lines.{column, row}
use Rattle.grid.specs.Squares.{Rectangle, square}
use Rattle.cover.specs.declared.flashes.Flash.{Flash}
use Rattle.listcheck.specs.FlashList.{flashes_of, end_at}
use Rattle.grid.specs.Answers.{answer_of}
use Rattle.grid.specs.declared.answers.Refusal.{Refusal}
use Rattle.listcheck.specs.Checked.{Given, refused_at, bad_at, bare_at, sound}
use Rattle.listcheck.specs.declared.lines.Lines.{Lines}
use Rattle.listcheck.specs.declared.entry.Checked.{Checked}
use Rattle.listcheck.specs.declared.entry.Verdict.{Verdict}
use Rattle.listcheck.specs.declared.entry.Verdict.TheVariants.{Bad, Bare, Sound}

-- a rectangle as a flash of the code
abbrev pub flash_is : Rectangle → Flash
flash_is q = record { first = column q.first; last = column q.last; bottom = row q.bottom; top = row q.top }

-- what a line says, and where it ends
abbrev pub said_of : Option ℕ → Rectangle → Option (Flash × ℕ)
said_of (Some next) q = Some (flash_is q, next)
said_of None q = None

-- how many lines are as ruled, and where they end
abbrev pub lines_of : List ℕ → Lines
lines_of text = record { count = length (flashes_of text); end = end_at text 0 }

-- a number that was looked for
abbrev pub found_of : Found.Option ℕ → Option ℕ
found_of none = None
found_of (some n) = Some n

-- a verdict on a list of n flashes as the call tells it, and what it gives with it
abbrev pub told_of : Verdict → ℕ → Checked
told_of (Bad line) n = (bad_at n line []).outcome
told_of (Bare column row) n = (bare_at n (square column.0 row.0) []).outcome
told_of (Sound above marks) n = record { answer = 0; place_x = 0; place_y = 0; verdict = sound; flashes = n; above = above; marks = marks }

abbrev pub given_of : Verdict → ℕ → List ℕ → Given
given_of v n m = record { outcome = told_of v n; marks_after = m }

-- what is told of a call, or of its refusal
abbrev pub checked_of : Result Checked Refusal → Checked
checked_of (Ok c) = c
checked_of (Err r) = (refused_at (answer_of r) []).outcome
