-- Marks noted by column, each with the interval that it was marked for, and what the code keeps on its way from mark to mark.
use Rattle.std.specs.Prelude.{◌≡◌, Option, Some, None, List, [], ◌∷◌, ℕ, ◌+◌, ◌*◌, ◌<◌, length}
use Rattle.std.proofs.Math.Option.{none, some}
use Rattle.std.proofs.Math.Option as Found
use Rattle.method.specs.Intervals.{Interval as Span}
use Rattle.method.specs.Final.{final, trace}
use Rattle.method.specs.Runs.{SameBag}
use Rattle.method.specs.Strike.{Marked, held_once, marked}
use Rattle.grid.specs.Limits.{bracket_record}
use Rattle.grid.specs.Lines.{column}
use Rattle.grid.specs.declared.lines.Column.{Column}
use Rattle.grid.specs.Rooms.{written}
use Rattle.intervals.specs.Finished.{bracket_bytes}
use Rattle.intervals.specs.Spans.{spans}
use Rattle.intervals.specs.declared.Table.{Table}
use Rattle.counts.specs.Tally.{Lined}

-- a column that was found, if one was
abbrev pub once_of : Found.Option ℕ → Option Column
once_of none = None
once_of (some c) = Some (column c)

-- a record for each column: the interval of the column's mark, and what the room held before where it has none
unfoldable pub noted_for : List Marked → List ℕ → List ℕ
noted_for [] room = room
noted_for (m ∷ ms) room = noted_for ms (written room (m.column * bracket_record) (bracket_bytes m.interval))

-- the marks of a table's set, and the column of the first
abbrev pub marks_of : Table → List Marked
marks_of t = marked t.last.0 (spans t)

abbrev pub next_of : Table → Found.Option ℕ
next_of t = held_once t.last.0 (final t.last.0 (spans t))

-- the bag b is of the set's own brackets, and the counts by line are of both
pub record Tallies (t : Table) (b : List Span) (rises falls : List ℕ) : Type 0 where
  pub brackets : SameBag b (trace t.last.0 (spans t))
  pub lined : Lined (spans t) b rises falls
  pub rise-wide : t.last.0 < length rises
  pub fall-wide : t.last.0 < length falls

-- a turn: what was to be noted of the set is one mark and what is to be noted of the set that is left, which is smaller
pub record Turned (t : Table) (noted : List ℕ) (t' : Table) (noted' : List ℕ) : Type 0 where
  pub last : t'.last ≡ t.last
  pub fewer : length (spans t') < length (spans t)
  pub one_more : length (marks_of t) ≡ 1 + length (marks_of t')
  pub marking : noted_for (marks_of t) noted ≡ noted_for (marks_of t') noted'
  pub noted-long : length noted' ≡ length noted
