-- Columns, rows and grid lines as the code holds them, read as document 01's numbers; an interval of the code read as one of the rules.
-- Each definition is total: where right ≤ left there is no interval, so it has length 0, holds nothing and meets nothing.
use Rattle.std.specs.Prelude.{Bool, cond, ◌&&◌, ℕ, ◌+◌, ◌-◌, Option, Some, None}
use Rattle.method.specs.Intervals.{Interval as Span, span, proper, holds, inside, meet}
use Rattle.grid.specs.declared.lines.Column.{Column}
use Rattle.grid.specs.declared.lines.Row.{Row}
use Rattle.grid.specs.declared.lines.Line.{Line}
use Rattle.grid.specs.declared.lines.Interval.{Interval}

abbrev pub column : ℕ → Column
column n = record { 0 = n }

abbrev pub row : ℕ → Row
row n = record { 0 = n }

abbrev pub line : ℕ → Line
line n = record { 0 = n }

abbrev pub interval : ℕ → ℕ → Interval
interval l r = record { left = line l; right = line r }

-- the code's interval as the rules have it, and back
abbrev pub span_of : Interval → Span
span_of i = span i.left.0 i.right.0

abbrev pub interval_of : Span → Interval
interval_of s = interval s.left s.right

-- "column c lies between line c and line c + 1"
abbrev pub left_line : Column → Line
left_line c = line c.0

abbrev pub right_line : Column → Line
right_line c = line (c.0 + 1)

-- the whole width of a grid, from line 0 to its last line
abbrev pub whole_to : Line → Interval
whole_to last = interval 0 last.0

-- "An interval's length is R - L"
abbrev pub length_of : Interval → ℕ
length_of i = i.right.0 - i.left.0

abbrev pub meet_of : Interval → Interval → Interval
meet_of i j = interval_of (meet (span_of i) (span_of j))

-- j is an interval and lies wholly inside i
abbrev pub contains_of : Interval → Interval → Bool
contains_of i j = proper (span_of j) && inside (span_of i) (span_of j)

abbrev pub holds_of : Interval → Column → Bool
holds_of i c = holds c.0 (span_of i)

-- "holds columns L to R - 1": the first and the last, where there is one
abbrev pub columns_of : Interval → Option (Column × Column)
columns_of i = cond (proper (span_of i)) (Some (column i.left.0, column (i.right.0 - 1))) None
