-- The interval table read as a set of the method: a word for each left line, whose bit r - 1 is on where the interval from that line to line r is in the set.
use Rattle.std.specs.Prelude.{◌≡◌, Bool, true, false, not, cond, ◌&&◌, List, map, ℕ, ◌+◌, ◌-◌, ◌≤◌, leb, eqb, ltb, get_or}
use Rattle.std.specs.Prelude.{Option as Found, None, Some}
use Rattle.std.proofs.Math.Option.{Option, none, some}
use Rattle.lists.specs.Lists.{any, count, first, from, up_to}
use Rattle.method.specs.Intervals.{Interval as Span, span, same, select, member}
use Rattle.grid.specs.Limits.{side}
use Rattle.grid.specs.Lines.{line, interval_of}
use Rattle.grid.specs.declared.lines.Interval.{Interval}
use Rattle.grid.specs.declared.lines.Line.{Line}
use Rattle.grid.specs.Code.{or_end}
use Rattle.words.specs.Words.{on, word_of}

-- the set that a table holds, over the lines 0 to n
unfoldable pub set_of : ℕ → List ℕ → List Span
set_of n t = select n (λ i. on (get_or t i.left 0) (i.right - 1))

-- the word of line l
abbrev pub row_of : List Span → ℕ → ℕ
row_of s l = word_of (λ k. member (span l (k + 1)) s)

-- the table of a set, every word of it
unfoldable pub table_of : List Span → List ℕ
table_of s = map (row_of s) (up_to side)

-- a table that is the table of a set over the lines 0 to n
pub record Tabled (n : ℕ) (t : List ℕ) : Type 0 where
  pub fits : n ≤ side
  pub whole : t ≡ table_of (set_of n t)

-- a set with the interval i in it, or not, and all else as it was
unfoldable pub changed : ℕ → Span → Bool → List Span → List Span
changed n i b s = select n (λ j. cond (same i j) b (member j s))

abbrev pub with : ℕ → Span → List Span → List Span
with n i s = changed n i true s

abbrev pub without : ℕ → Span → List Span → List Span
without n i s = changed n i false s

-- the least line beyond p and up to n at which an interval of s from line l ends
unfoldable pub next_end : ℕ → List Span → ℕ → ℕ → Option ℕ
next_end n s l p = first (λ r. member (span l r) s) (from (p + 1) (n - p))

-- an interval of s begins at line l
unfoldable pub begun_at : List Span → ℕ → Bool
begun_at s l = any (λ i. eqb i.left l) s

-- the first line from p on and before n at which an interval of s begins; n where none does
unfoldable pub begun_from : ℕ → List Span → ℕ → ℕ
begun_from n s p = or_end n (first (begun_at s) (from p (n - p)))

-- no interval of s begins before line p
abbrev pub NoneBegins : List Span → ℕ → Type 0
NoneBegins s p = (i : Span) → member i s ≡ true → p ≤ i.left

-- at least two intervals of s over the lines 0 to n end at line r
unfoldable pub ended_twice : ℕ → List Span → ℕ → Bool
ended_twice n s r = leb 2 (count (λ l. member (span l r) s) (up_to n))

-- without the intervals from line l that end beyond line e
unfoldable pub cut_at : ℕ → ℕ → ℕ → List Span → List Span
cut_at n l e s = select n (λ j. member j s && not (eqb j.left l && ltb e j.right))

-- what was found, as the code has it
abbrev pub found_of : Option Span → Found Interval
found_of none = None
found_of (some i) = Some (interval_of i)

abbrev pub line_found : Option ℕ → Found Line
line_found none = None
line_found (some r) = Some (line r)
