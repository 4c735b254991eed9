-- What only the contracts of inner functions name: the code's values read as the rules' ones, and what a step leaves behind.
-- The promises of `keekaboor_cover` stand in Cover.antt and name none of it.
use Rattle.std.specs.Prelude.{Option, Some, None, Bool, true, not, cond, ◌&&◌, ◌||◌, List, [], ◌∷◌, length, get_or}
use Rattle.std.specs.Prelude.{◌≡◌, ℕ, zero, suc, ◌+◌, ◌-◌, ◌*◌, ◌≤◌, ◌<◌, max, eqb, leb, ltb}
use Rattle.lists.specs.Lists.{any, keep, gather, up_to, first, from, down}
use Rattle.method.specs.Intervals.{Interval, proper, columns, beginning_at, select, member}
use Rattle.grid.specs.Limits.{side, flash_record, mark_record, flash_room_size, mark_room_size, allowance_limit}
use Rattle.grid.specs.Answers.{check, size_out, raster_length, flash_room_short, mark_room_short, allowance_out, allowance_short}
use Rattle.grid.specs.Squares.{Area, Rectangle, Square, Unbroken}
use Rattle.grid.specs.Lines.{row, line}
use Rattle.grid.specs.Code.{or_end}
use Rattle.grid.specs.declared.lines.Interval.{Interval as Lines}
use Rattle.grid.specs.Raster.{size_fits, length_fits}
use Rattle.grid.specs.Rooms.{written}
use Rattle.grid.specs.declared.lines.Mark.{Mark}
use Rattle.grid.specs.declared.answers.Answer.{Answer}
use Rattle.columns.specs.Columns.{Upright, Reached, greatest_in, least_in}
use Rattle.counts.specs.Spans.{span_in}
use Rattle.words.specs.Words.{bits, on, Bits, past_of}
use Rattle.cover.specs.Slices.{slice}
use Rattle.cover.specs.Flashes.{flashed_area}
use Rattle.cover.specs.Records.{flash_bytes, mark_bytes, flashes_written, marks_written}
use Rattle.cover.specs.declared.entry.Outcome.{Outcome}
use Rattle.cover.specs.declared.flashes.Flash.{Flash}
use Rattle.cover.specs.declared.flashes.Flashed.{Flashed}

-- a flash as a rectangle, a mark as a square
abbrev pub rectangle_of : Flash → Rectangle
rectangle_of q = record { first = q.first.0; last = q.last.0; bottom = q.bottom.0; top = q.top.0 }

abbrev pub square_of : Mark → Square
square_of m = record { column = m.column.0; row = m.row.0 }

abbrev pub squares_of : Option Mark → List Square
squares_of None = []
squares_of (Some m) = square_of m ∷ []

-- bottoms and ends of the first w columns, for rows of the largest grid
pub record Columned (w : ℕ) (bottoms ends : List ℕ) : Type 0 where
  pub narrow : w ≤ side
  pub low-long : w ≤ length bottoms
  pub high-long : w ≤ length ends
  pub upright : Upright w bottoms ends
  pub low : (c : ℕ) → c < w → get_or ends c 0 ≤ side

-- the area whose first w columns are copper from their bottom to before their end
abbrev pub between : ℕ → List ℕ → List ℕ → Area
between w bottoms ends c y = ltb c w && leb (get_or bottoms c 0) y && ltb y (get_or ends c 0)

-- bottoms and ends, of a grid of w columns and h rows, are those of the area between them, and that area is unbroken
pub record Sheeted (w h : ℕ) (bottoms ends : List ℕ) : Type 0 where
  pub narrow : w ≤ side
  pub low : h ≤ side
  pub unbroken : Unbroken (between w bottoms ends)
  pub reached : Reached (between w bottoms ends) w h bottoms ends

-- exactly one of two
abbrev pub differ : Bool → Bool → Bool
differ a b = cond a (not b) b

-- each number is below n
abbrev pub Within : ℕ → List ℕ → Type 0
Within n numbers = (c : ℕ) → c < length numbers → get_or numbers c 0 < n

-- rows with each of the first n columns flipped in the row that is given for it
abbrev pub flipped_at : List ℕ → ℕ → List ℕ → ℕ → ℕ → Bool
flipped_at places n rows y c = differ (ltb c n && eqb (get_or places c 0) y) (on (get_or rows y 0) c)

-- column c begins or ends in row y, not both: what changes there from the row below
abbrev pub changing : ℕ → List ℕ → List ℕ → ℕ → ℕ → Bool
changing w bottoms ends y c = ltb c w && differ (eqb (get_or bottoms c 0) y) (eqb (get_or ends c 0) y)

-- rows as words: in each row the columns that are on are these
abbrev pub Rowed : (ℕ → ℕ → Bool) → List ℕ → Type 0
Rowed rule rows = (y : ℕ) → y < length rows → Bits (get_or rows y 0) (rule y)

-- what is asked holds in a column or in one beside it
abbrev pub beside : (ℕ → Bool) → ℕ → Bool
beside p c = p c || p (c + 1) || (ltb 0 c && p (c - 1))

-- a set with each slice of a row that has a column beside a change
abbrev pub with_changed : ℕ → (ℕ → Bool) → (ℕ → Bool) → List Interval → List Interval
with_changed w row changed s = select w (λ i. member i s || (slice (λ c y. row c) 0 i && any (beside changed) (columns i)))

-- the next touched column of a row, from line c on, and the slice that holds it: from one past the last bare column before it to the next bare column
abbrev pub slice_at : (ℕ → Bool) → ℕ → Lines
slice_at row k = record {
  left = line (past_of (first (λ j. not (row j)) (down k)));
  right = line (or_end bits (first (λ j. not (row j)) (from k (bits - k))));
}

abbrev pub next_slice : (ℕ → Bool) → (ℕ → Bool) → ℕ → ℕ → Option Lines
next_slice row touched n c =
    let k = or_end bits (first touched (from c (bits - c))) in
    cond (leb n k) None (Some (slice_at row k))

-- a flash whose sides are not reversed, within the largest grid
pub record Drawn (q : Rectangle) : Type 0 where
  pub wide : q.first ≤ q.last
  pub narrow : q.last < side
  pub tall : q.bottom ≤ q.top
  pub low : q.top < side

-- the rectangle of an interval by bottoms and ends: its columns, from their greatest bottom to their least end
abbrev pub flash_between : List ℕ → List ℕ → Interval → Rectangle
flash_between bottoms ends i = record {
  first = i.left;
  last = i.right - 1;
  bottom = greatest_in bottoms i.left (i.right - i.left);
  top = least_in ends i.left (i.right - i.left) - 1;
}

-- an interval over columns that have bottoms and ends, and rows between them
pub record Standing (bottoms ends : List ℕ) (i : Interval) : Type 0 where
  pub wide : i.left < i.right
  pub narrow : i.right ≤ side
  pub low : i.right ≤ length bottoms
  pub high : i.right ≤ length ends
  pub tall : greatest_in bottoms i.left (i.right - i.left) < least_in ends i.left (i.right - i.left)

abbrev pub AllStand : List ℕ → List ℕ → List Interval → Type 0
AllStand bottoms ends s = (i : Interval) → member i s ≡ true → Standing bottoms ends i

-- the intervals of a set over the lines 0 to n that begin at line l, in order
abbrev pub from_line : ℕ → List Interval → ℕ → List Interval
from_line n s l = keep (λ i. member i s) (beginning_at n l)

-- room and numbers for the flashes qs besides those done
pub record Ready (qs : List Rectangle) (done : Flashed) (f : List ℕ) : Type 0 where
  pub short : done.count + length qs ≤ side
  pub small : done.area ≤ done.count * (side * side)
  pub lent : flash_room_size ≤ length f

-- the flashes qs put behind those done: their number and area added, and the room's bytes
pub record Added (qs : List Rectangle) (f : List ℕ) (done r : Flashed) (f' : List ℕ) : Type 0 where
  pub count : r.count ≡ done.count + length qs
  pub area : r.area ≡ done.area + flashed_area qs
  pub room : f' ≡ written f (done.count * flash_record) (gather flash_bytes qs)
  pub as_long : length f' ≡ length f

-- flashes written: their number, the sum of their areas, and what the room that held f holds after it
pub record FlashesDone (qs : List Rectangle) (f : List ℕ) (done : Flashed) (f' : List ℕ) : Type 0 where
  pub count : done.count ≡ length qs
  pub area : done.area ≡ flashed_area qs
  pub room : f' ≡ flashes_written qs f

-- the first row from y on in which a column is not copper: past its end, where y lies from its bottom on
abbrev pub row_past : ℕ → ℕ → ℕ → ℕ
row_past bottom end y = cond (ltb y bottom) y (max y end)

-- the same of the column to the left of a line, and to the right of it; there is none to the left of line 0, and none from line n on
abbrev pub past_left : List ℕ → List ℕ → ℕ → ℕ → ℕ
past_left bottoms ends zero y = y
past_left bottoms ends (suc c) y = row_past (get_or bottoms c 0) (get_or ends c 0) y

abbrev pub past_right : ℕ → List ℕ → List ℕ → ℕ → ℕ → ℕ
past_right n bottoms ends l y = cond (ltb l n) (row_past (get_or bottoms l 0) (get_or ends l 0) y) y

-- the row of an interval's marks by bottoms and ends: from the greatest bottom on past both columns beside it, and once more past the left one
abbrev pub row_between : ℕ → List ℕ → List ℕ → Interval → ℕ
row_between n bottoms ends i =
    past_left bottoms ends i.left
    (past_right n bottoms ends i.right (past_left bottoms ends i.left (greatest_in bottoms i.left (i.right - i.left))))

-- what is noted for the columns before line n ends there at the latest
abbrev pub NotedTo : ℕ → List ℕ → Type 0
NotedTo n noted = (c : ℕ) → c < n → (span_in noted c).right ≤ n

-- the mark that is noted for a column, if one is: its record is an interval, whose row a rule says
abbrev pub marked_in : (Interval → ℕ) → List ℕ → ℕ → List Square
marked_in rows noted c = cond (proper (span_in noted c)) (record { column = c; row = rows (span_in noted c) } ∷ []) []

unfoldable pub marks_noted : (Interval → ℕ) → List ℕ → ℕ → List Square
marks_noted rows noted w = gather (marked_in rows noted) (up_to w)

-- the marks ss put behind the n marks written: their number, and the room's bytes
pub record MarksAdded (ss : List Square) (m : List ℕ) (n r : ℕ) (m' : List ℕ) : Type 0 where
  pub count : r ≡ n + length ss
  pub room : m' ≡ written m (n * mark_record) (gather mark_bytes ss)
  pub as_long : length m' ≡ length m

-- marks written: their number, and what the room that held m holds after it
pub record MarksDone (ss : List Square) (m : List ℕ) (count : ℕ) (m' : List ℕ) : Type 0 where
  pub counted : count ≡ length ss
  pub room : m' ≡ marks_written ss m

-- an answer that refuses, as an outcome
abbrev pub outcome_of : Answer → Outcome
outcome_of r = record { answer = r.number; place_x = r.x; place_y = r.y; flashes = 0; marks = 0; copper = 0; flashed = 0 }

-- the two outcomes of the work
abbrev pub short_of : ℕ → Outcome
short_of n = record { answer = allowance_short; place_x = 0; place_y = 0; flashes = 0; marks = n; copper = 0; flashed = 0 }

abbrev pub covered_of : ℕ → Flashed → ℕ → Outcome
covered_of copper done n = record { answer = 0; place_x = 0; place_y = 0; flashes = done.count; marks = n; copper = copper; flashed = done.area }

-- the first part of the chain of checks: those that need no look at the raster's bytes, of width w, height h, allowance k and the lengths of raster, flash room
-- and mark room; crate columns has those of the bytes
abbrev pub size_checks : ℕ → ℕ → ℕ → ℕ → ℕ → ℕ → List Answer
size_checks w h k n f m =
    check (size_fits w h) size_out
    ∷ check (length_fits w h n) raster_length
    ∷ check (leb flash_room_size f) flash_room_short
    ∷ check (leb mark_room_size m) mark_room_short
    ∷ check (leb k allowance_limit) allowance_out
    ∷ []
