-- For inner functions alone: lines read part by part, and what the code has of them. Reading.antt names none of it.
use Rattle.std.specs.Prelude.{◌≡◌, Option, Some, None, Result, Ok, Err, Bool, cond, ◌&&◌, List, [], ◌++◌, ℕ, ◌+◌, ◌-◌, ◌*◌, ◌^◌, ◌≤◌, ◌<◌, ℤ, length, take}
use Rattle.std.proofs.Math.Option as Math
use Rattle.std.proofs.Math.Option.{none, some}
use Rattle.lists.specs.Lists.{first, gather, from, up_to}
use Rattle.grid.specs.Limits.{side, lines, flash_record}
use Rattle.grid.specs.Answers.{answer_of}
use Rattle.grid.specs.Lines.{column, row}
use Rattle.grid.specs.Squares.{Rectangle}
use Rattle.grid.specs.declared.answers.Refusal.{Refusal}
use Rattle.text.specs.Decimal.{decimal}
use Rattle.text.specs.Signed.{signed}
use Rattle.text.specs.Words.{stands, found}
use Rattle.cover.specs.Records.{flash_bytes}
use Rattle.cover.specs.declared.flashes.Flash.{Flash}
use Rattle.gerber.specs.File.{bytes, first_number, millimetres, centre, coordinate_in_range, changes, select_line}
use Rattle.gerber.specs.declared.sizes.Size.{Size}
use Rattle.gerber.specs.Reading.{Read, not_ruled, flashes_read, Turned, flash, over, bad, may_select, heads, read_head, read_refused, read_gives}
use Rattle.gerber.specs.declared.turns.BadLine.{BadLine}
use Rattle.gerber.specs.declared.turns.Reached.{Reached}

-- the size of the flash before, if there was one
abbrev pub before_of : Option Size → Math.Option Size
before_of None = none
before_of (Some s) = some s

-- the line that selects, at a change of size
abbrev pub selects_at : Option Size → Size → ℕ → List ℕ
selects_at before s place = cond (changes (before_of before) s) (select_line place) []

-- what was found, and the spot past it
abbrev pub found_of : {A : Type 0} → Math.Option A → (A → ℕ) → Option (A × ℕ)
found_of none past = None
found_of (some n) past = Some (n, past n)

-- what is found by the first of the numbers that pass a test, where looking for one number gives the spot past it, or nothing where it fails the test
abbrev pub FirstFound : (ℕ → Option ℕ → Type 0) → ℕ → ℕ → Option (ℕ × ℕ) → Type 0
FirstFound Gives start end r = (test : ℕ → Bool) (past : ℕ → ℕ) → ((n : ℕ) (o : Option ℕ) → start ≤ n → n < end → Gives n o → o ≡ found (test n) (past n))
    → r ≡ found_of (first test (from start (end - start))) past

-- a length of n squares at the spot, and what closes it
abbrev pub side_at : List ℕ → ℕ → ℕ → List ℕ → ℕ → Bool
side_at text spot pitch close n = stands text spot (millimetres (n * pitch) ++ close)

unfoldable pub found_side : List ℕ → ℕ → ℕ → List ℕ → Option (ℕ × ℕ)
found_side text spot pitch close = found_of (first (side_at text spot pitch close) (from 1 side)) (λ n. spot + length (millimetres (n * pitch) ++ close))

-- a coordinate at the spot, and what closes it
abbrev pub square_at : List ℕ → ℕ → ℤ → List ℕ → Bool
square_at text spot z close = coordinate_in_range z && stands text spot (signed z ++ close)

unfoldable pub found_square : List ℕ → ℕ → ℕ → ℤ → ℕ → List ℕ → Option (ℕ × ℕ)
found_square text spot pitch o size close =
    found_of
    (first (λ a. square_at text spot (centre pitch o a (a + size - 1)) close) (up_to (lines - size)))
    (λ a. spot + length (signed (centre pitch o a (a + size - 1)) ++ close))

-- a select's number at the spot, of an aperture that may be selected, and the end of its line
abbrev pub number_line : ℕ → List ℕ
number_line k = decimal (first_number + k) ++ bytes "*\n"

abbrev pub number_stands : List ℕ → ℕ → Reached → ℕ → Bool
number_stands text spot s k = may_select s k && stands text spot (number_line k)

unfoldable pub found_select : List ℕ → ℕ → ℕ → Reached → Option (ℕ × ℕ)
found_select text spot count s = found_of (first (number_stands text spot s) (up_to count)) (λ k. spot + length (number_line k))

-- what the lines before have said fits a file of so many apertures
pub record Sound (count : ℕ) (s : Reached) : Type 0 where
  pub line : s.line < 2 ^ 32
  pub used : s.used ≤ count
  pub current : (k : ℕ) → s.current ≡ Some k → k < count

-- a rectangle as a flash of the code
abbrev pub flash_is : Rectangle → Flash
flash_is q = record { first = column q.first; last = column q.last; bottom = row q.bottom; top = row q.top }

-- the flash that was found, and the spot past it
abbrev pub flash_found : Math.Option Rectangle → (Rectangle → ℕ) → Option (Flash × ℕ)
flash_found none past = None
flash_found (some q) past = Some (flash_is q, past q)

abbrev pub bad_line : ℕ → BadLine
bad_line line = record { 0 = line }

abbrev pub turn_of : Turned → Result (Option (Flash × Reached)) BadLine
turn_of (flash q s) = Ok (Some (flash_is q, s))
turn_of over = Ok None
turn_of (bad line) = Err (bad_line line)

-- the spot past the head, or its first line that is not as ruled
abbrev pub on_head : Result ℕ BadLine → (ℕ → Read) → Read
on_head (Ok spot) next = next spot
on_head (Err line) next = not_ruled line.0

abbrev pub HeadRead : List ℕ → Result ℕ BadLine → Type 0
HeadRead text r = (next : ℕ → Read) → read_head text 1 (heads text) 0 next ≡ on_head r next

-- flashes read into a room of one's own
abbrev pub ReadInto : Read → Result ℕ BadLine → List ℕ → Type 0
ReadInto (not_ruled line) r room = r ≡ Err (bad_line line)
ReadInto (flashes_read qs) r room = (r ≡ Ok (length qs)) × (length qs ≤ side) × (take (length qs * flash_record) room ≡ gather flash_bytes qs)

-- what the flash room holds after flashes were read into it, or after a refusal
abbrev pub ReadChecked : ℕ → ℕ → ℤ → ℤ → List ℕ → List ℕ → Result ℕ Refusal → List ℕ → Type 0
ReadChecked version pitch x y text f (Ok n) f' = record { outcome = record { answer = 0; place_x = 0; place_y = 0; flashes = n }; flashes_after = f' } ≡ read_gives version pitch x y text f
ReadChecked version pitch x y text f (Err r) f' = record { outcome = (read_refused (answer_of r) []).outcome; flashes_after = f' } ≡ read_gives version pitch x y text f
