-- Reading a file back (document 02, R-2 and R-9): "Each line is judged by those before it". The line numbers, the flashes, and the whole outcome of a call.
-- A line is as ruled where the text goes on with exactly the bytes of a line that may stand there, its line feed with them. So a line has one definition, in File.
-- Throughout, pitch is the grid's pitch, x and y are the origin, text is the file, and f is what the lent flash room holds before the call.
use Rattle.std.specs.Prelude.{◌≡◌, Option as Maybe, Some, None, Bool, false, not, cond, ◌&&◌, List, [], ◌∷◌, ◌++◌, map, ℕ, zero, suc, ◌+◌, ◌-◌, max, leb, eqb, ℤ, length, get_or}
use Rattle.std.proofs.Math.Option.{Option, none, some}
use Rattle.lists.specs.Lists.{any, first, gather, from, up_to}
use Rattle.grid.specs.Limits.{side, flash_room_size}
use Rattle.grid.specs.Answers.{answer, done, check, first_refusal, flash_room_short, bad_file_line}
use Rattle.grid.specs.Squares.{Rectangle}
use Rattle.grid.specs.declared.answers.Answer.{Answer}
use Rattle.text.specs.Words.{stands}
use Rattle.cover.specs.Records.{flashes_written}
use Rattle.gerber.specs.File.{attribute_line, comment_line, format_line, unit_line, is_same_size, aperture_line, select_line, centre_line, centre_fits, end_line, format_checks}
use Rattle.gerber.specs.declared.sizes.Size.{Size}
use Rattle.gerber.specs.declared.turns.Reached.{Reached}
use Rattle.gerber.specs.declared.read.ReadOutcome.{ReadOutcome}

-- "file line not as ruled, with its line"; or the flashes of a file that is as ruled
pub data Read : Type 0 where
  not_ruled : ℕ → Read
  flashes_read : List Rectangle → Read

-- the lines of the head; "each file reads back under either version" (R-9): the first is that of either
unfoldable pub first_of : List ℕ → List ℕ
first_of text = cond (stands text 0 comment_line) comment_line attribute_line

abbrev pub heads : List ℕ → List (List ℕ)
heads text = first_of text ∷ format_line ∷ unit_line ∷ []

abbrev pub head_count : ℕ
head_count = 3

-- the n-th line and those after it, from a spot on, and what follows them there
unfoldable pub read_head : List ℕ → ℕ → List (List ℕ) → ℕ → (ℕ → Read) → Read
read_head text n [] spot next = next spot
read_head text n (l ∷ ls) spot next = cond (stands text spot l) (read_head text (suc n) ls (spot + length l) next) (not_ruled n)

-- the sizes within the grid
abbrev pub grid_sizes : List Size
grid_sizes = gather (λ w. map (λ h. record { wide = w; high = h }) (from 1 side)) (from 1 side)

-- the size of the aperture line at the spot, which follows those of the other sizes: a size within the grid that is not among them, with the next number
unfoldable pub aperture_at : ℕ → List ℕ → List Size → ℕ → Option Size
aperture_at pitch text sizes spot = first (λ z. stands text spot (aperture_line pitch (length sizes) z) && not (any (is_same_size z) sizes)) grid_sizes

-- the apertures: their sizes, and the spot past their lines. A 65th line is none of them, and so not as ruled where it stands.
pub record Apertures : Type 0 where
  pub sizes : List Size
  pub past : ℕ

abbrev pub one_more : ℕ → Apertures → Size → Apertures
one_more pitch a z = record { sizes = a.sizes ++ (z ∷ []); past = a.past + length (aperture_line pitch (length a.sizes) z) }

abbrev pub on_aperture : ℕ → Apertures → Option Size → (Apertures → Apertures) → Apertures
on_aperture pitch a none next = a
on_aperture pitch a (some z) next = next (one_more pitch a z)

unfoldable pub read_apertures : ℕ → ℕ → List ℕ → Apertures → Apertures
read_apertures zero pitch text a = a
read_apertures (suc left) pitch text a = on_aperture pitch a (aperture_at pitch text a.sizes a.past) (read_apertures left pitch text)

-- Past the apertures, s is what the lines before have said: the number and the spot of the line that comes next, how many apertures have been used so far, and
-- the current one, where one is.
abbrev pub is_this : Maybe ℕ → ℕ → Bool
is_this None k = false
is_this (Some j) k = eqb j k

abbrev pub is_current : Reached → ℕ → Bool
is_current s k = is_this s.current k

-- a defined aperture, "in order of first use", and not the current one
abbrev pub may_select : Reached → ℕ → Bool
may_select s k = leb k s.used && not (is_current s k)

unfoldable pub select_at : List ℕ → ℕ → Reached → Option ℕ
select_at text count s = first (λ k. stands text s.at (select_line k) && may_select s k) (up_to count)

abbrev pub selected : Reached → ℕ → Reached
selected s k = record { line = s.line + 1; at = s.at + length (select_line k); used = max s.used (k + 1); current = Some k }

-- where on the grid a flash of a size may lie
abbrev pub placed : Size → ℕ → ℕ → Rectangle
placed z c r = record { first = c; last = c + z.wide - 1; bottom = r; top = r + z.high - 1 }

abbrev pub placements : Size → List Rectangle
placements z = gather (λ c. map (placed z c) (up_to (suc side - z.high))) (up_to (suc side - z.wide))

abbrev pub size_at : List Size → ℕ → Size
size_at sizes k = get_or sizes k (record { wide = 0; high = 0 })

-- the flash of a size at the spot, whose coordinates have at most ten digits; and that of the current aperture, where one is
unfoldable pub placed_at : ℕ → ℤ → ℤ → List ℕ → Size → ℕ → Option Rectangle
placed_at pitch x y text z spot = first (λ q. stands text spot (centre_line pitch x y q) && centre_fits pitch x y q) (placements z)

abbrev pub on_current : Maybe ℕ → (ℕ → Option Rectangle) → Option Rectangle
on_current None next = none
on_current (Some k) next = next k

unfoldable pub flash_at : ℕ → ℤ → ℤ → List ℕ → List Size → Reached → Option Rectangle
flash_at pitch x y text sizes s = on_current s.current (λ k. placed_at pitch x y text (size_at sizes k) s.at)

abbrev pub flashed : ℕ → ℤ → ℤ → Reached → Rectangle → Reached
flashed pitch x y s q = record { line = s.line + 1; at = s.at + length (centre_line pitch x y q); used = s.used; current = s.current }

-- a turn: a flash, with a select before it or not; or the end; or a line that is not as ruled
pub data Turned : Type 0 where
  flash : Rectangle → Reached → Turned
  over : Turned
  bad : ℕ → Turned

abbrev pub flash_turn : ℕ → ℤ → ℤ → Reached → Option Rectangle → Turned
flash_turn pitch x y s none = bad s.line
flash_turn pitch x y s (some q) = flash q (flashed pitch x y s q)

-- "one unused at `M02*`"; text past `M02*` stands in a line of its own
abbrev pub end_turn : List ℕ → ℕ → Reached → Turned
end_turn text count s =
    cond (eqb s.used count)
    (cond (eqb (s.at + length end_line) (length text)) over (bad (s.line + 1)))
    (bad s.line)

-- past a select only a flash may stand
abbrev pub after_select : ℕ → ℤ → ℤ → List ℕ → List Size → Reached → Option ℕ → Turned
after_select pitch x y text sizes s (some k) = flash_turn pitch x y (selected s k) (flash_at pitch x y text sizes (selected s k))
after_select pitch x y text sizes s none =
    cond (stands text s.at end_line)
    (end_turn text (length sizes) s)
    (flash_turn pitch x y s (flash_at pitch x y text sizes s))

unfoldable pub turned : ℕ → ℤ → ℤ → List ℕ → List Size → Reached → Turned
turned pitch x y text sizes s = after_select pitch x y text sizes s (select_at text (length sizes) s)

abbrev pub on_turn : Turned → List Rectangle → (Rectangle → Reached → Read) → Read
on_turn (flash q s) qs next = next q s
on_turn over qs next = flashes_read qs
on_turn (bad line) qs next = not_ruled line

-- the flashes behind qs, as many as are left to come; one "past the 64th" is not as ruled, at its own line
unfoldable pub read_flashes : ℕ → ℕ → ℤ → ℤ → List ℕ → List Size → List Rectangle → Reached → Read
read_flashes zero pitch x y text sizes qs s = on_turn (turned pitch x y text sizes s) qs (λ q s'. not_ruled (s'.line - 1))
read_flashes (suc left) pitch x y text sizes qs s =
    on_turn (turned pitch x y text sizes s) qs (λ q s'. read_flashes left pitch x y text sizes (qs ++ (q ∷ [])) s')

-- the head, the apertures, the flashes
abbrev pub past_apertures : Apertures → Reached
past_apertures a = record { line = head_count + length a.sizes + 1; at = a.past; used = 0; current = None }

abbrev pub read_body : ℕ → ℤ → ℤ → List ℕ → ℕ → Read
read_body pitch x y text spot =
    let a = read_apertures side pitch text (record { sizes = []; past = spot }) in
    read_flashes side pitch x y text a.sizes [] (past_apertures a)

unfoldable pub read_file : ℕ → ℤ → ℤ → List ℕ → Read
read_file pitch x y text = read_head text 1 (heads text) 0 (read_body pitch x y text)

-- what a call gives: its outcome, and what the flash room holds after it
pub record Given : Type 0 where
  pub outcome : ReadOutcome
  pub flashes_after : List ℕ

-- "Reading back: 3, 13, then 30 file line not as ruled, with its line"; under R-9 with 21 before 13
abbrev pub line_check : Read → Answer
line_check (not_ruled line) = answer bad_file_line line 0
line_check (flashes_read qs) = done

abbrev pub read_checks : ℕ → ℕ → List ℕ → Read → List Answer
read_checks version pitch f r = check (leb flash_room_size (length f)) flash_room_short ∷ (format_checks version pitch ++ (line_check r ∷ []))

-- a refusal without a change, or the flashes in the lent room
abbrev pub read_refused : Answer → List ℕ → Given
read_refused a f = record { outcome = record { answer = a.number; place_x = a.x; place_y = a.y; flashes = 0 }; flashes_after = f }

abbrev pub all_read : List Rectangle → List ℕ → Given
all_read qs f = record { outcome = record { answer = 0; place_x = 0; place_y = 0; flashes = length qs }; flashes_after = flashes_written qs f }

abbrev pub flashes_of : Read → List Rectangle
flashes_of (not_ruled line) = []
flashes_of (flashes_read qs) = qs

unfoldable pub or_flashes : Answer → Read → List ℕ → Given
or_flashes a r f = cond (eqb a.number 0) (all_read (flashes_of r) f) (read_refused a f)

unfoldable pub read_gives : ℕ → ℕ → ℤ → ℤ → List ℕ → List ℕ → Given
read_gives version pitch x y text f = let r = read_file pitch x y text in or_flashes (first_refusal (read_checks version pitch f r)) r f

-- the contract of `keekaboor_read_gerber`: outcome r, and a flash room that holds f' afterwards, are what the call gives
abbrev pub ReadsGerber : ℕ → ℕ → ℤ → ℤ → List ℕ → List ℕ → ReadOutcome → List ℕ → Type 0
ReadsGerber version pitch x y text f r f' = record { outcome = r; flashes_after = f' } ≡ read_gives version pitch x y text f
