-- The Gerber file of a list of flashes (document 02, R-2), byte by byte. Lengths are in nanometres: "format 4.6, so one unit is a nanometre".
-- Throughout, pitch is the grid's pitch, and x and y are the origin: the bottom left corner of square (0, 0).
use Rattle.std.specs.Prelude.{Bool, true, not, cond, ◌&&◌, ◌||◌, List, [], ◌∷◌, ◌++◌, ℕ, suc, ◌+◌, ◌-◌, ◌*◌, ◌/◌, ◌%◌, ◌^◌, leb, ltb, eqb, ℤ, pos, nat_abs, ◌+ℤ◌}
use Rattle.std.proofs.Math.Option.{Option, none, some}
use Prim.Native.String.{String, [] as empty, ◌∷◌ as ◌then◌}
use Prim.Native.Char.{code}
use Rattle.lists.specs.Lists.{any, all}
use Rattle.grid.specs.Answers.{check, version_unknown, pitch_out}
use Rattle.grid.specs.Squares.{Rectangle}
use Rattle.grid.specs.declared.answers.Answer.{Answer}
use Rattle.text.specs.Decimal.{decimal, last_digits}
use Rattle.text.specs.Signed.{signed}
use Rattle.gerber.specs.declared.sizes.Size.{Size}

-- a word's characters as bytes
abbrev pub bytes : String → List ℕ
bytes empty = []
bytes (c then word) = code c ∷ bytes word

-- the size of a flash, in squares
abbrev pub size_of : Rectangle → Size
size_of q = record { wide = suc (q.last - q.first); high = suc (q.top - q.bottom) }

abbrev pub is_same_size : Size → Size → Bool
is_same_size s t = eqb s.wide t.wide && eqb s.high t.high

-- "one rectangular aperture per distinct flash size, .. in order of first use": a size goes behind the others, unless it is one of them
unfoldable pub added : List Size → Size → List Size
added sizes s = cond (any (is_same_size s) sizes) sizes (sizes ++ (s ∷ []))

unfoldable pub used : List Size → List Rectangle → List Size
used sizes [] = sizes
used sizes (q ∷ qs) = used (added sizes (size_of q)) qs

abbrev pub apertures : List Rectangle → List Size
apertures qs = used [] qs

-- how many apertures stand before that of a size; "numbered from D10"
unfoldable pub place_of : Size → List Size → ℕ
place_of s [] = 0
place_of s (t ∷ sizes) = cond (is_same_size s t) 0 (suc (place_of s sizes))

abbrev pub first_number : ℕ
first_number = 10

-- "millimetres", `3.000000`; "a size under 1 begins `0.`"
unfoldable pub millimetres : ℕ → List ℕ
millimetres n = decimal (n / 10 ^ 6) ++ (bytes "." ++ last_digits 6 n)

-- "An aperture is written `%ADD10R,3.000000X1.000000*%`"
unfoldable pub aperture_line : ℕ → ℕ → Size → List ℕ
aperture_line pitch k s =
    bytes "%ADD" ++ (decimal (first_number + k) ++ (bytes "R," ++ (millimetres (s.wide * pitch) ++ (bytes "X" ++ (millimetres (s.high * pitch) ++ bytes "*%\n")))))

-- "`D10*` selects it"
unfoldable pub select_line : ℕ → List ℕ
select_line k = bytes "D" ++ (decimal (first_number + k) ++ bytes "*\n")

-- "a flash is `X1500000Y1500000D03*`, without leading zeros or plus signs"
unfoldable pub flash_line : ℤ → ℤ → List ℕ
flash_line x y = bytes "X" ++ (signed x ++ (bytes "Y" ++ (signed y ++ bytes "D03*\n")))

-- "at the centre of its rectangle": along one axis, from the near edge of square a to the far edge of square b, with the origin at o; the pitch is even
unfoldable pub centre : ℕ → ℤ → ℕ → ℕ → ℤ
centre pitch o a b = o +ℤ pos (pitch / 2 * (a + suc b))

abbrev pub centre_line : ℕ → ℤ → ℤ → Rectangle → List ℕ
centre_line pitch x y q = flash_line (centre pitch x q.first q.last) (centre pitch y q.bottom q.top)

-- "before the first flash and at each change": the size before, if there was a flash
abbrev pub changes : Option Size → Size → Bool
changes none s = true
changes (some t) s = not (is_same_size t s)

-- "%TF.FileFunction,Copper,L1,Top*%, %FSLAX46Y46*%, %MOMM*%"
abbrev pub attribute_line : List ℕ
attribute_line = bytes "%TF.FileFunction,Copper,L1,Top*%\n"

-- "the attributes go into G04 comments" (R-9)
abbrev pub comment_line : List ℕ
comment_line = bytes "G04 #@! TF.FileFunction,Copper,L1,Top*\n"

-- "The caller names the version" (R-9): 1 for the machine that stops at X2 attribute commands, 2 for the other
abbrev pub version_known : ℕ → Bool
version_known version = eqb version 1 || eqb version 2

unfoldable pub first_line : ℕ → List ℕ
first_line version = cond (eqb version 1) comment_line attribute_line

abbrev pub format_line : List ℕ
format_line = bytes "%FSLAX46Y46*%\n"

abbrev pub unit_line : List ℕ
unit_line = bytes "%MOMM*%\n"

abbrev pub head_lines : ℕ → List ℕ
head_lines version = first_line version ++ (format_line ++ unit_line)

-- "the apertures", from the k-th on
unfoldable pub aperture_lines : ℕ → ℕ → List Size → List ℕ
aperture_lines pitch k [] = []
aperture_lines pitch k (s ∷ sizes) = aperture_line pitch k s ++ aperture_lines pitch (suc k) sizes

-- "the flashes in list order"
abbrev pub selects : List Size → Option Size → Size → List ℕ
selects sizes before s = cond (changes before s) (select_line (place_of s sizes)) []

unfoldable pub flash_lines : ℕ → ℤ → ℤ → List Size → Option Size → List Rectangle → List ℕ
flash_lines pitch x y sizes before [] = []
flash_lines pitch x y sizes before (q ∷ qs) =
    selects sizes before (size_of q) ++ (centre_line pitch x y q ++ flash_lines pitch x y sizes (some (size_of q)) qs)

abbrev pub end_line : List ℕ
end_line = bytes "M02*\n"

-- "The lines .. are [the head], the apertures, the flashes in list order, `M02*`."
unfoldable pub gerber_file : ℕ → ℕ → ℤ → ℤ → List Rectangle → List ℕ
gerber_file version pitch x y qs =
    head_lines version ++ (aperture_lines pitch 0 (apertures qs) ++ (flash_lines pitch x y (apertures qs) none qs ++ end_line))

-- "The grid pitch is an even number of nanometres, 2 to 1,000,000."
abbrev pub pitch_in_range : ℕ → Bool
pitch_in_range pitch = leb 2 pitch && leb pitch 1000000

abbrev pub pitch_fits : ℕ → Bool
pitch_fits pitch = pitch_in_range pitch && eqb (pitch % 2) 0

-- "21 unknown version, checked before 13"
abbrev pub format_checks : ℕ → ℕ → List Answer
format_checks version pitch = check (version_known version) version_unknown ∷ check (pitch_fits pitch) pitch_out ∷ []

-- "a centre coordinate of more than ten digits"
abbrev pub coordinate_in_range : ℤ → Bool
coordinate_in_range z = ltb (nat_abs z) (10 ^ 10)

abbrev pub centre_fits : ℕ → ℤ → ℤ → Rectangle → Bool
centre_fits pitch x y q = coordinate_in_range (centre pitch x q.first q.last) && coordinate_in_range (centre pitch y q.bottom q.top)

abbrev pub centres_fit : ℕ → ℤ → ℤ → List Rectangle → Bool
centres_fit pitch x y qs = all (centre_fits pitch x y) qs
