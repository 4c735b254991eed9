-- Numbers in decimal: the digits of a number, and the number that stands in a text at a spot.
-- "Numbers are decimal, .. no leading zero, no sign."
use Rattle.std.specs.Prelude.{Bool, true, false, cond, not, ◌&&◌, List, [], ◌∷◌, ◌++◌, ℕ, zero, suc, ◌+◌, ◌-◌, ◌*◌, ◌/◌, ◌%◌, leb, ltb, eqb, length, drop, Option, Some, None}
use Rattle.std.specs.Option.{option_and_then}
use Rattle.text.specs.Words.{tab, word_at}

-- the byte of a digit, 0 to 9
abbrev pub digit : ℕ → ℕ
digit d = 48 + d

abbrev pub is_digit_byte : ℕ → Bool
is_digit_byte b = leb (digit 0) b && leb b (digit 9)

-- the digits of n: those of n / 10, and then the last; `deep` bounds how many
unfoldable pub digits : ℕ → ℕ → List ℕ
digits zero n = []
digits (suc deep) n = elim (ltb n 10) [ true ↦ digit n ∷ [] | false ↦ digits deep (n / 10) ++ (digit (n % 10) ∷ []) ]

-- a number has fewer digits than n + 2
unfoldable pub decimal : ℕ → List ℕ
decimal n = digits (suc n) n

-- the last digits of n, as many as count, a zero for each that n has not
unfoldable pub last_digits : ℕ → ℕ → List ℕ
last_digits zero n = []
last_digits (suc count) n = last_digits count (n / 10) ++ (digit (n % 10) ∷ [])

-- the digits at the front of a text, as many as there are
unfoldable pub run : List ℕ → List ℕ
run [] = []
run (b ∷ text) = cond (is_digit_byte b) (b ∷ run text) []

-- the number that the digits say when they follow the digits of v
unfoldable pub value : ℕ → List ℕ → ℕ
value v [] = v
value v (b ∷ ds) = value (v * 10 + (b - digit 0)) ds

-- "no leading zero": a digit alone, or a first one that is not 0
abbrev pub plain : List ℕ → Bool
plain [] = false
plain (b ∷ []) = true
plain (b ∷ c ∷ ds) = not (eqb b (digit 0))

abbrev pub number : Bool → ℕ → ℕ → Option (ℕ × ℕ)
number true v next = Some (v, next)
number false v next = None

-- the digits at the spot, read on from v
unfoldable pub read_on : ℕ → List ℕ → ℕ → ℕ → Option (ℕ × ℕ)
read_on v text spot limit =
    let ds = run (drop spot text) in
    number (leb (value v ds) limit) (value v ds) (spot + length ds)

abbrev pub digits_at : List ℕ → ℕ → ℕ → Option (ℕ × ℕ)
digits_at text spot limit = read_on 0 text spot limit

-- the number at the spot, at most the limit
unfoldable pub number_at : List ℕ → ℕ → ℕ → Option (ℕ × ℕ)
number_at text spot limit =
    let ds = run (drop spot text) in
    number (plain ds && leb (value 0 ds) limit) (value 0 ds) (spot + length ds)

-- "fields are parted by one tab": a tab and a number
abbrev pub field : ℕ → List ℕ
field n = tab ∷ decimal n

unfoldable pub field_at : List ℕ → ℕ → ℕ → Option (ℕ × ℕ)
field_at text spot limit = option_and_then (λ at. number_at text at limit) (word_at text spot (tab ∷ []))
