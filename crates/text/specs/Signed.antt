-- Signed numbers in decimal: the digits of a number, with a minus before those of a number below 0; no plus, no leading zero, no minus before 0.
use Rattle.std.specs.Prelude.{Bool, cond, List, [], ◌∷◌, ℕ, zero, suc, ◌+◌, ◌^◌, ltb, ℤ, pos, negsuc, Option, Some, None}
use Rattle.text.specs.Words.{stands}
use Rattle.text.specs.Decimal.{decimal, number_at}

abbrev pub minus : ℕ
minus = 45

-- `pos n` is n, `negsuc n` is -(n + 1)
unfoldable pub signed : ℤ → List ℕ
signed (pos n) = decimal n
signed (negsuc n) = minus ∷ decimal (suc n)

-- a number of 64 bits with a sign: -2^63 to 2^63 - 1
abbrev pub in_range : ℤ → Bool
in_range (pos n) = ltb n (2 ^ 63)
in_range (negsuc n) = ltb n (2 ^ 63)

abbrev pub integer : ℤ → ℕ → Option (ℤ × ℕ)
integer z next = cond (in_range z) (Some (z, next)) None

-- a number as one that is not below 0; and as one below 0, which 0 is not
abbrev pub upward : Option (ℕ × ℕ) → Option (ℤ × ℕ)
upward (Some (n, next)) = integer (pos n) next
upward None = None

abbrev pub downward : Option (ℕ × ℕ) → Option (ℤ × ℕ)
downward (Some (zero, next)) = None
downward (Some (suc n, next)) = integer (negsuc n) next
downward None = None

-- the signed number at the spot, at most the limit away from 0
unfoldable pub signed_at : List ℕ → ℕ → ℕ → Option (ℤ × ℕ)
signed_at text spot limit = cond (stands text spot (minus ∷ [])) (downward (number_at text (spot + 1) limit)) (upward (number_at text spot limit))
