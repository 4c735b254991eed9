-- A machine word read as its bits: which are on, the word of a set of bits, and one past the place that a search downwards found.
use Rattle.std.specs.Prelude.{◌≡◌, Bool, cond, ℕ, zero, suc, ◌+◌, ◌/◌, ◌%◌, ◌^◌, eqb}
use Rattle.std.proofs.Math.Option.{Option, none, some}

-- how many bits a word has: the machine's number, not a limit of the grid
abbrev pub bits : ℕ
bits = 64

-- bit k of a word is on
unfoldable pub on : ℕ → ℕ → Bool
on w k = eqb (w / 2 ^ k % 2) 1

-- a word's bits are these, every one
abbrev pub Bits : ℕ → (ℕ → Bool) → Type 0
Bits w p = (k : ℕ) → on w k ≡ p k

-- the word whose n lowest bits are these, and no other
unfoldable pub word_to : ℕ → (ℕ → Bool) → ℕ
word_to zero p = 0
word_to (suc n) p = word_to n p + cond (p n) (2 ^ n) 0

-- the word whose bits are these
unfoldable pub word_of : (ℕ → Bool) → ℕ
word_of p = word_to bits p

-- one past the place that was found; 0 where none was
abbrev pub past_of : Option ℕ → ℕ
past_of none = 0
past_of (some k) = suc k
