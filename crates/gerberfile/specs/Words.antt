-- The numbers that a call of the Gerber program names: the version and the pitch, 0 to 2^64 - 1, and the origin, two numbers of -2^63 to 2^63 - 1.
use Rattle.std.specs.Prelude.{cond, List, ℕ, ◌-◌, ◌^◌, eqb, ℤ, length, Option, Some, None, Result, Ok, Err}
use Rattle.text.specs.Decimal.{number_at}
use Rattle.text.specs.Signed.{signed_at}
use Rattle.gerberfile.specs.declared.call.Call.{Call}
use Rattle.gerberfile.specs.declared.call.WrongWord.{WrongWord}
use Rattle.gerberfile.specs.declared.call.WrongWord.TheVariants.{Version, Pitch, X, Y}

abbrev pub greatest : ℕ
greatest = 2 ^ 64 - 1

-- a number is a word from end to end: "decimal, .. no leading zero", with a minus or without a sign
abbrev pub ended : {T : Type 0} → List ℕ → Option (T × ℕ) → Option T
ended word (Some (n, next)) = cond (eqb next (length word)) (Some n) None
ended word None = None

unfoldable pub whole_number : List ℕ → Option ℕ
whole_number word = ended word (number_at word 0 greatest)

unfoldable pub whole_integer : List ℕ → Option ℤ
whole_integer word = ended word (signed_at word 0 greatest)

-- each word by its place in the call
abbrev pub word_number : WrongWord → ℕ
word_number Version = 2
word_number Pitch = 3
word_number X = 4
word_number Y = 5

-- the first of the words that is no number is wrong
abbrev pub given_or : {T : Type 0} → Option T → WrongWord → (T → Result Call WrongWord) → Result Call WrongWord
given_or (Some n) word later = later n
given_or None word later = Err word

unfoldable pub asked_by : List ℕ → List ℕ → List ℕ → List ℕ → Result Call WrongWord
asked_by version_word pitch_word x_word y_word =
    given_or (whole_number version_word) Version
    (λ v. given_or (whole_number pitch_word) Pitch
    (λ p. given_or (whole_integer x_word) X
    (λ x. given_or (whole_integer y_word) Y
    (λ y. Ok (record { version = v; pitch = p; x = x; y = y })))))
