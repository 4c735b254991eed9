-- For inner functions alone: the fields of a line, read one after the other. `Line` says what a line is.
use Rattle.std.specs.Prelude.{◌≡◌, List, ℕ, zero, suc, length, Option, Some, None}
use Rattle.std.specs.Option.{option_and_then}
use Rattle.text.specs.Decimal.{field_at}
use Rattle.text.specs.Line.{numbers_from, line_numbers, line_at}

unfoldable pub fields_at : List ℕ → ℕ → ℕ → ℕ → Option ℕ
fields_at text spot limit zero = Some spot
fields_at text spot limit (suc n) = option_and_then (λ p. fields_at text p.1 limit n) (field_at text spot limit)

-- where the reading went well, the lent numbers are these
abbrev pub Filled : Option ℕ → List ℕ → List ℕ → Type 0
Filled (Some next) after numbers = after ≡ numbers
Filled None after numbers = Unit

pub record FieldsRead (text : List ℕ) (spot limit : ℕ) (numbers : List ℕ) (next : Option ℕ) (after : List ℕ) : Type 0 where
  pub past : next ≡ fields_at text spot limit (length numbers)
  pub filled : Filled next after (numbers_from text spot (length numbers))

pub record LineTried (text : List ℕ) (spot : ℕ) (word : List ℕ) (limit : ℕ) (numbers : List ℕ) (next : Option ℕ) (after : List ℕ) : Type 0 where
  pub past : next ≡ line_at text spot word limit (length numbers)
  pub filled : Filled next after (line_numbers text spot word (length numbers))
