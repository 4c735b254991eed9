-- A line of text: a word and its numbers. Every kind of line that is a word and numbers is said by these two, printed and read.
use Rattle.std.specs.Prelude.{◌≡◌, Bool, ◌&&◌, List, [], ◌∷◌, ◌++◌, ℕ, zero, suc, ◌+◌, leb, length, drop, replicate, Option, Some, None}
use Rattle.lists.specs.Lists.{all, gather, up_to}
use Rattle.grid.specs.Rooms.{record_in}
use Rattle.text.specs.Words.{feed, stands, found}
use Rattle.text.specs.Decimal.{decimal, run, value, field}

-- "Lines end with one line feed; fields are parted by one tab."
abbrev pub fields : List ℕ → List ℕ
fields numbers = gather field numbers ++ (feed ∷ [])

unfoldable pub line : List ℕ → List ℕ → List ℕ
line word numbers = word ++ fields numbers

-- a line for each of as many records as count, in the order of the room
unfoldable pub record_lines : List ℕ → ℕ → ℕ → List ℕ → List ℕ
record_lines word size count records = gather (λ k. line word (record_in size records k)) (up_to count)

-- the longest field of a number up to most
abbrev pub field_room : ℕ → ℕ
field_room most = 1 + length (decimal most)

-- The numbers that n fields from a spot on can only mean: what the digits behind the tab at the spot say, and then those past these digits.
unfoldable pub numbers_from : List ℕ → ℕ → ℕ → List ℕ
numbers_from text spot zero = []
numbers_from text spot (suc n) =
    let digits = run (drop (spot + 1) text) in
    value 0 digits ∷ numbers_from text (spot + 1 + length digits) n

abbrev pub within : ℕ → List ℕ → Bool
within limit numbers = all (λ v. leb v limit) numbers

-- A line is as ruled where the text goes on with exactly the bytes of that line, and its numbers are at most the limit.
abbrev pub line_numbers : List ℕ → ℕ → List ℕ → ℕ → List ℕ
line_numbers text spot word n = numbers_from text (spot + length word) n

unfoldable pub line_at : List ℕ → ℕ → List ℕ → ℕ → ℕ → Option ℕ
line_at text spot word limit n =
    let numbers = line_numbers text spot word n in
    found (within limit numbers && stands text spot (line word numbers)) (spot + length (line word numbers))

abbrev pub zeros : ℕ → List ℕ
zeros n = replicate n 0

-- what is left where as many numbers were lent as the line has: its numbers, or 0 for each where no such line stands there
abbrev pub numbers_left : Option ℕ → List ℕ → List ℕ
numbers_left (Some next) numbers = numbers
numbers_left None numbers = zeros (length numbers)

-- what `read_line` answers, and leaves
pub record ReadLine (text : List ℕ) (spot : ℕ) (word : List ℕ) (limit : ℕ) (numbers : List ℕ) (next : Option ℕ) (after : List ℕ) : Type 0 where
  pub past : next ≡ line_at text spot word limit (length numbers)
  pub left : after ≡ numbers_left (line_at text spot word limit (length numbers)) (line_numbers text spot word (length numbers))
