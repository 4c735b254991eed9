-- The one text of a job (document 01, 'Job text'). A raster is a list of bytes, row 0 first.
use Rattle.std.specs.Prelude.{◌≡◌, true, List, [], ◌∷◌, ◌++◌, map, ℕ, zero, suc, ◌+◌, ◌*◌, ◌≤◌, leb, length, take, drop}
use Rattle.lists.specs.Lists.{all, gather, down}
use Rattle.grid.specs.Limits.{side, allowance_limit}
use Rattle.text.specs.Words.{tab, feed, glyph}
use Rattle.text.specs.Decimal.{field}
use Rattle.text.specs.Line.{line, field_room}

-- "Numbers are decimal, 0 to 9999"
abbrev pub number_limit : ℕ
number_limit = 9999

-- `shape` and `row`
abbrev pub shape_word : List ℕ
shape_word = 115 ∷ 104 ∷ 97 ∷ 112 ∷ 101 ∷ []

abbrev pub row_word : List ℕ
row_word = 114 ∷ 111 ∷ 119 ∷ []

-- "Line 1: `shape`, width, height, allowance."
abbrev pub shape_line : ℕ → ℕ → ℕ → List ℕ
shape_line w h k = line shape_word (w ∷ h ∷ k ∷ [])

-- "`row`, row number, and width characters, `#` copper and `.` none"
unfoldable pub row_head : ℕ → List ℕ
row_head r = row_word ++ (field r ++ (tab ∷ []))

unfoldable pub row_line : ℕ → List ℕ → List ℕ
row_line r squares = row_head r ++ (map glyph squares ++ (feed ∷ []))

-- row r of a raster of width w
abbrev pub row_of : ℕ → List ℕ → ℕ → List ℕ
row_of w raster r = take w (drop (r * w) raster)

-- "Then one line for each row from the top row down"
unfoldable pub row_lines : ℕ → List ℕ → ℕ → List ℕ
row_lines w raster h = gather (λ r. row_line r (row_of w raster r)) (down h)

unfoldable pub job_text : ℕ → ℕ → ℕ → List ℕ → List ℕ
job_text w h k raster = shape_line w h k ++ row_lines w raster h

-- a job within the limits; a broken column is no fault here
pub record IsJob (w h k : ℕ) (raster : List ℕ) : Type 0 where
  pub wide : 1 ≤ w
  pub narrow : w ≤ side
  pub tall : 1 ≤ h
  pub low : h ≤ side
  pub allowed : k ≤ allowance_limit
  pub full : length raster ≡ w * h
  pub squares : all (λ b. leb b 1) raster ≡ true

-- the length of a job's text, by its numbers alone: line 1, and the lines of rows h - 1 to 0 with their squares
unfoldable pub rows_length : ℕ → ℕ → ℕ
rows_length w zero = 0
rows_length w (suc r) = length row_word + field_room r + 1 + w + 1 + rows_length w r

unfoldable pub text_length : ℕ → ℕ → ℕ → ℕ
text_length w h k = length shape_word + field_room w + field_room h + field_room k + 1 + rows_length w h

-- the longest job: its width, height and allowance are the limits
abbrev pub text_room : ℕ
text_room = text_length side side allowance_limit
