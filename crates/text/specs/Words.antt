-- What stands in a text at a spot. A text is a list of bytes; a spot counts the bytes before it.
use Rattle.std.specs.Prelude.{Bool, true, false, cond, ◌&&◌, ◌||◌, List, [], ◌∷◌, ℕ, ◌+◌, leb, eqb, length, take, drop, Option, Some, None}
use Rattle.lists.specs.Lists.{all}

-- the bytes with a name; "`#` copper and `.` none"
abbrev pub tab : ℕ
tab = 9

abbrev pub feed : ℕ
feed = 10

abbrev pub copper_glyph : ℕ
copper_glyph = 35

abbrev pub none_glyph : ℕ
none_glyph = 46

-- the text begins with the word
unfoldable pub begins : List ℕ → List ℕ → Bool
begins [] text = true
begins (b ∷ word) [] = false
begins (b ∷ word) (c ∷ text) = eqb b c && begins word text

-- the word stands in the text at the spot
abbrev pub stands : List ℕ → ℕ → List ℕ → Bool
stands text spot word = begins word (drop spot text)

-- the spot past what was found
abbrev pub found : Bool → ℕ → Option ℕ
found true spot = Some spot
found false spot = None

unfoldable pub word_at : List ℕ → ℕ → List ℕ → Option ℕ
word_at text spot word = found (stands text spot word) (spot + length word)

-- the one byte where b is the key, and the other where it is not
abbrev pub chosen : ℕ → ℕ → ℕ → ℕ → ℕ
chosen key hit miss b = cond (eqb b key) hit miss

-- a raster byte as a character, and a character as a raster byte
abbrev pub glyph : ℕ → ℕ
glyph = chosen 1 copper_glyph none_glyph

abbrev pub square : ℕ → ℕ
square = chosen copper_glyph 1 0

abbrev pub is_square : ℕ → Bool
is_square c = eqb c copper_glyph || eqb c none_glyph

-- "width characters, `#` copper and `.` none"
unfoldable pub body_at : List ℕ → ℕ → ℕ → Option ℕ
body_at text spot width = found (leb width (length (drop spot text)) && all is_square (take width (drop spot text))) (spot + width)
