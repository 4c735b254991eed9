-- The definitions tried on the plus: a list that is sound, one that is bad, one that is bare; lines as ruled and not. Each by evaluation.
use mathlib.Core.Path.{◌≡◌, refl}
use mathlib.Core.List.{List, [], ◌∷◌, ◌++◌}
use mathlib.Core.Option.{none, some}
use Prim.Native.Nat.{ℕ}
use Rattle.grid.specs.Squares.{Area, Rectangle, square}
use Rattle.grid.specs.Raster.{area_of}
use Rattle.text.specs.Words.{begins}
use Rattle.text.specs.Decimal.{digits, decimal, run, value}
use Rattle.text.specs.Line.{line, numbers_from, line_at}
use Rattle.cover.specs.Slices.{copper_along}
use Rattle.listcheck.specs.FlashList.{flash_line_at, flash_said, flashes_from, end_from, flashes_of, line_not_ruled}
use Rattle.listcheck.specs.Verdict.{copper_rows, upright, on_grid, good, bad_from, bad_line, between, holds_square, bare, first_bare, bare_square}

plus : Area
plus = area_of 3 3 (0 ∷ 1 ∷ 0 ∷ 1 ∷ 1 ∷ 1 ∷ 0 ∷ 1 ∷ 0 ∷ [])

flash : ℕ → ℕ → ℕ → ℕ → Rectangle
flash first last bottom top = record { first = first; last = last; bottom = bottom; top = top }

across : Rectangle
across = flash 0 2 1 1

upward : Rectangle
upward = flash 1 1 0 2

-- `flash`, 0, 2, 1, 1, as bytes
text : List ℕ
text = 102 ∷ 108 ∷ 97 ∷ 115 ∷ 104 ∷ 9 ∷ 48 ∷ 9 ∷ 50 ∷ 9 ∷ 49 ∷ 9 ∷ 49 ∷ 10 ∷ []

read_one : flashes_of text ≡ across ∷ []
unfolding flashes_of flashes_from flash_line_at flash_said line_at line numbers_from digits decimal run value begins text across flash
read_one = refl

read-ruled : line_not_ruled (text ++ text) ≡ none
unfolding line_not_ruled flashes_of flashes_from end_from flash_line_at flash_said line_at line numbers_from digits decimal run value begins text
read-ruled = refl

-- a second line that ends too early
read-cut : line_not_ruled (text ++ (102 ∷ 108 ∷ [])) ≡ some 2
unfolding line_not_ruled flashes_of flashes_from end_from flash_line_at flash_said line_at line numbers_from digits decimal run value begins text
read-cut = refl

sound-good : bad_line plus 3 3 (upward ∷ across ∷ []) ≡ none
unfolding bad_from good upright on_grid copper_rows copper_along plus across upward flash
sound-good = refl

sound-held : bare_square plus 3 3 (upward ∷ across ∷ []) ≡ none
unfolding first_bare bare holds_square between plus across upward flash
sound-held = refl

-- the first square of the flash is copper, its last is not
bad-second : bad_line plus 3 3 (across ∷ flash 0 1 1 2 ∷ []) ≡ some 2
unfolding bad_from good upright on_grid copper_rows copper_along plus across flash
bad-second = refl

bad_reversed : bad_line plus 3 3 (flash 2 0 1 1 ∷ []) ≡ some 1
unfolding bad_from good upright on_grid copper_rows copper_along plus flash
bad_reversed = refl

bad-off : bad_line plus 3 3 (flash 0 3 1 1 ∷ []) ≡ some 1
unfolding bad_from good upright on_grid copper_rows copper_along plus flash
bad-off = refl

bare-first : bare_square plus 3 3 (upward ∷ []) ≡ some (square 0 1)
unfolding first_bare bare holds_square between plus upward flash
bare-first = refl

bare-none : bare_square plus 3 3 [] ≡ some (square 1 0)
unfolding first_bare bare holds_square between plus
bare-none = refl
