-- The definitions of specs/ tried on areas of document 01: what they say of the plus, the cup, the ring and the step is what the document says.
-- By running them; nothing rests on this file.
use mathlib.Core.Path.{◌≡◌, refl, sym}
use mathlib.Core.Bool.{Bool, not, ◌||◌, false≢true}
use mathlib.Core.List.{List, [], ◌∷◌}
use mathlib.Core.Logic.{by_cases, ◌≢◌}
use mathlib.Core.Option.{some}
use Prim.Native.Nat.{ℕ, zero, suc, ◌<◌}
use native.Mathlib.Decide.{ℕ_discrete}
use native.Mathlib.Omega.{arith}
use lib.Dec.{eqb}
use borrow.Author.Tests.{eqb-true, ne_eqb}
use Rattle.lists.specs.Lists.{all, up_to}
use Rattle.lists.proofs.Members.{all_of}
use Rattle.lists.proofs.Ranges.{in_from}
use lib.ListN.{length}
use Rattle.grid.specs.Squares.{Square, square, grid_squares, copper_number, Rectangle, Within, InCopper, Copper, Unbroken, Least, Independent, rectangle_at, square_at}
use Rattle.grid.specs.Raster.{area_of, first_bad, bad_square, gap, broken_from, broken_square, bottom_of, top_of}
use Rattle.grid.proofs.Areas.{area_in_grid}
use Rattle.grid.proofs.Broken.{raster-unbroken}
use Rattle.grid.proofs.Independence.{filled_in, independent}
use Rattle.grid.proofs.Pigeonhole.{least}

abbrev rectangle : ℕ → ℕ → ℕ → ℕ → Rectangle
rectangle f l b t = record { first = f; last = l; bottom = b; top = t }

-- row 0 first, each row from column 0
abbrev plus : List ℕ
plus = 0 ∷ 1 ∷ 0 ∷ 1 ∷ 1 ∷ 1 ∷ 0 ∷ 1 ∷ 0 ∷ []

abbrev cup : List ℕ
cup = 1 ∷ 1 ∷ 1 ∷ 1 ∷ 0 ∷ 1 ∷ 1 ∷ 0 ∷ 1 ∷ []

abbrev ring : List ℕ
ring = 1 ∷ 1 ∷ 1 ∷ 1 ∷ 0 ∷ 1 ∷ 1 ∷ 1 ∷ 1 ∷ []

abbrev step : List ℕ
step = 1 ∷ 0 ∷ 1 ∷ 1 ∷ 0 ∷ 1 ∷ []

-- the ring is broken, at its empty centre
ring_broken : broken_square (area_of 3 3 ring) 3 3 ≡ some (square 1 1)
unfolding broken_from gap
ring_broken = refl

-- the others are not
plus-whole : Unbroken (area_of 3 3 plus)
unfolding broken_from gap
plus-whole = (raster-unbroken 3 3 plus).0 refl

cup-whole : Unbroken (area_of 3 3 cup)
unfolding broken_from gap
cup-whole = (raster-unbroken 3 3 cup).0 refl

step-whole : Unbroken (area_of 2 3 step)
unfolding broken_from gap
step-whole = (raster-unbroken 2 3 step).0 refl

-- "cup: 0-2, 0-0, 0-2", "step: 0-1, 1-2"
cup-columns : (bottom_of (area_of 3 3 cup) 3 0 ≡ some 0) × (top_of (area_of 3 3 cup) 3 0 ≡ some 2) × (top_of (area_of 3 3 cup) 3 1 ≡ some 0)
unfolding bottom_of top_of
cup-columns = (refl, refl, refl)

step-columns : (top_of (area_of 2 3 step) 3 0 ≡ some 1) × (bottom_of (area_of 2 3 step) 3 1 ≡ some 1) × (top_of (area_of 2 3 step) 3 1 ≡ some 2)
unfolding bottom_of top_of
step-columns = (refl, refl, refl)

-- a raster with a byte 2 in its second row, third column
bad-found : bad_square 3 (0 ∷ 1 ∷ 0 ∷ 1 ∷ 1 ∷ 2 ∷ 0 ∷ 3 ∷ 0 ∷ []) ≡ some (square 2 1)
unfolding first_bad
bad-found = refl

-- the plus: "5 squares are there"
plus-squares : copper_number (area_of 3 3 plus) 3 3 ≡ 5
unfolding copper_number grid_squares
plus-squares = refl

-- its marks are independent, and the ends of its upright are not
plus-apart : Independent (area_of 3 3 plus) (square 0 1) (square 1 2)
plus-apart = (independent (area_of 3 3 plus) (square 0 1) (square 1 2)).1 refl

plus-together : Independent (area_of 3 3 plus) (square 1 0) (square 1 2) → ⊥
plus-together i = false≢true (sym ((independent (area_of 3 3 plus) (square 1 0) (square 1 2)).0 i))

-- so its two flashes are as few as can be
abbrev plus-flashes : List Rectangle
plus-flashes = rectangle 0 2 1 1 ∷ rectangle 1 1 0 2 ∷ []

abbrev plus-marks : List Square
plus-marks = square 0 1 ∷ square 1 2 ∷ []

-- off row 1 all copper is in column 1
abbrev upright : ℕ → ℕ → Bool
upright c r = not (area_of 3 3 plus c r) || eqb r 1 || eqb c 1

plus-upright : (s : Square) → Copper (area_of 3 3 plus) s → (s.row ≡ 1 → ⊥) → s.column ≡ 1
plus-upright s t d =
    let g = area_in_grid 3 3 plus s.column s.row t in
    let both = all_of (λ c. all (upright c) (up_to 3)) {xs = up_to 3} refl (in_from 0 3 s.column (omega arith) (omega arith)) in
    let here = all_of (upright s.column) both (in_from 0 3 s.row (omega arith) (omega arith)) in
    eqb-true s.column 1 (rw (t, ne_eqb s.row 1 d) at here)

plus-inside : (k : ℕ) → k < length plus-flashes → InCopper (area_of 3 3 plus) (rectangle_at plus-flashes k)
plus-inside zero h = filled_in (area_of 3 3 plus) (rectangle 0 2 1 1) (omega arith) (omega arith) refl
plus-inside (suc zero) h = filled_in (area_of 3 3 plus) (rectangle 1 1 0 2) (omega arith) (omega arith) refl
plus-inside (suc (suc k)) h = absurd (omega arith)

plus-covered : (s : Square) → Copper (area_of 3 3 plus) s → (k : ℕ) × (k < length plus-flashes) × Within (rectangle_at plus-flashes k) s
plus-covered s t =
    let g = area_in_grid 3 3 plus s.column s.row t in
    by_cases (ℕ_discrete s.row 1)
    (λ e. (0, omega arith, record { from-left = omega arith; to-right = omega arith; from-below = omega arith; to-above = omega arith }))
    (λ d.
    let e = plus-upright s t d in
    (1, omega arith, record { from-left = omega arith; to-right = omega arith; from-below = omega arith; to-above = omega arith }))

plus-copper : (k : ℕ) → k < length plus-marks → Copper (area_of 3 3 plus) (square_at plus-marks k)
plus-copper zero h = refl
plus-copper (suc zero) h = refl
plus-copper (suc (suc k)) h = absurd (omega arith)

plus_pairs : (j k : ℕ) → j < length plus-marks → k < length plus-marks → j ≢ k → Independent (area_of 3 3 plus) (square_at plus-marks j) (square_at plus-marks k)
plus_pairs zero zero p q d = absurd (omega arith)
plus_pairs zero (suc zero) p q d = plus-apart
plus_pairs zero (suc (suc k)) p q d = absurd (omega arith)
plus_pairs (suc zero) zero p q d = λ r i u v. plus-apart r i v u
plus_pairs (suc zero) (suc k) p q d = absurd (omega arith)
plus_pairs (suc (suc j)) k p q d = absurd (omega arith)

plus-least : Least (area_of 3 3 plus) 2
plus-least =
    least (area_of 3 3 plus) plus-flashes plus-marks
    (record { inside = plus-inside; whole = plus-covered }) (record { copper = plus-copper; apart = plus_pairs }) refl

-- the cup: its marks (0, 2), (1, 0) and (2, 2)
cup-apart : Independent (area_of 3 3 cup) (square 0 2) (square 1 0) × Independent (area_of 3 3 cup) (square 0 2) (square 2 2) × Independent (area_of 3 3 cup) (square 1 0) (square 2 2)
cup-apart =
    let a = area_of 3 3 cup in
    ((independent a (square 0 2) (square 1 0)).1 refl, (independent a (square 0 2) (square 2 2)).1 refl, (independent a (square 1 0) (square 2 2)).1 refl)

-- the step: two squares that share no flash of its list, and yet share a rectangle of copper
abbrev step-flashes : List Rectangle
step-flashes = rectangle 0 0 0 1 ∷ rectangle 1 1 1 2 ∷ []

step_no_flash : (k : ℕ) → k < length step-flashes
    → Within (rectangle_at step-flashes k) (square 0 1) → Within (rectangle_at step-flashes k) (square 1 1) → ⊥
step_no_flash zero h u v = omega arith
step_no_flash (suc zero) h u v = omega arith
step_no_flash (suc (suc k)) h u v = omega arith

step-together : Independent (area_of 2 3 step) (square 0 1) (square 1 1) → ⊥
step-together i = false≢true (sym ((independent (area_of 2 3 step) (square 0 1) (square 1 1)).0 i))
