-- The copper number beside the flashed area, of any cover: at most as much, and equal exactly where no two of its rectangles share a square.
-- By double counting: a rectangle's area is how many squares of the grid it holds, so the flashed area sums up how many rectangles hold each square.
-- That is 1 or more for a copper square, 0 for another, and nowhere 2 or more exactly where no square is shared.
use mathlib.Core.Path.{◌≡◌, refl, sym, ap, ◌∙◌}
use mathlib.Core.Bool.{Bool, cond}
use mathlib.Core.List.{List, [], ◌∷◌}
use mathlib.Core.Logic.{by_cases, ◌↔◌}
use Prim.Native.Nat.{ℕ, ◌+◌, ◌≤◌, ◌<◌}
use native.Mathlib.Decide.{dec_lt}
use native.Mathlib.Omega.{arith}
use lib.ListN.{length}
use Rattle.lists.specs.Lists.{count}
use Rattle.lists.proofs.Truth.{bcase, never}
use Rattle.lists.proofs.Members.{In, any_of, any_found}
use Rattle.lists.proofs.Keep.{count_positive, count-any}
use Rattle.lists.proofs.Pairs.{in_at}
use Rattle.lists.proofs.Positions.{at_in}
use Rattle.lists.proofs.Totals.{total, total-same, count-below, count_equal, equal_count, count-two, count-one, count_swap}
use Rattle.grid.specs.Squares.{Area, Square, square, InGrid, Rectangle, Within, InCopper, Copper, Cover, NoneShared, rectangle_at, grid_squares, copper_number}
use Rattle.grid.proofs.GridSquares.{in_squares, holds_square, within-holds, holds-within, rectangle-squares}
use Rattle.cover.specs.Flashes.{area_of_flash, flashed_area}

area-total : (qs : List Rectangle) → flashed_area qs ≡ total area_of_flash qs
unfolding flashed_area
area-total [] = refl
area-total (q ∷ qs) = ap (area_of_flash q +◌) (area-total qs)

abbrev blank : Rectangle
blank = record { first = 0; last = 0; bottom = 0; top = 0 }

module _ (a : Area) (w h : ℕ) (grid : InGrid w h a) (qs : List Rectangle) (cover : Cover a qs) where
  abbrev copper : Square → Bool
  copper s = a s.column s.row

  -- how many rectangles hold the square
  abbrev times : Square → ℕ
  times s = count (λ q. holds_square q s) qs

  in_copper : (q : Rectangle) → In q qs → InCopper a q
  in_copper q m = let k = at_in blank m in rw (sym k.2) (cover.inside k.0 k.1)

  rectangle-area : (q : Rectangle) → In q qs → area_of_flash q ≡ count (holds_square q) (grid_squares w h)
  rectangle-area q m =
      let i = in_copper q m in
      let corner = square q.last q.top in
      let b = grid q.last q.top (i.copper corner (record { from-left = i.wide; to-right = omega arith; from-below = i.high; to-above = omega arith })) in
      sym (rectangle-squares w h q i.wide i.high b.0 b.1)

  area-times : flashed_area qs ≡ total times (grid_squares w h)
  area-times =
      area-total qs
      ∙ total-same area_of_flash (λ q. count (holds_square q) (grid_squares w h)) qs rectangle-area
      ∙ count_swap holds_square qs (grid_squares w h)

  -- copper is held, and what is held is copper
  held : (s : Square) → Copper a s → 1 ≤ times s
  held s t =
      let k = cover.whole s t in
      count_positive (λ q. holds_square q s) qs (any_of (λ q. holds_square q s) (in_at qs blank k.0 k.1) (within-holds (rectangle_at qs k.0) s k.2))

  held-copper : (s : Square) → 1 ≤ times s → Copper a s
  held-copper s u =
      let q = any_found (λ q. holds_square q s) qs (count-any (λ q. holds_square q s) qs u) in
      (in_copper q.0 q.1).copper s (holds-within q.0 s q.2)

  once : (s : Square) → cond (copper s) 1 0 ≤ times s
  once s = bcase (copper s) (λ t. rw t (held s t)) (λ f. rw f (omega arith))

  pub copper-at-most : copper_number a w h ≤ flashed_area qs
  unfolding copper_number
  copper-at-most = rw area-times (count-below copper times (grid_squares w h) (λ s m. once s))

  -- a square of two places is held twice, which is more than once
  shared : copper_number a w h ≡ flashed_area qs → (j k : ℕ) → j < k → k < length qs → (s : Square) → Within (rectangle_at qs j) s → Within (rectangle_at qs k) s → ⊥
  unfolding copper_number
  shared e j k l u s x y =
      let t = (cover.inside k u).copper s y in
      let b = grid s.column s.row t in
      let same = count_equal copper times (λ z m. once z) (e ∙ area-times) (in_squares w h s b.0 b.1) in
      let two = count-two (λ q. holds_square q s) qs blank j k l u (within-holds (rectangle_at qs j) s x) (within-holds (rectangle_at qs k) s y) in
      omega (arith, rw t at same)

  at-most-once : NoneShared qs → (s : Square) → times s ≤ 1
  at-most-once apart s =
      count-one (λ q. holds_square q s) qs blank
      (λ j k l u x y. apart j k (omega arith) u (omega arith) s (holds-within (rectangle_at qs j) s x) (holds-within (rectangle_at qs k) s y))

  exactly_once : NoneShared qs → (s : Square) → cond (copper s) 1 0 ≡ times s
  exactly_once apart s =
      bcase (copper s)
      (λ t. rw t (omega (arith, held s t, at-most-once apart s)))
      (λ f. rw f (by_cases (dec_lt 0 (times s)) (λ u. absurd (never (held-copper s u) f)) (λ u. omega arith)))

  pub copper_equal : (copper_number a w h ≡ flashed_area qs) ↔ NoneShared qs
  unfolding copper_number
  copper_equal = (
    λ e j k l u d s x y. by_cases (dec_lt j k) (λ b. shared e j k b u s x y) (λ b. shared e k j (omega arith) l s y x),
    λ apart. equal_count copper times (grid_squares w h) (λ s m. exactly_once apart s) ∙ sym area-times,
  )
