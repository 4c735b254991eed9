-- Answer 8 is right: there is no such square exactly where no column is broken, and else it is the lowest gap of the leftmost broken column.
-- A square is a gap exactly where it passes the test of specs/, since all copper lies in the grid; the searches stop at the first that does.
-- The statements for a raster stand at the end.
use mathlib.Core.Path.{◌≡◌, sym, subst, ap₂, ◌∙◌}
use mathlib.Core.Bool.{true, not, ◌&&◌}
use mathlib.Core.List.{List}
use mathlib.Core.Logic.{by_cases, ◌↔◌}
use mathlib.Core.Option.{none, some}
use Prim.Native.Nat.{ℕ, suc, ◌-◌, ◌<◌}
use native.Mathlib.Decide.{dec_lt}
use native.Mathlib.Omega.{arith}
use borrow.Author.Tests.{not-true}
use Rattle.lists.specs.Lists.{any, from, up_to}
use Rattle.lists.proofs.Truth.{bcase, ocase, never, and_left, and_right}
use Rattle.lists.proofs.Ranges.{first-from}
use Rattle.lists.proofs.Searches.{first-within, first-missed, any_where}
use Rattle.grid.specs.Squares.{Area, square, InGrid, Gap, Unbroken, BrokenAt}
use Rattle.grid.specs.Raster.{area_of, gap_at, gap, broken_square}
use Rattle.grid.proofs.Areas.{area_in_grid}
use Rattle.grid.proofs.Gaps.{is-gap}
use Rattle.grid.proofs.Leftmost.{all_whole, first_broken}

module _ (a : Area) where
  -- no column is broken exactly where no square is a gap
  no_gaps : ((c r : ℕ) → Gap a c r → ⊥) → Unbroken a
  no_gaps n c below r above l u p q =
      bcase (a c r) (λ t. t) (λ f. absurd (n c r (record { empty = f; below = (below, l, p); above = (above, u, q) })))

  pub no_gap : Unbroken a → (c r : ℕ) → Gap a c r → ⊥
  no_gap u c r x =
      let low = x.below in
      let high = x.above in
      never (u c low.0 r high.0 low.1 high.1 low.2 high.2) x.empty

  -- the place of answer 8 is one
  pub one_place : {c r x y : ℕ} → BrokenAt a c r → BrokenAt a x y → (c ≡ x) × (r ≡ y)
  one_place {c} {r} {x} {y} p q =
      let e : c ≡ x =
      by_cases (dec_lt c x) (λ l. absurd (q.leftmost c r l p.here))
      (λ g. by_cases (dec_lt x c) (λ l. absurd (p.leftmost x y l q.here)) (λ k. omega arith)) in (
        e,
        by_cases (dec_lt r y) (λ l. absurd (q.lowest r l (subst (λ z. Gap a z r) e p.here)))
            (λ g. by_cases (dec_lt y r) (λ l. absurd (p.lowest y l (subst (λ z. Gap a z y) (sym e) q.here))) (λ k. omega arith)),
      )

module _ (a : Area) (w h : ℕ) (g : InGrid w h a) where
  passes-gap : (c r : ℕ) → gap_at a h c r ≡ true → Gap a c r
  passes-gap c r t =
      let under = any (a c) (up_to r) in
      let over = any (a c) (from (suc r) (h - suc r)) in
      let u = and_left (not (a c r) && under) over t in
      let low = any_where (a c) 0 r (and_right (not (a c r)) under u) in
      let high = any_where (a c) (suc r) (h - suc r) (and_right (not (a c r) && under) over t) in
      record {
        empty = not-true (a c r) (and_left (not (a c r)) under u);
        below = (low.0, omega arith, low.3);
        above = (high.0, omega arith, high.3);
      }

  gap-passes : (c r : ℕ) → Gap a c r → gap_at a h c r ≡ true
  gap-passes c r x =
      let low = x.below in
      let high = x.above in
      is-gap a h c r low.0 high.0 low.1 high.1 (g c high.0 high.2).1 low.2 x.empty high.2

  gap-inside : (c r : ℕ) → Gap a c r → (c < w) × (r < h)
  gap-inside c r x = let z = x.above in let b = g c z.0 z.2 in omega arith

  -- what the search of one column says
  column-whole : (c : ℕ) → gap a h c ≡ none → (r : ℕ) → Gap a c r → ⊥
  unfolding gap
  column-whole c n r x = never (gap-passes c r x) (first-missed (gap_at a h c) 0 h n r (omega arith) (omega (arith, gap-inside c r x)))

  column_broken : (c : ℕ) {r : ℕ} → gap a h c ≡ some r → Gap a c r × ((y : ℕ) → y < r → Gap a c y → ⊥)
  unfolding gap
  column_broken c {r} e = (
    passes-gap c r (first-within (gap_at a h c) 0 h e).2,
    λ y l x. never (gap-passes c y x) (first-from (gap_at a h c) 0 h e y (omega arith) l),
  )

  at-lowest : (c r : ℕ) → broken_square a w h ≡ some (square c r) → BrokenAt a c r
  at-lowest c r e =
      let f = first_broken a h 0 w e in
      let k = column_broken c f.0 in
      record { here = k.0; leftmost = λ x y l z. column-whole x (f.1 x (omega arith) l) y z; lowest = k.1 }

  -- none exactly where no column is broken
  pub none-unbroken : (broken_square a w h ≡ none) ↔ Unbroken a
  none-unbroken = (
    λ e. no_gaps a (λ c r x. column-whole c (all_whole a h 0 w e c (omega arith) (omega (arith, gap-inside c r x))) r x),
    λ u. ocase (broken_square a w h) (λ e. e) (λ s e. absurd (no_gap a u s.column s.row (at-lowest s.column s.row e).here)),
  )

  -- else at the lowest gap of the leftmost broken column
  pub at_broken : (c r : ℕ) → (broken_square a w h ≡ some (square c r)) ↔ BrokenAt a c r
  at_broken c r = (
    at-lowest c r,
    λ b.
        ocase (broken_square a w h)
        (λ e. absurd (no_gap a (none-unbroken.0 e) c r b.here))
        (λ s e. let q = one_place a (at-lowest s.column s.row e) b in e ∙ ap₂ (λ m n. some (square m n)) q.0 q.1),
  )

-- of a raster
module _ (w h : ℕ) (bytes : List ℕ) where
  pub raster-unbroken : (broken_square (area_of w h bytes) w h ≡ none) ↔ Unbroken (area_of w h bytes)
  raster-unbroken = none-unbroken (area_of w h bytes) w h (area_in_grid w h bytes)

  pub raster_broken : (c r : ℕ) → (broken_square (area_of w h bytes) w h ≡ some (square c r)) ↔ BrokenAt (area_of w h bytes) c r
  raster_broken = at_broken (area_of w h bytes) w h (area_in_grid w h bytes)
