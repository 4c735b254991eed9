-- The heights of an unbroken area's columns, summed up, are its copper number: a column has as many copper squares as rows from its bottom to its end.
-- The squares counted by rows are those counted by columns. The cover uses it.
use mathlib.Core.Path.{◌≡◌, refl, sym, ap, ap₂, ◌∙◌}
use mathlib.Core.Bool.{Bool, true, cond}
use mathlib.Core.List.{List, [], ◌∷◌, ◌++◌}
use mathlib.Core.Logic.{by_cases, ◌⊎◌, inl, inr, ⊎_elim}
use Prim.Native.Nat.{ℕ, zero, suc, ◌+◌, ◌-◌, ◌≤◌}
use native.Mathlib.Decide.{ℕ_discrete}
use native.Mathlib.Omega.{arith}
use lib.Dec.{eqb}
use borrow.Author.Tests.{eqb-true, eq-eqb}
use Rattle.lists.specs.Lists.{count, gather, from, up_to}
use Rattle.lists.proofs.Truth.{bcase, ocase, never}
use Rattle.lists.proofs.Counting.{count-append, count_map}
use Rattle.lists.proofs.Ranges.{from-append}
use Rattle.lists.proofs.Searches.{down-within, down_above}
use Rattle.lists.proofs.Totals.{total, count_swap}
use Rattle.grid.specs.Squares.{Area, Square, square, Unbroken, grid_squares, copper_number}
use Rattle.grid.specs.Raster.{top_of}
use Rattle.grid.proofs.GridSquares.{row_squares}
use Rattle.columns.specs.Columns.{Reached, bottom_at, past, end_at, Upright, heights_to}
use Rattle.columns.specs.Code.{end_to, bottom_to}
use Rattle.columns.proofs.BottomsEnds.{end-top, bottom-lowest}

total-append : (g : ℕ → ℕ) (xs ys : List ℕ) → total g (xs ++ ys) ≡ total g xs + total g ys
total-append g [] ys = omega arith
total-append g (x ∷ xs) ys = omega (arith, total-append g xs ys)

module _ (a : Area) where
  abbrev copper : Square → Bool
  copper s = a s.column s.row

  -- the copper number by rows, and by columns
  by_rows : (w : ℕ) (rs : List ℕ) → count copper (gather (row_squares w) rs) ≡ total (λ r. count (λ c. a c r) (up_to w)) rs
  by_rows w [] = refl
  by_rows w (r ∷ rs) = count-append copper (row_squares w r) (gather (row_squares w) rs) ∙ ap₂ ◌+◌ (count_map copper (λ c. square c r) (up_to w)) (by_rows w rs)

  by_columns : (w h : ℕ) → copper_number a w h ≡ total (λ c. count (a c) (up_to h)) (up_to w)
  unfolding copper_number grid_squares
  by_columns w h = by_rows w (up_to h) ∙ sym (count_swap a (up_to w) (up_to h))

  -- one row more of a column
  count_next : (c y : ℕ) → count (a c) (up_to (suc y)) ≡ count (a c) (up_to y) + cond (a c y) 1 0
  count_next c y =
      let e : 0 + y ≡ y = omega arith in
      let f : suc y ≡ y + 1 = omega arith in
      omega (
        arith,
        ap (λ z. count (a c) (up_to z)) f,
        ap (count (a c)) (from-append 0 y 1),
        count-append (a c) (up_to y) (from (0 + y) 1),
        ap {B = ℕ} (λ z. cond (a c z) 1 0) e,
      )

  module _ (unbroken : Unbroken a) where
    -- copper in row y begins the column's copper, or goes on at its end
    goes_on : (c y : ℕ) → a c y ≡ true → (end_to a y c ≡ 0) ⊎ (end_to a y c ≡ y)
    unfolding top_of
    goes_on c y p =
        ocase (top_of a y c)
        (λ q. inl (end-top a c y ∙ ap past q))
        (λ t q.
        let r = down-within (a c) y q in
        let e : end_to a y c ≡ suc t = end-top a c y ∙ ap past q in
        by_cases (ℕ_discrete (suc t) y) (λ z. inr (e ∙ z))
        (λ d. absurd (never (unbroken c t (suc t) y (omega arith) (omega arith) r.1 p) (down_above (a c) y q (suc t) (omega arith) (omega arith)))))

    -- a column's copper squares are as many as its rows from bottom to end
    column-count : (c y : ℕ) → (bottom_to a y c ≤ end_to a y c) × (end_to a y c ≤ y) × (count (a c) (up_to y) ≡ end_to a y c - bottom_to a y c)
    unfolding end_to bottom_to
    column-count c zero = (omega arith, omega arith, omega arith)
    column-count c (suc y) =
        let so = column-count c y in
        let next = count_next c y in
        bcase (a c y)
        (λ t.
        let one = ap {B = ℕ} (λ b. cond b 1 0) t in
        bcase (eqb (end_to a y c) 0)
        (λ z. let n = eqb-true (end_to a y c) 0 z in rw (t, z) (omega arith, omega arith, omega arith))
        (λ z.
        let e : end_to a y c ≡ y = ⊎_elim (λ n. absurd (never (eq-eqb (end_to a y c) 0 n) z)) (λ n. n) (goes_on c y t) in
        rw (t, z) (omega arith, omega arith, omega arith)))
        (λ t. let one = ap {B = ℕ} (λ b. cond b 1 0) t in rw t (omega arith, omega arith, omega arith))

    module _ (h : ℕ) where
      column-heights : (c : ℕ) → count (a c) (up_to h) ≡ end_at a h c - bottom_at a h c
      column-heights c = omega (arith, column-count c h, end-top a c h, bottom-lowest a c h)

      pub bottom-below : (c : ℕ) → bottom_at a h c ≤ end_at a h c
      bottom-below c = omega (arith, column-count c h, end-top a c h, bottom-lowest a c h)

      module _ (w : ℕ) {bottoms ends : List ℕ} (R : Reached a w h bottoms ends) where
        pub upright : Upright w bottoms ends
        upright c l = omega (arith, R.low c l, R.high c l, bottom-below c)

        heights-total : (n : ℕ) → n ≤ w → heights_to n bottoms ends ≡ total (λ c. count (a c) (up_to h)) (up_to n)
        unfolding heights_to
        heights-total zero l = refl
        heights-total (suc n) l =
            let e : 0 + n ≡ n = omega arith in
            let f : suc n ≡ n + 1 = omega arith in
            omega (
              arith,
              heights-total n (omega arith),
              R.low n (omega arith),
              R.high n (omega arith),
              column-heights n,
              ap (λ z. total (λ c. count (a c) (up_to h)) (up_to z)) f,
              ap (total (λ c. count (a c) (up_to h))) (from-append 0 n 1),
              total-append (λ c. count (a c) (up_to h)) (up_to n) (from (0 + n) 1),
              ap (λ z. count (a z) (up_to h)) e,
            )

        pub heights-copper : heights_to w bottoms ends ≡ copper_number a w h
        heights-copper = heights-total w (omega arith) ∙ sym (by_columns w h)
