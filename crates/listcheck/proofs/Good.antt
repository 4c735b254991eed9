-- The tests by numbers of a good flash, in numbers, and its rows as the code asks them.
use mathlib.Core.Path.{◌≡◌, ap, ◌∙◌}
use mathlib.Core.Bool.{true}
use Prim.Native.Nat.{ℕ, ◌+◌, ◌-◌, ◌≤◌, ◌<◌}
use native.Mathlib.Numerals.{add-one}
use borrow.Author.Tests.{leb-true, ltb-true}
use lib.Dec.{leb, ltb}
use Rattle.std.specs.List.{list_all, range_with_len}
use Rattle.lists.specs.Lists.{all}
use Rattle.lists.proofs.Truth.{and_left, and_right}
use Rattle.method.specs.Intervals.{span}
use Rattle.grid.specs.Squares.{Area, Rectangle}
use Rattle.cover.specs.Slices.{copper_along}
use Rattle.listcheck.specs.Verdict.{copper_rows, upright, on_grid}
use Rattle.listcheck.proofs.Turns.{all-same, range-same}

-- the tests by numbers, in numbers
module _ (q : Rectangle) where
  pub upright-parts : upright q ≡ true → (q.first ≤ q.last) × (q.bottom ≤ q.top)
  unfolding upright
  upright-parts t =
      let x = leb q.first q.last in
      let y = leb q.bottom q.top in
      (leb-true q.first q.last (and_left x y t), leb-true q.bottom q.top (and_right x y t))

  pub grid_parts : (w h : ℕ) → on_grid w h q ≡ true → (q.last < w) × (q.top < h)
  unfolding on_grid
  grid_parts w h t =
      let x = ltb q.last w in
      let y = ltb q.top h in
      (ltb-true q.last w (and_left x y t), ltb-true q.top h (and_right x y t))

-- its rows as the code asks them: from the bottom up to the one above the top, along the lines of its columns
pub rows-same : (a : Area) (q : Rectangle) → list_all (λ (y : ℕ). copper_along a y (span q.first (q.last + 1))) (range_with_len q.bottom (q.top + 1 - q.bottom)) ≡ copper_rows a q
unfolding copper_rows
rows-same a q =
    let p = λ (y : ℕ). copper_along a y (span q.first (q.last + 1)) in
    all-same p _ ∙ ap (all p) (range-same _ _) ∙ rw (add-one q.last, add-one q.top)
