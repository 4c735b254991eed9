-- Heights: a flash reaches from the greatest bottom of its columns to the least top, and the rows that are copper in every one of them are exactly those between.
-- So the flash lies in the copper. The columns are unbroken, so these rows are one run (Run of crate grid). The cover, and code that takes heights, rest on it.
use mathlib.Core.Path.{◌≡◌, sym, ap, subst}
use mathlib.Core.Bool.{true}
use mathlib.Core.List.{List, ◌∷◌}
use mathlib.Core.Logic.{◌↔◌}
use Prim.Native.Nat.{ℕ, suc, ◌-◌, ◌≤◌, ◌<◌}
use native.Mathlib.Omega.{arith}
use Rattle.lists.specs.Lists.{first, from, up_to, down}
use Rattle.method.specs.Intervals.{Interval, columns}
use Rattle.grid.specs.Squares.{Area, InGrid, Unbroken, InCopper}
use Rattle.grid.proofs.Run.{greatest_bottom, least_top, copper_in, run, top_below, run-lowest, run_highest}
use Rattle.cover.specs.Slices.{copper_along}
use Rattle.cover.specs.Flashes.{row_found, flash}
use Rattle.cover.proofs.SliceLaws.{along-copper}

-- the columns after the first
abbrev others : Interval → List ℕ
others i = from (suc i.left) (i.right - suc i.left)

columns-first : (i : Interval) → i.left < i.right → columns i ≡ i.left ∷ others i
columns-first i wide = let e : i.right - i.left ≡ suc (i.right - suc i.left) = omega arith in rw e

module _ (a : Area) (w h : ℕ) (grid : InGrid w h a) (unbroken : Unbroken a) (i : Interval) (wide : i.left < i.right) where
  row_below : (y : ℕ) → copper_along a y i ≡ true → y < h
  row_below y t = (grid i.left y (along-copper a y i t i.left (omega arith) wide)).1

  -- some row is copper along the interval
  module _ (row : ℕ) (along : copper_along a row i ≡ true) where
    all-along : copper_in a (i.left ∷ others i) row ≡ true
    unfolding copper_along
    all-along = subst (λ cs. copper_in a cs row ≡ true) (columns-first i wide) along

    pub bottom-greatest : (flash a h i).bottom ≡ greatest_bottom a h (columns i)
    unfolding flash copper_along
    bottom-greatest =
        subst (λ cs. row_found (first (copper_in a cs) (up_to h)) ≡ greatest_bottom a h cs) (sym (columns-first i wide))
        (ap row_found (run-lowest a h unbroken i.left (others i) row (row_below row along) all-along))

    pub top_least : (flash a h i).top ≡ least_top a h (columns i)
    unfolding flash copper_along
    top_least =
        subst (λ cs. row_found (first (copper_in a cs) (down h)) ≡ least_top a h cs) (sym (columns-first i wide))
        (ap row_found (run_highest a h unbroken i.left (others i) row (row_below row along) all-along))

    pub top_in_grid : (flash a h i).top < h
    top_in_grid =
        let l = subst (λ cs. least_top a h cs < h) (sym (columns-first i wide)) (top_below a h unbroken i.left (others i) row (row_below row along) all-along) in
        omega (arith, top_least)

    pub heights : (y : ℕ) → copper_along a y i ≡ true ↔ (((flash a h i).bottom ≤ y) × (y ≤ (flash a h i).top))
    unfolding copper_along
    heights y = (
      λ t. let k = (run a h unbroken (columns i) y (row_below y t)).0 t in (omega (arith, bottom-greatest), omega (arith, top_least)),
      λ k. (run a h unbroken (columns i) y (omega (arith, top_in_grid))).1 (omega (arith, bottom-greatest), omega (arith, top_least)),
    )

    -- the flash lies in the copper
    pub flash_in_copper : InCopper a (flash a h i)
    unfolding flash
    flash_in_copper =
        let r = (heights row).0 along in
        record {
          wide = omega arith;
          high = omega arith;
          copper = λ s v. along-copper a s.row i ((heights s.row).1 (v.from-below, v.to-above)) s.column v.from-left (omega (arith, v.to-right));
        }
