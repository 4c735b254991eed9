-- The rectangle of an interval by its columns' bottoms and ends is its flash, where some row is copper along it.
-- A row is copper along the interval exactly where it lies from the greatest bottom to before the least end. The cover's work uses it.
use mathlib.Core.Path.{◌≡◌, sym, ap}
use mathlib.Core.Bool.{true}
use mathlib.Core.List.{List}
use Prim.Native.Nat.{ℕ, ◌-◌, ◌≤◌, ◌<◌}
use native.Mathlib.Omega.{arith}
use Rattle.lists.proofs.Truth.{fails}
use Rattle.lists.proofs.Searches.{first-least, down-greatest}
use Rattle.method.specs.Intervals.{Interval}
use Rattle.grid.specs.Limits.{side}
use Rattle.grid.specs.Squares.{Area, InGrid, Unbroken}
use Rattle.columns.specs.Columns.{Reached, bottom_at, end_at, greatest_in, least_in}
use Rattle.columns.proofs.ColumnRows.{row-between, between-row}
use Rattle.columns.proofs.Extremes.{above_each, above_greatest, below_each, below-least}
use Rattle.cover.specs.Slices.{copper_along}
use Rattle.cover.specs.Flashes.{row_found, flash}
use Rattle.cover.specs.Code.{flash_between, Standing}
use Rattle.cover.proofs.SliceLaws.{along-copper, copper-along}

module _ (a : Area) (w h : ℕ) (grid : InGrid w h a) (unbroken : Unbroken a) (low : h ≤ side) {bottoms ends : List ℕ} (R : Reached a w h bottoms ends)
    (i : Interval) (wide : i.left < i.right) (fits : i.right ≤ w) where
  abbrev pub lowest : ℕ
  lowest = greatest_in bottoms i.left (i.right - i.left)

  abbrev past : ℕ
  past = least_in ends i.left (i.right - i.left)

  each : (y : ℕ) → copper_along a y i ≡ true → (c : ℕ) → i.left ≤ c → c < i.right → (bottom_at a h c ≤ y) × (y < end_at a h c)
  each y t c l u = let s = along-copper a y i t c l u in row-between a h c y (grid c y s).1 s

  -- a row that is copper along the interval lies between, and each row between is
  pub along-between : (y : ℕ) → copper_along a y i ≡ true → (lowest ≤ y) × (y < past)
  along-between y t =
      let high = (grid i.left y (along-copper a y i t i.left (omega arith) wide)).1 in (
        above_greatest bottoms i.left (i.right - i.left) y (λ c l u. omega (arith, R.low c (omega arith), each y t c l (omega arith))),
        below-least ends i.left (i.right - i.left) y (omega arith) (λ c l u. omega (arith, R.high c (omega arith), each y t c l (omega arith))),
      )

  pub between-along : (y : ℕ) → lowest ≤ y → y < past → copper_along a y i ≡ true
  between-along y l u =
      copper-along a y i
      (λ c m n.
      between-row a h c unbroken y
      (omega (arith, R.low c (omega arith), above_each bottoms i.left (i.right - i.left) y l c m (omega arith)))
      (omega (arith, R.high c (omega arith), below_each ends i.left (i.right - i.left) y u c m (omega arith))))

  module _ (row : ℕ) (along : copper_along a row i ≡ true) where
    row_below : (y : ℕ) → copper_along a y i ≡ true → y < h
    row_below y t = (grid i.left y (along-copper a y i t i.left (omega arith) wide)).1

    pub stands : w ≤ side → Standing bottoms ends i
    stands z =
        let k = along-between row along in
        record { wide = wide; narrow = omega arith; low = omega (arith, R.low-long); high = omega (arith, R.high-long); tall = omega arith }

    pub by_column_lem : flash_between bottoms ends i ≡ flash a h i
    unfolding flash
    by_column_lem =
        let k = along-between row along in
        let bottom = between-along lowest (omega arith) (omega arith) in
        let top = between-along (past - 1) (omega arith) (omega arith) in
        let b = first-least (λ y. copper_along a y i) 0 h lowest (omega arith) (omega (arith, row_below lowest bottom)) bottom
        (λ y l u. fails (copper_along a y i) (λ t. let z = along-between y t in omega arith)) in
        let t = down-greatest (λ y. copper_along a y i) h (past - 1) (row_below (past - 1) top) top
        (λ y l u. fails (copper_along a y i) (λ t. let z = along-between y t in omega arith)) in
        λ j. record { first = i.left; last = i.right - 1; bottom = sym (ap row_found b) j; top = sym (ap row_found t) j }
