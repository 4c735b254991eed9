-- The row of an interval's marks by its columns' bottoms and ends is the lowest row that shows the interval, where some row does.
-- A column's copper is one run of rows: whatever is past its end stays past it, so three steps past the two columns beside the interval are enough. The cover's work uses it.
use mathlib.Core.Path.{◌≡◌, refl, sym, ap, ◌∙◌}
use mathlib.Core.Bool.{Bool, true, false, not}
use mathlib.Core.List.{List}
use mathlib.Core.Logic.{by_cases}
use Prim.Native.Nat.{ℕ, zero, suc, ◌≤◌, ◌<◌, max}
use native.Mathlib.Omega.{arith}
use native.Mathlib.Decide.{dec_lt}
use lib.ListN.{get_or}
use borrow.Author.Tests.{lt-ltb, le-ltb}
use Rattle.lists.proofs.Truth.{fails, never}
use Rattle.lists.proofs.Searches.{first-least}
use Rattle.method.specs.Intervals.{Interval, member}
use Rattle.grid.specs.Limits.{side}
use Rattle.grid.specs.Squares.{Area, InGrid, Unbroken}
use Rattle.columns.specs.Columns.{Reached}
use Rattle.columns.proofs.ColumnRows.{row-between, between-row}
use Rattle.cover.specs.Slices.{ends_left, slice, lowest_shown, starting, mark_row}
use Rattle.cover.specs.Flashes.{row_found}
use Rattle.cover.specs.Code.{row_past, past_left, past_right, row_between}
use Rattle.cover.proofs.SliceLaws.{slice-lines, slice-along, slice-left, slice_right, lines-slice}
use Rattle.cover.proofs.Starting.{starting-shown}
use Rattle.cover.proofs.HeightsByColumn.{lowest, along-between, between-along}

-- a step from a row to the first bare one from there on, in a column whose copper is one run of rows
record Past (copper : ℕ → Bool) (step : ℕ → ℕ) : Type 0 where
  up : (y : ℕ) → y ≤ step y
  clear : (y : ℕ) → copper (step y) ≡ false
  least : (y s : ℕ) → y ≤ s → copper s ≡ false → step y ≤ s
  over : (y z : ℕ) → y < step y → step y ≤ z → copper z ≡ false

-- past two columns
module _ {p q : ℕ → Bool} {L R : ℕ → ℕ} (A : Past p L) (B : Past q R) (y : ℕ) where
  abbrev both : ℕ
  both = L (R (L y))

  both-up : y ≤ both
  both-up = omega (arith, A.up y, B.up (L y), A.up (R (L y)))

  both_left : p both ≡ false
  both_left = A.clear (R (L y))

  both_right : q both ≡ false
  both_right =
      by_cases (dec_lt (L y) (R (L y)))
      (λ u. B.over (L y) both u (A.up (R (L y))))
      (λ u.
      let e : R (L y) ≡ L y = omega (arith, B.up (L y)) in
      let f : both ≡ R (L y) = omega (arith, A.up (R (L y)), A.least (R (L y)) (R (L y)) (omega arith) (ap p e ∙ A.clear y)) in
      ap q f ∙ B.clear (L y))

  both-least : (s : ℕ) → y ≤ s → p s ≡ false → q s ≡ false → both ≤ s
  both-least s l f g = A.least (R (L y)) s (B.least (L y) s (A.least y s l f) g) f

-- where there is no copper there is no step
none-past : {copper : ℕ → Bool} → ((y : ℕ) → copper y ≡ false) → Past copper (λ y. y)
none-past bare = record { up = λ y. omega arith; clear = λ y. bare y; least = λ y s l f. l; over = λ y z u l. bare z }

module _ (b e y : ℕ) where
  pub past-below : y < b → y ≡ row_past b e y
  past-below u = rw (lt-ltb y b u)

  pub past-from : b ≤ y → max y e ≡ row_past b e y
  past-from u = rw (le-ltb y b u)

module _ (b e : ℕ) where
  -- the rows from b to before e
  run_past : {copper : ℕ → Bool} → ((y : ℕ) → copper y ≡ true → (b ≤ y) × (y < e)) → ((y : ℕ) → b ≤ y → y < e → copper y ≡ true) → Past copper (row_past b e)
  run_past {copper} within whole = record {
    up = λ y. by_cases (dec_lt y b) (λ u. omega (arith, past-below b e y u)) (λ u. omega (arith, past-from b e y (omega arith)));
    clear = λ y.
        fails (copper (row_past b e y)) (λ t.
        let k = within (row_past b e y) t in
        by_cases (dec_lt y b) (λ u. omega (arith, past-below b e y u)) (λ u. omega (arith, past-from b e y (omega arith))));
    least = λ y s l f.
        by_cases (dec_lt y b)
        (λ u. omega (arith, past-below b e y u))
        (λ u. by_cases (dec_lt s e) (λ v. absurd (never (whole s (omega arith) v) f)) (λ v. omega (arith, past-from b e y (omega arith))));
    over = λ y z u l.
        fails (copper z) (λ t.
        let k = within z t in
        by_cases (dec_lt y b) (λ v. omega (arith, past-below b e y v)) (λ v. omega (arith, past-from b e y (omega arith))));
  }

-- the square to the left of a line
abbrev before : Area → ℕ → ℕ → Bool
before a zero y = false
before a (suc c) y = a c y

before-ends : (a : Area) (l y : ℕ) → before a l y ≡ false → ends_left a y l ≡ true
unfolding ends_left
before-ends a zero y f = refl
before-ends a (suc c) y f = ap not f

before-bare : (a : Area) (l y : ℕ) → ((c : ℕ) → suc c ≡ l → a c y ≡ false) → before a l y ≡ false
before-bare a zero y f = refl
before-bare a (suc c) y f = f c refl

module _ (a : Area) (w h : ℕ) (grid : InGrid w h a) (unbroken : Unbroken a) (low : h ≤ side) {bottoms ends : List ℕ} (R : Reached a w h bottoms ends) where
  column-past : (c : ℕ) → c < w → Past (a c) (row_past (get_or bottoms c 0) (get_or ends c 0))
  column-past c u =
      run_past (get_or bottoms c 0) (get_or ends c 0)
      (λ y t. let k = row-between a h c y (grid c y t).1 t in (omega (arith, R.low c u), omega (arith, R.high c u)))
      (λ y l v. between-row a h c unbroken y (omega (arith, R.low c u)) (omega (arith, R.high c u)))

  left-past : (l : ℕ) → l ≤ w → Past (before a l) (past_left bottoms ends l)
  left-past zero u = none-past (λ y. refl)
  left-past (suc c) u = column-past c (omega arith)

  right_past : (r : ℕ) → Past (a r) (λ y. past_right w bottoms ends r y)
  right_past r =
      by_cases (dec_lt r w)
      (λ u. rw (lt-ltb r w u) (column-past r u))
      (λ u. rw (le-ltb r w (omega arith)) (none-past (λ y. fails (a r y) (λ t. let k = grid r y t in omega arith))))

  module _ (i : Interval) (fits : i.right ≤ w) (row : ℕ) (shows : slice a row i ≡ true) where
    wide : i.left < i.right
    wide = slice-lines a row i shows

    abbrev found : ℕ
    found = both (left-past i.left (omega (arith, wide))) (right_past i.right) (lowest a w h grid unbroken low R i wide fits)

    -- it is not above any row that shows the interval
    found-least : (y : ℕ) → slice a y i ≡ true → found ≤ y
    found-least y t =
        both-least (left-past i.left (omega (arith, wide))) (right_past i.right) (lowest a w h grid unbroken low R i wide fits) y
        (along-between a w h grid unbroken low R i wide fits y (slice-along a y i t)).0
        (before-bare a i.left y (slice-left a y i t))
        (slice_right a y i t)

    -- and shows it itself
    found-shows : slice a found i ≡ true
    found-shows =
        let A = left-past i.left (omega (arith, wide)) in
        let B = right_past i.right in
        let y = lowest a w h grid unbroken low R i wide fits in
        let k = along-between a w h grid unbroken low R i wide fits row (slice-along a row i shows) in
        lines-slice a found i wide
        (between-along a w h grid unbroken low R i wide fits found (both-up A B y) (omega (arith, found-least row shows)))
        (before-ends a i.left found (both_left A B y))
        (both_right A B y)

    row_by_column : row < h → row_between w bottoms ends i ≡ row_found (lowest_shown a h i)
    unfolding lowest_shown
    row_by_column u =
        sym
        (ap row_found
        (first-least (λ y. slice a y i) 0 h found (omega arith) (omega (arith, found-least row shows)) found-shows
        (λ y l v. fails (slice a y i) (λ t. omega (arith, found-least y t)))))

  -- so it is for the whole starting set
  pub rows_by_column : (i : Interval) → member i (starting a w h) ≡ true → row_between w bottoms ends i ≡ row_found (mark_row a h i)
  rows_by_column i m = let s = starting-shown a w h i m in row_by_column i s.3 s.0 s.2 s.1
