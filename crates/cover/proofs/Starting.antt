-- The starting set: listed, its members are exactly the intervals that some row shows, and each copper square lies in one that its own row shows.
-- A selection by a test, read back; flashes, marks and demands use it.
use mathlib.Core.Path.{◌≡◌, sym, ◌∙◌}
use mathlib.Core.Bool.{true, false, ◌&&◌}
use mathlib.Core.Option.{some}
use Prim.Native.Nat.{ℕ, ◌-◌, ◌≤◌, ◌<◌}
use native.Mathlib.Omega.{arith}
use lib.Dec.{leb}
use borrow.Author.Tests.{leb-true, le-leb}
use Rattle.lists.proofs.Truth.{fails, and_left, and_right, and_both}
use Rattle.method.specs.Intervals.{Interval, proper, holds, inside, member}
use Rattle.method.specs.Runs.{Listed}
use Rattle.method.proofs.Lines.{lines-proper, lines_hold}
use Rattle.method.proofs.Listed.{member-select, select-listed}
use Rattle.grid.specs.Squares.{Area, InGrid}
use Rattle.cover.specs.Slices.{copper_along, slice, shown, starting, mark_row}
use Rattle.cover.proofs.Shown.{shown_by, shown-row, lowest-shows, shown-lowest}
use Rattle.cover.proofs.SliceLaws.{part-along, slice-lines, slice-along, slice-copper, slice_of}

module _ (a : Area) (w h : ℕ) where
  pub starting-listed : Listed w (starting a w h)
  unfolding starting
  starting-listed = select-listed w (shown a h)

  pub starting-shown : (i : Interval) → member i (starting a w h) ≡ true → (y : ℕ) × (y < h) × (slice a y i ≡ true) × (i.right ≤ w)
  unfolding starting
  starting-shown i t =
      let s = sym (member-select w (shown a h) i) ∙ t in
      let r = shown-row a h i (and_right (proper i && leb i.right w) (shown a h i) s) in
      (r.0, r.1, r.2, leb-true i.right w (and_right (proper i) (leb i.right w) (and_left (proper i && leb i.right w) (shown a h i) s)))

  pub shown-starting : (i : Interval) (y : ℕ) → y < h → slice a y i ≡ true → i.right ≤ w → member i (starting a w h) ≡ true
  unfolding starting
  shown-starting i y u s r =
      member-select w (shown a h) i
      ∙ and_both (proper i && leb i.right w) (shown a h i)
      (and_both (proper i) (leb i.right w) (lines-proper i (slice-lines a y i s)) (le-leb i.right w r))
      (shown_by a h i y u s)

  -- some row is copper along whatever lies inside a member
  pub inside-along : (j i : Interval) → member j (starting a w h) ≡ true → inside j i ≡ true → (y : ℕ) × (copper_along a y i ≡ true)
  inside-along j i m t = let s = starting-shown j m in (s.0, part-along a s.0 j i t (slice-along a s.0 j s.2))

  -- the row of a mark is one that shows its interval
  pub mark-row-shows : (i : Interval) → member i (starting a w h) ≡ true → (y : ℕ) × (mark_row a h i ≡ some y) × (y < h) × (slice a y i ≡ true)
  mark-row-shows i t =
      let r = starting-shown i t in
      let y = shown-lowest a h i (shown_by a h i r.0 r.1 r.2) in
      let s = lowest-shows a h i y.1 in
      (y.0, y.1, s.0, s.1)

  module _ (grid : InGrid w h a) where
    pub bare-row : (y : ℕ) → a w y ≡ false
    bare-row y = fails (a w y) (λ t. let b = grid w y t in omega arith)

    -- a slice of any row is a member
    pub slice-starting : (i : Interval) (y : ℕ) → slice a y i ≡ true → member i (starting a w h) ≡ true
    slice-starting i y s =
        let l = slice-lines a y i s in
        let b = grid (i.right - 1) y (slice-copper a y i s (i.right - 1) (lines_hold (i.right - 1) i (omega arith) (omega arith))) in
        shown-starting i y b.1 s (omega arith)

    -- each copper square lies in a slice of its row, and that is a member
    pub square-starting : (c y : ℕ) → a c y ≡ true → (i : Interval) × (member i (starting a w h) ≡ true) × (slice a y i ≡ true) × (holds c i ≡ true)
    square-starting c y t =
        let b = grid c y t in
        let r = slice_of a w c y t (omega arith) (bare-row y) in
        (r.0, shown-starting r.0 y b.1 r.1 r.3, r.1, r.2)
