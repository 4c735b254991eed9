-- The flashes cover the area: each lies in the copper, since its interval lies in a slice; each copper square lies in one, since the slice of its row is
-- made up of intervals of the final set, and the square's row is copper along each of them. Demands 2 and 3 use it.
use mathlib.Core.Path.{◌≡◌}
use mathlib.Core.Bool.{true}
use Prim.Native.Nat.{ℕ, ◌≤◌, ◌<◌}
use native.Mathlib.Omega.{arith}
use lib.ListN.{length, length-map}
use Rattle.lists.proofs.Members.{In}
use Rattle.lists.proofs.Pairs.{in_at}
use Rattle.lists.proofs.Positions.{at_in}
use Rattle.lists.proofs.Ranges.{in_map, map_in}
use Rattle.method.specs.Intervals.{Interval, holds, member}
use Rattle.method.specs.Final.{final}
use Rattle.method.proofs.Lines.{holds-lines}
use Rattle.method.proofs.Listed.{member_in, in_member, listed-lines}
use Rattle.grid.specs.Squares.{Area, InGrid, Square, Rectangle, Within, InCopper, Copper, Cover, Unbroken, rectangle_at}
use Rattle.cover.specs.Slices.{copper_along, starting}
use Rattle.cover.specs.Flashes.{flash, flashes}
use Rattle.cover.proofs.SliceLaws.{part-along, slice-along}
use Rattle.cover.proofs.Starting.{starting-listed, inside-along, square-starting}
use Rattle.cover.proofs.Heights.{top_in_grid, heights, flash_in_copper}
use Rattle.method.proofs.Final.{final-listed, final-within, final_generates}
use Rattle.method.proofs.Marks.{final-short}

module _ (a : Area) (w h : ℕ) where
  -- an interval of the final set lies within the width, and some row is copper along it
  pub final-lines : (i : Interval) → member i (final w (starting a w h)) ≡ true → (i.left < i.right) × (i.right ≤ w)
  final-lines = listed-lines w (final w (starting a w h)) (final-listed w (starting a w h) (starting-listed a w h))

  pub final-along : (i : Interval) → member i (final w (starting a w h)) ≡ true → (y : ℕ) × (copper_along a y i ≡ true)
  final-along i m =
      let j = final-within w (starting a w h) (starting-listed a w h) i m in
      inside-along a w h j.0 i j.1 j.2

  -- a flash of the list is that of an interval of the final set
  pub flash-from : (q : Rectangle) → In q (flashes a w h) → (i : Interval) × (member i (final w (starting a w h)) ≡ true) × (q ≡ flash a h i)
  unfolding flashes
  flash-from q m = let r = map_in (flash a h) (final w (starting a w h)) m in (r.0, in_member r.1, r.2)

  pub flash_of_lem : (i : Interval) → member i (final w (starting a w h)) ≡ true → In (flash a h i) (flashes a w h)
  unfolding flashes
  flash_of_lem i t = in_map (flash a h) (member_in i (final w (starting a w h)) t)

  pub flashes-short : length (flashes a w h) ≤ w
  unfolding flashes
  flashes-short = omega (arith, length-map (final w (starting a w h)) (flash a h), final-short w (starting a w h) (starting-listed a w h))

  module _ (grid : InGrid w h a) (unbroken : Unbroken a) where
    -- the flash of an interval holds the squares of its columns in every row that is copper along it
    flash-holds : (i : Interval) (s : Square) → holds s.column i ≡ true → copper_along a s.row i ≡ true → Within (flash a h i) s
    unfolding flash
    flash-holds i s m t =
        let l = holds-lines s.column i m in
        let b = (heights a w h grid unbroken i (omega arith) s.row t s.row).0 t in
        record { from-left = l.0; to-right = omega arith; from-below = b.0; to-above = b.1 }

    pub flash-copper : (q : Rectangle) → In q (flashes a w h) → InCopper a q
    flash-copper q m =
        let r = flash-from q m in
        let y = final-along r.0 r.1 in
        rw r.2 (flash_in_copper a w h grid unbroken r.0 (final-lines r.0 r.1).0 y.0 y.1)

    -- within the grid
    pub flash-fits : (q : Rectangle) → In q (flashes a w h) → (q.last < w) × (q.top < h)
    unfolding flash
    flash-fits q m =
        let r = flash-from q m in
        let y = final-along r.0 r.1 in
        let l = final-lines r.0 r.1 in
        rw r.2 (omega arith, top_in_grid a w h grid unbroken r.0 l.0 y.0 y.1)

    flash_of_square : (s : Square) → Copper a s → (k : ℕ) × (k < length (flashes a w h)) × Within (rectangle_at (flashes a w h) k) s
    flash_of_square s t =
        let o = square-starting a w h grid s.column s.row t in
        let g = final_generates w (starting a w h) (starting-listed a w h) o.0 s.column o.1 o.3 in
        let along = part-along a s.row o.0 g.0 g.3 (slice-along a s.row o.0 o.2) in
        let p = at_in (record { first = 0; last = 0; bottom = 0; top = 0 }) (flash_of_lem g.0 g.1) in
        (p.0, p.1, rw p.2 (flash-holds g.0 s g.2 along))

    pub flashes-cover : Cover a (flashes a w h)
    flashes-cover = record {
      inside = λ k u. flash-copper (rectangle_at (flashes a w h) k) (in_at (flashes a w h) (record { first = 0; last = 0; bottom = 0; top = 0 }) k u);
      whole = flash_of_square;
    }
