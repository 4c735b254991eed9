-- The work on an area gives what document 01 says: the final set's flashes and the marks, or the first marks where the flashes are more than the allowance.
-- There are no more flashes than columns, and as many marks, so counts and rooms suffice. `cover_columns` uses it.
use mathlib.Core.Path.{◌≡◌, sym, ap, subst, ◌∙◌}
use mathlib.Core.Bool.{true}
use mathlib.Core.List.{List, map}
use Prim.Native.Nat.{ℕ, ◌+◌, ◌≤◌, ◌<◌}
use native.Mathlib.Numerals.{add-one}
use native.Mathlib.Omega.{arith}
use lib.ListN.{length, take, length-map}
use lib.Seq.{take_all}
use borrow.Author.Tests.{lt-ltb, le-ltb}
use Rattle.lists.proofs.Maps.{map_same}
use Rattle.method.specs.Intervals.{Interval, member}
use Rattle.method.specs.Final.{final}
use Rattle.method.proofs.Final.{final-listed}
use Rattle.method.proofs.Listed.{in_member}
use Rattle.method.proofs.Marks.{final-short}
use Rattle.grid.specs.Limits.{side}
use Rattle.grid.specs.Squares.{Area, Rectangle, InGrid, Unbroken, copper_number}
use Rattle.columns.specs.Columns.{Reached}
use Rattle.intervals.specs.Table.{set_of, table_of}
use Rattle.intervals.proofs.TableLaws.{set-table}
use Rattle.cover.specs.Slices.{starting}
use Rattle.cover.specs.Flashes.{flash, flashes, flashed_area}
use Rattle.cover.specs.Marks.{marks}
use Rattle.cover.specs.Records.{flashes_written, marks_written}
use Rattle.cover.specs.Cover.{answered}
use Rattle.cover.specs.Code.{flash_between, AllStand, FlashesDone, MarksDone, short_of, covered_of}
use Rattle.cover.specs.declared.entry.Outcome.{Outcome}
use Rattle.cover.specs.declared.flashes.Flashed.{Flashed}
use Rattle.cover.proofs.Starting.{starting-listed}
use Rattle.cover.proofs.HeightsByColumn.{stands, by_column_lem}
use Rattle.cover.proofs.Covering.{final-lines, final-along, flashes-short}
use Rattle.cover.proofs.MarkLaws.{marks-flashes}

-- the same flashes, told otherwise
pub done_as : {ps qs : List Rectangle} {f f' : List ℕ} {d : Flashed} → ps ≡ qs → FlashesDone ps f d f' → FlashesDone qs f d f'
done_as {f = f} {f' = f'} {d = d} e A = subst (λ z. FlashesDone z f d f') e A

module _ (a : Area) (w h : ℕ) (fits : w ≤ side) where
  -- as many flashes as intervals
  work_size : {n : ℕ} → n ≡ length (final w (starting a w h)) → n ≡ length (flashes a w h)
  unfolding flashes
  work_size e = e ∙ sym (length-map (final w (starting a w h)) (flash a h))

  -- the final set in its table
  module _ {t : List ℕ} (q : t ≡ table_of (final w (starting a w h))) where
    work_set : set_of w t ≡ final w (starting a w h)
    work_set = ap (set_of w) q ∙ set-table w (final w (starting a w h)) fits (final-listed w (starting a w h) (starting-listed a w h))

    pub work_short : length (set_of w t) ≤ side
    work_short = omega (arith, ap length work_set, final-short w (starting a w h) (starting-listed a w h))

    work_flashes : map (flash a h) (set_of w t) ≡ flashes a w h
    unfolding flashes
    work_flashes = ap (map (flash a h)) work_set

    -- by bottoms and ends: each interval stands, and its rectangle is its flash
    module _ (grid : InGrid w h a) (unbroken : Unbroken a) (low : h ≤ side) {bottoms ends : List ℕ} (R : Reached a w h bottoms ends) where
      of_final : (i : Interval) → member i (set_of w t) ≡ true → member i (final w (starting a w h)) ≡ true
      of_final i m = ap (member i) (sym work_set) ∙ m

      pub work_stands : AllStand bottoms ends (set_of w t)
      work_stands i m =
          let l = final-lines a w h i (of_final i m) in
          let y = final-along a w h i (of_final i m) in
          stands a w h grid unbroken low R i l.0 l.1 y.0 y.1 fits

      pub work_by_column : map (flash_between bottoms ends) (set_of w t) ≡ map (flash a h) (set_of w t)
      work_by_column =
          map_same (flash_between bottoms ends) (flash a h) (set_of w t)
          (λ i m.
          let k = of_final i (in_member m) in
          let l = final-lines a w h i k in
          let y = final-along a w h i k in
          by_column_lem a w h grid unbroken low R i l.0 l.1 y.0 y.1)

    module _ {k n : ℕ} (size : n ≡ length (final w (starting a w h))) where
      -- more flashes than the allowance
      pub work_refused : {f m m' : List ℕ} {r : ℕ} {o : Outcome} → k < n → o ≡ short_of r → MarksDone (take (k + 1) (marks a w h)) m r m'
          → record { outcome = o; flashes_after = f; marks_after = m' } ≡ answered a w h k f m
      work_refused {f} {m} u e A =
          let c = A.counted ∙ ap (λ j. length (take j (marks a w h))) (add-one k) in
          let b = A.room ∙ ap (λ j. marks_written (take j (marks a w h)) m) (add-one k) in
          rw (lt-ltb k (length (flashes a w h)) (omega (arith, work_size size)))
          (λ i. record { outcome = (e ∙ ap short_of c) i; flashes_after = f; marks_after = b i })

      -- flashes within the allowance
      pub work_done : {f f' m m' : List ℕ} {r : ℕ} {d : Flashed} {o : Outcome} → n ≤ k → o ≡ covered_of (copper_number a w h) d r
          → FlashesDone (map (flash a h) (set_of w t)) f d f' → MarksDone (take side (marks a w h)) m r m'
          → record { outcome = o; flashes_after = f'; marks_after = m' } ≡ answered a w h k f m
      work_done {f} {m = m} u e A B =
          let all = take_all side (marks a w h) (omega (arith, marks-flashes a w h, flashes-short a w h)) in
          let c = A.count ∙ ap length work_flashes in
          let o = A.area ∙ ap flashed_area work_flashes in
          let x = A.room ∙ ap (λ qs. flashes_written qs f) work_flashes in
          let l = B.counted ∙ ap length all in
          let y = B.room ∙ ap (λ ss. marks_written ss m) all in
          rw (le-ltb k (length (flashes a w h)) (omega (arith, work_size size)))
          (λ i. record { outcome = (e ∙ (λ j. covered_of (copper_number a w h) (record { count = c j; area = o j }) (l j))) i; flashes_after = x i; marks_after = y i })
