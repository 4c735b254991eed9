-- The next slice that the code finds: where there is one it is put, and no slice is cut at its right line; where there is none, no touched column is left.
-- By what the three searches find. `put_changed` uses it.
use mathlib.Core.Path.{◌≡◌, refl, subst}
use mathlib.Core.Bool.{Bool, true, false}
use mathlib.Core.List.{List}
use Prim.Native.Nat.{ℕ, ◌-◌, ◌≤◌, ◌<◌}
use lib.Dec.{leb}
use borrow.Author.Tests.{leb-true, leb-false}
use Rattle.std.proofs.Common.{Option, Some, None}
use Rattle.lists.specs.Lists.{first, from}
use Rattle.lists.proofs.Truth.{bcase}
use Rattle.method.specs.Intervals.{Interval}
use Rattle.grid.specs.Code.{or_end}
use Rattle.grid.specs.Lines.{span_of}
use Rattle.grid.specs.declared.lines.Interval.{Interval as Lines}
use Rattle.words.specs.Words.{bits}
use Rattle.intervals.specs.Table.{with}
use Rattle.cover.specs.Code.{slice_at, next_slice}
use Rattle.cover.proofs.ChangedRow.{changed_to, none_left, next-on, next_edge, put_next}

module _ (row touched : ℕ → Bool) (w c : ℕ) (narrow : w ≤ bits) where
  abbrev next : ℕ
  next = or_end bits (first touched (from c (bits - c)))

  pub none-next : next_slice row touched w c ≡ None → (x : ℕ) → c ≤ x → x < w → touched x ≡ false
  none-next e =
      bcase (leb w next)
      (λ t. none_left row touched w bits c next narrow refl (leb-true w next t))
      (λ t. let some : ◌≡◌ {A = Option Lines} (Some (slice_at row next)) None = rw t at e in cc)

  slice_found : (i : Lines) → next_slice row touched w c ≡ Some i → (next < w) × (slice_at row next ≡ i)
  slice_found i e =
      bcase (leb w next)
      (λ t. let none : ◌≡◌ {A = Option Lines} None (Some i) = rw t at e in cc)
      (λ t. let some : ◌≡◌ {A = Option Lines} (Some (slice_at row next)) (Some i) = rw t at e in (leb-false w next t, cc))

  -- the slice is put behind those before it
  pub record Put (i : Lines) : Type 0 where
    pub onward : c < i.right.0
    pub within : i.right.0 ≤ w
    pub edge : row i.right.0 ≡ false
    pub put : (s : List Interval) → with w (span_of i) (changed_to row touched w s c) ≡ changed_to row touched w s i.right.0

  pub some_next : ((x : ℕ) → touched x ≡ true → row x ≡ true) → row w ≡ false → (0 < c → row c ≡ false) → (i : Lines) → next_slice row touched w c ≡ Some i → Put i
  some_next copper bare edge i e =
      let t = slice_found i e in
      let j = slice_at row next in
      let way = next-on row touched w bits c next narrow refl copper bare edge t.0 j.left.0 j.right.0 refl refl in
      subst Put t.1
      (record {
        onward = way.0;
        within = way.1;
        edge = next_edge row touched w bits c next narrow refl copper bare edge t.0 j.left.0 j.right.0 refl refl;
        put = put_next row touched w bits c next narrow refl copper bare edge t.0 j.left.0 j.right.0 refl refl;
      })
