-- Marks: each is a copper square, they rise by column, no two fit in one rectangle of copper, and there are as many as flashes.
-- The row of a mark shows its interval, which holds its column; and of two marks the later one's interval does not hold the earlier one's column. Demand 3 uses it.
use mathlib.Core.Path.{◌≡◌, sym, ap, ◌∙◌}
use mathlib.Core.Bool.{true, false}
use mathlib.Core.List.{List}
use mathlib.Core.Logic.{⊎_elim}
use Prim.Native.Nat.{ℕ, ◌<◌}
use native.Mathlib.Omega.{arith}
use lib.ListN.{length, length-map}
use Rattle.lists.proofs.Members.{In}
use Rattle.lists.proofs.Ranges.{map_in}
use Rattle.lists.proofs.Pairs.{Pairs}
use Rattle.lists.proofs.Related.{pairs_in, pairs_weaken, pairs_map}
use Rattle.lists.proofs.Keyed.{keyed_in, keyed_length, keyed_rise}
use Rattle.method.specs.Intervals.{holds}
use Rattle.method.specs.Final.{final}
use Rattle.method.specs.Strike.{Marked, marked}
use Rattle.method.proofs.Lines.{holds-lines}
use Rattle.grid.specs.Squares.{Area, Square, Copper, Independent, Evidence}
use Rattle.cover.specs.Slices.{slice, starting}
use Rattle.cover.specs.Flashes.{flash, flashes}
use Rattle.cover.specs.Marks.{mark, by_column, marks}
use Rattle.cover.proofs.SliceLaws.{slice-copper}
use Rattle.cover.proofs.Starting.{starting-listed, starting-shown, mark-row-shows}
use Rattle.cover.proofs.Independence.{shown-apart, independent_sym, pairs_evidence}
use Rattle.method.proofs.Marks.{marked-length, marked-holds, marked-apart, marked-once}

module _ (a : Area) (w h : ℕ) where
  abbrev found : List Marked
  found = marked w (starting a w h)

  -- the row of a mark shows its interval, which holds its column
  mark-shown : (m : Marked) → In m found → (slice a (mark a h m).row m.interval ≡ true) × (holds m.column m.interval ≡ true)
  unfolding mark
  mark-shown m k =
      let r = marked-holds w (starting a w h) (starting-listed a w h) m k in
      let y = mark-row-shows a w h m.interval r.0 in
      rw y.1 (y.3, r.1)

  mark-fits : (m : Marked) → In m found → (m.column < w) × ((mark a h m).row < h)
  unfolding mark
  mark-fits m k =
      let r = marked-holds w (starting a w h) (starting-listed a w h) m k in
      let s = starting-shown a w h m.interval r.0 in
      let l = holds-lines m.column m.interval r.1 in
      let y = mark-row-shows a w h m.interval r.0 in
      rw y.1 (omega arith, y.2)

  by_column_in : (m : Marked) → In m (by_column w found) → In m found
  unfolding by_column
  by_column_in m k = (keyed_in (λ (x : Marked). x.column) found 0 w k).2

  -- a mark of the list is one that was found
  mark-from : (s : Square) → In s (marks a w h) → (m : Marked) × In m found × (s ≡ mark a h m)
  unfolding marks
  mark-from s k = let r = map_in (mark a h) (by_column w found) k in (r.0, by_column_in r.0 r.1, r.2)

  rising : Pairs (λ x y. x.column < y.column) (by_column w found)
  unfolding by_column
  rising = keyed_rise (λ (x : Marked). x.column) found (marked-once w (starting a w h) (starting-listed a w h)) 0 w

  -- of two marks one was found first, and the later one's interval does not hold its column
  later-apart : (m n : Marked) → In n found → holds m.column n.interval ≡ false → Independent a (mark a h m) (mark a h n)
  unfolding mark
  later-apart m n l f = let s = mark-shown n l in shown-apart a (mark a h m) (mark a h n) n.interval s.0 s.1 f

  apart : (m n : Marked) → In m found → In n found → m.column < n.column → Independent a (mark a h m) (mark a h n)
  apart m n k l u =
      ⊎_elim
      (λ e. absurd (omega (arith, ap (λ (x : Marked). x.column) e)))
      (λ o. ⊎_elim (later-apart m n l) (λ f. independent_sym a (mark a h n) (mark a h m) (later-apart n m k f)) o)
      (pairs_in (λ x y. holds x.column y.interval ≡ false) found (marked-apart w (starting a w h) (starting-listed a w h)) k l)

  pub marks-rise : Pairs (λ s t. s.column < t.column) (marks a w h)
  unfolding marks mark
  marks-rise = pairs_map (λ s t. s.column < t.column) (mark a h) (by_column w found) rising

  pub marks-apart : Pairs (Independent a) (marks a w h)
  unfolding marks
  marks-apart =
      pairs_map (Independent a) (mark a h) (by_column w found)
      (pairs_weaken (λ x y. x.column < y.column) (λ x y. Independent a (mark a h x) (mark a h y)) (by_column w found)
      (λ m n k l u. apart m n (by_column_in m k) (by_column_in n l) u)
      rising)

  pub mark-copper : (s : Square) → In s (marks a w h) → Copper a s
  unfolding mark
  mark-copper s k =
      let r = mark-from s k in
      let t = mark-shown r.0 r.1 in
      rw r.2 (slice-copper a (mark a h r.0).row r.0.interval t.0 r.0.column t.1)

  pub marks_evidence : Evidence a (marks a w h)
  marks_evidence = pairs_evidence a (marks a w h) mark-copper marks-apart

  pub marks-fit : (s : Square) → In s (marks a w h) → (s.column < w) × (s.row < h)
  unfolding mark
  marks-fit s k = let r = mark-from s k in rw r.2 (mark-fits r.0 r.1)

  -- as many as flashes
  pub marks-flashes : length (marks a w h) ≡ length (flashes a w h)
  unfolding marks by_column flashes
  marks-flashes =
      length-map (by_column w found) (mark a h)
      ∙ keyed_length (λ (x : Marked). x.column) found 0 w (λ m k. let b = mark-fits m k in omega arith)
      ∙ marked-length w (starting a w h) (starting-listed a w h)
      ∙ sym (length-map (final w (starting a w h)) (flash a h))
