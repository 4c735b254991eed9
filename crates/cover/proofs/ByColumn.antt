-- The marks that are noted by column are the marks by column: no column is marked twice, so none that is noted is overwritten.
-- Of each column the list of marks has the one mark that was found for it, or none. `cover_area` uses it.
use mathlib.Core.Path.{◌≡◌, refl, sym, ap, ◌∙◌}
use mathlib.Core.Bool.{true, false, cond}
use mathlib.Core.List.Memᴰ
use mathlib.Core.List.{List, [], ◌∷◌, map}
use mathlib.Core.Logic.{by_cases}
use Prim.Native.Nat.{ℕ, ◌+◌, ◌*◌, ◌≤◌, ◌<◌}
use native.Mathlib.Omega.{arith}
use native.Mathlib.Decide.{ℕ_discrete}
use lib.Dec.{eqb}
use lib.ListN.{length, get_or, replicate, length-replicate, get_or-replicate}
use borrow.Author.Tests.{eq-eqb, ne_eqb, le-ltb}
use Rattle.lists.specs.Lists.{keep, up_to}
use Rattle.lists.proofs.Members.{In}
use Rattle.lists.proofs.Keep.{keep-none}
use Rattle.lists.proofs.Pairs.{Pairs}
use Rattle.lists.proofs.Ranges.{from_in, gather-same}
use Rattle.lists.proofs.Maps.{map-gather}
use Rattle.method.specs.Intervals.{Interval, proper, member}
use Rattle.method.specs.Strike.{Marked, marked}
use Rattle.method.proofs.Lines.{lines-proper, holds-lines}
use Rattle.method.proofs.Listed.{listed-lines}
use Rattle.method.proofs.Marks.{marked-holds, marked-once}
use Rattle.grid.specs.Limits.{bracket_record}
use Rattle.grid.specs.Rooms.{written}
use Rattle.grid.specs.Squares.{Area}
use Rattle.grid.proofs.Writing.{length-written}
use Rattle.intervals.specs.Finished.{bracket_bytes}
use Rattle.counts.specs.Spans.{span_in}
use Rattle.counts.specs.Marks.{noted_for}
use Rattle.counts.proofs.SpanLaws.{written-here, written_elsewhere}
use Rattle.cover.specs.Slices.{starting, mark_row}
use Rattle.cover.specs.Flashes.{row_found}
use Rattle.cover.specs.Marks.{mark, by_column, marks}
use Rattle.cover.specs.Code.{NotedTo, marked_in, marks_noted}
use Rattle.cover.proofs.Starting.{starting-listed}

-- no column twice
abbrev Distinct : List Marked → Type 0
Distinct ms = Pairs (λ m n. m.column ≡ n.column → ⊥) ms

-- each with an interval, and a record in the room
abbrev Whole : List Marked → ℕ → Type 0
Whole ms n = (m : Marked) → In m ms → (proper m.interval ≡ true) × (m.column * bracket_record + bracket_record ≤ n)

-- each on the row that a rule says
abbrev Ruled : Area → ℕ → (Interval → ℕ) → List Marked → Type 0
Ruled a h rows ms = (m : Marked) → In m ms → rows m.interval ≡ row_found (mark_row a h m.interval)

module _ (a : Area) (h : ℕ) (rows : Interval → ℕ) (c : ℕ) where
  -- a column without a mark keeps what it has
  unmarked : (ms : List Marked) (room : List ℕ) → Whole ms (length room) → ((m : Marked) → In m ms → m.column ≡ c → ⊥) → span_in (noted_for ms room) c ≡ span_in room c
  unfolding noted_for
  unmarked [] room w d = refl
  unmarked (m ∷ ms) room w d =
      let fits = (w m (Memᴰ.head refl)).1 in
      unmarked ms (written room (m.column * bracket_record) (bracket_bytes m.interval))
      (λ x k. let y = w x (Memᴰ.tail k) in (y.0, omega (arith, y.1, length-written room (m.column * bracket_record) (bracket_bytes m.interval) (omega arith))))
      (λ x k. d x (Memᴰ.tail k))
      ∙ written_elsewhere room m.column m.interval fits c (λ e. d m (Memᴰ.head refl) (sym e))

  -- what is noted of a column, and the marks of that column
  one-mark : (m : Marked) (room : List ℕ) → m.column ≡ c → proper m.interval ≡ true → rows m.interval ≡ row_found (mark_row a h m.interval)
      → span_in room c ≡ m.interval → marked_in rows room c ≡ mark a h m ∷ []
  unfolding mark
  one-mark m room e p r v =
      ap (λ (i : Interval). cond (proper i) (record { column = c; row = rows i } ∷ []) []) v
      ∙ rw p (λ j. record { column = sym e j; row = r j } ∷ [])

  column-noted : (ms : List Marked) (room : List ℕ) → Distinct ms → Whole ms (length room) → Ruled a h rows ms → proper (span_in room c) ≡ false
      → marked_in rows (noted_for ms room) c ≡ map (mark a h) (keep (λ m. eqb m.column c) ms)
  unfolding noted_for
  column-noted [] room d w k z = rw z
  column-noted (m ∷ ms) room d w k z =
      let here = w m (Memᴰ.head refl) in
      let room' = written room (m.column * bracket_record) (bracket_bytes m.interval) in
      let long = length-written room (m.column * bracket_record) (bracket_bytes m.interval) (omega arith) in
      let rest : Whole ms (length room') = λ x q. let y = w x (Memᴰ.tail q) in (y.0, omega (arith, y.1)) in
      by_cases (ℕ_discrete m.column c)
      (λ e.
      let apart : (x : Marked) → In x ms → x.column ≡ c → ⊥ = λ x q f. d.0 x q (e ∙ sym f) in
      rw (eq-eqb m.column c e, keep-none (λ x. eqb x.column c) ms (λ x q. ne_eqb x.column c (apart x q)))
      (one-mark m (noted_for ms room') e here.0 (k m (Memᴰ.head refl))
      (unmarked ms room' rest apart ∙ sym (ap (span_in room') e) ∙ written-here room m.column m.interval here.1)))
      (λ e.
      rw (ne_eqb m.column c e)
      (column-noted ms room' d.1 rest (λ x q. k x (Memᴰ.tail q)) (ap proper (written_elsewhere room m.column m.interval here.1 c (λ f. e (sym f))) ∙ z)))

  -- whatever is noted ends at line n at the latest
  column-within : (n : ℕ) (ms : List Marked) (room : List ℕ) → Whole ms (length room) → ((m : Marked) → In m ms → m.interval.right ≤ n) → (span_in room c).right ≤ n
      → (span_in (noted_for ms room) c).right ≤ n
  unfolding noted_for
  column-within n [] room w k z = z
  column-within n (m ∷ ms) room w k z =
      let here = w m (Memᴰ.head refl) in
      let room' = written room (m.column * bracket_record) (bracket_bytes m.interval) in
      let long = length-written room (m.column * bracket_record) (bracket_bytes m.interval) (omega arith) in
      let now : (span_in room' c).right ≤ n =
      by_cases (ℕ_discrete m.column c)
      (λ e. omega (arith, ap (λ (i : Interval). i.right) (sym (ap (span_in room') e) ∙ written-here room m.column m.interval here.1), k m (Memᴰ.head refl)))
      (λ e. omega (arith, ap (λ (i : Interval). i.right) (written_elsewhere room m.column m.interval here.1 c (λ f. e (sym f))))) in
      column-within n ms room' (λ x q. let y = w x (Memᴰ.tail q) in (y.0, omega (arith, y.1))) (λ x q. k x (Memᴰ.tail q)) now

-- a room of zeros has no interval
none-noted : (n c : ℕ) → c * bracket_record + bracket_record ≤ n → proper (span_in (replicate n 0) c) ≡ false
none-noted n c u =
    let l = get_or-replicate {A = ℕ} n (c * bracket_record) 0 0 (omega arith) in
    let r = get_or-replicate {A = ℕ} n (c * bracket_record + 1) 0 0 (omega arith) in
    le-ltb (get_or (replicate n 0) (c * bracket_record) 0) (get_or (replicate n 0) (c * bracket_record + 1) 0) (omega arith)

module _ (a : Area) (w h n : ℕ) (long : w * bracket_record ≤ n) where
  abbrev found : List Marked
  found = marked w (starting a w h)

  found-lines : (m : Marked) → In m found → (m.interval.left < m.interval.right) × (m.interval.right ≤ w) × (m.column < m.interval.right)
  found-lines m q =
      let o = marked-holds w (starting a w h) (starting-listed a w h) m q in
      let i = listed-lines w (starting a w h) (starting-listed a w h) m.interval o.0 in
      (i.0, i.1, (holds-lines m.column m.interval o.1).1)

  found-whole : Whole found (length {A = ℕ} (replicate n 0))
  found-whole m q = let l = found-lines m q in (lines-proper m.interval l.0, omega (arith, length-replicate {A = ℕ} n 0))

  -- every column at once, from zeros on, by a rule that says the rows of the starting set
  pub marks-noted : (rows : Interval → ℕ) → ((i : Interval) → member i (starting a w h) ≡ true → rows i ≡ row_found (mark_row a h i))
      → marks_noted rows (noted_for found (replicate n 0)) w ≡ marks a w h
  unfolding marks_noted marks by_column
  marks-noted rows rule =
      gather-same (marked_in rows (noted_for found (replicate n 0))) (λ c. map (mark a h) (keep (λ m. eqb m.column c) found)) (up_to w)
      (λ c k.
      let b = from_in 0 w k in
      column-noted a h rows c found (replicate n 0) (marked-once w (starting a w h) (starting-listed a w h)) found-whole
      (λ m q. rule m.interval (marked-holds w (starting a w h) (starting-listed a w h) m q).0)
      (none-noted n c (omega arith)))
      ∙ sym (map-gather (mark a h) (λ c. keep (λ m. eqb m.column c) found) (up_to w))

  pub noted-to : NotedTo w (noted_for found (replicate n 0))
  noted-to c u =
      column-within a h (λ i. 0) c w found (replicate n 0) found-whole (λ m q. (found-lines m q).1)
      (omega (arith, get_or-replicate {A = ℕ} n (c * bracket_record + 1) 0 0 (omega arith)))
