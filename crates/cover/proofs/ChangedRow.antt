-- One row's slices beside a change, found from the left: the next touched column, and from it the run of copper to both sides.
-- Every slice that begins at or after `at` and has a touched column is that run or begins after it. `put_changed` uses it.
use mathlib.Core.Path.{◌≡◌, sym, ap, ◌∙◌}
use mathlib.Core.Bool.{Bool, true, false, not, cond, ◌&&◌, ◌||◌, and-true, and-false, or-true, or-false}
use mathlib.Core.List.{List}
use mathlib.Core.Logic.{by_cases}
use mathlib.Core.Option.{some}
use Prim.Native.Nat.{ℕ, suc, ◌-◌, ◌≤◌, ◌<◌}
use native.Mathlib.Omega.{arith}
use native.Mathlib.Decide.{dec_le, dec_lt, ℕ_discrete}
use lib.Dec.{ltb}
use borrow.Author.Tests.{lt-ltb, le-ltb, le-leb, not-true, not-false}
use Rattle.lists.specs.Lists.{any, first, from, down}
use Rattle.lists.proofs.Truth.{bcase, ocase, never, and_left, and_right, and_both}
use Rattle.lists.proofs.Searches.{any-within, any_where, first-within, first-missed, down-within, down-missed, down_above}
use Rattle.lists.proofs.Ranges.{from_in, first-from}
use Rattle.lists.proofs.Members.{any_same}
use Rattle.method.specs.Intervals.{Interval, span, same, member, columns, select}
use Rattle.method.specs.Runs.{Listed}
use Rattle.method.proofs.Lines.{same_path, path_same, lines-proper, lines_hold}
use Rattle.method.proofs.Listed.{member-select, select-same, select-listed}
use Rattle.grid.specs.Limits.{side}
use Rattle.grid.specs.Squares.{Area}
use Rattle.grid.specs.Code.{or_end}
use Rattle.grid.proofs.Next.{end-some}
use Rattle.words.specs.Words.{past_of}
use Rattle.intervals.specs.Table.{set_of, table_of, changed, with}
use Rattle.intervals.proofs.TableLaws.{left_as}
use Rattle.cover.specs.Slices.{ends_left, slice}
use Rattle.cover.specs.Code.{beside, with_changed}
use Rattle.cover.proofs.SliceLaws.{slice-copper, slice-same, lines-slice, copper-along}

-- a row, the columns that are touched in it, and the set that the slices go into
module _ (row touched : ℕ → Bool) (w : ℕ) (s : List Interval) where
  abbrev area : Area
  area c y = row c

  abbrev run : Interval → Bool
  run i = slice area 0 i && any touched (columns i)

  -- what is in the table when the row has been gone through up to line c
  unfoldable pub changed_to : ℕ → List Interval
  changed_to c = select w (λ i. member i s || (run i && ltb i.left c))

  pub changed-listed : (c : ℕ) → Listed w (changed_to c)
  unfolding changed_to
  changed-listed c = select-listed w (λ i. member i s || (run i && ltb i.left c))

  pub changed-none : Listed w s → s ≡ changed_to 0
  unfolding changed_to
  changed-none listed =
      listed
      ∙ select-same w (λ i. member i s) (λ i. member i s || (run i && ltb i.left 0))
      (λ i l r. rw (le-ltb i.left 0 (omega arith), and-false (run i)) (sym (or-false (member i s))))

  member-changed : (c : ℕ) (j : Interval) → j.left < j.right → j.right ≤ w → member j (changed_to c) ≡ (member j s || (run j && ltb j.left c))
  unfolding changed_to
  member-changed c j l r =
      member-select w (λ i. member i s || (run i && ltb i.left c)) j
      ∙ rw (lines-proper j l, le-leb j.right w r)

  -- a touched column of a run
  touched_in : (i : Interval) → i.left < i.right → run i ≡ true → (x : ℕ) × (i.left ≤ x) × (x < i.right) × (touched x ≡ true)
  touched_in i l t = let r = any_where touched i.left (i.right - i.left) (and_right (slice area 0 i) (any touched (columns i)) t) in (r.0, r.1, omega arith, r.3)

  -- no touched column is left
  pub changed-all : (c : ℕ) → ((x : ℕ) → c ≤ x → x < w → touched x ≡ false) → changed_to c ≡ select w (λ i. member i s || run i)
  unfolding changed_to
  changed-all c left =
      select-same w (λ i. member i s || (run i && ltb i.left c)) (λ i. member i s || run i)
      (λ i l r.
      ap (λ b. member i s || b)
      (bcase (run i)
      (λ t.
      rw t
      (lt-ltb i.left c
      (by_cases (dec_lt i.left c) (λ z. z) (λ z. let x = touched_in i l t in absurd (never x.3 (left x.0 (omega arith) (omega arith)))))))
      (λ t. rw t)))

  -- from line c on the first touched column m, and the run from f to e that holds it; at line c no slice was cut in two
  module _ {c m f e : ℕ} (ordered : (c ≤ f) × (f ≤ m) × (m < e) × (e ≤ w)) (before : (x : ℕ) → c ≤ x → x < m → touched x ≡ false) (here : touched m ≡ true)
      (start : ends_left area 0 f ≡ true) (along : (x : ℕ) → f ≤ x → x < e → row x ≡ true) (stop : row e ≡ false) where
    next-slice : slice area 0 (span f e) ≡ true
    next-slice = lines-slice area 0 (span f e) (omega arith) (copper-along area 0 (span f e) along) start stop

    next-run : run (span f e) ≡ true
    next-run = and_both (slice area 0 (span f e)) (any touched (columns (span f e))) next-slice (any-within touched f (e - f) m (omega arith) (omega arith) here)

    only-run : (i : Interval) → i.left < i.right → run i ≡ true → c ≤ i.left → i.left < e → i ≡ span f e
    only-run i p t l r =
        let s = and_left (slice area 0 i) (any touched (columns i)) t in
        let x = touched_in i p t in
        let q : m ≤ x.0 = by_cases (dec_le m x.0) (λ z. z) (λ z. absurd (never x.3 (before x.0 (omega arith) (omega arith)))) in
        let u : x.0 < e = by_cases (dec_lt x.0 e) (λ z. z) (λ z. absurd (never (slice-copper area 0 i s e (lines_hold e i (omega arith) (omega arith))) stop)) in
        slice-same area 0 x.0 i (span f e) s next-slice (lines_hold x.0 i x.1 x.2) (lines_hold x.0 (span f e) (omega arith) u)

    pub changed_put : with w (span f e) (changed_to c) ≡ changed_to e
    unfolding changed_to changed
    changed_put =
        select-same w (λ j. cond (same (span f e) j) true (member j (changed_to c))) (λ j. member j s || (run j && ltb j.left e))
        (λ j l r.
        bcase (same (span f e) j)
        (λ t.
        let q = same_path (span f e) j t in
        let k = ap (λ (i : Interval). i.left) q in
        rw (t, sym (ap run q) ∙ next-run, lt-ltb j.left e (omega arith)) (sym (or-true (member j s))))
        (λ t.
        rw (t, member-changed c j l r)
        (ap (λ b. member j s || b)
        (bcase (run j)
        (λ u.
        rw u
        (by_cases (dec_lt j.left c)
        (λ z. lt-ltb j.left c z ∙ sym (lt-ltb j.left e (omega arith)))
        (λ z.
        le-ltb j.left c (omega arith)
        ∙ sym (le-ltb j.left e (by_cases (dec_le e j.left) (λ v. v) (λ v. absurd (never (path_same (span f e) j (sym (only-run j l u (omega arith) (omega arith)))) t)))))))
        (λ u. rw u)))))

-- what the code's three searches find: the next touched column m from c on, one past the last bare column before m, and the next bare one after m
module _ (row touched : ℕ → Bool) (w n c m : ℕ) (narrow : w ≤ n) (told : m ≡ or_end n (first touched (from c (n - c)))) where
  pub none_left : w ≤ m → (x : ℕ) → c ≤ x → x < w → touched x ≡ false
  none_left h x l u =
      ocase (first touched (from c (n - c)))
      (λ o. first-missed touched c (n - c) o x l (omega arith))
      (λ z o. let k : m ≡ z = told ∙ ap (or_end n) o in first-from touched c (n - c) o x l (omega arith))

  module _ (copper : (x : ℕ) → touched x ≡ true → row x ≡ true) (bare : row w ≡ false) (edge : 0 < c → row c ≡ false) (left : m < w) where
    found : first touched (from c (n - c)) ≡ some m
    found = end-some n m (first touched (from c (n - c))) told (omega arith)

    start : (c ≤ m) × (touched m ≡ true)
    start = let r = first-within touched c (n - c) found in (r.0, r.2)

    module _ (f e : ℕ) (told-first : f ≡ past_of (first (λ k. not (row k)) (down m))) (told-end : e ≡ or_end n (first (λ k. not (row k)) (from m (n - m)))) where
      first_facts : (c ≤ f) × (f ≤ m) × (ends_left (λ x y. row x) 0 f ≡ true) × ((x : ℕ) → f ≤ x → x < m → row x ≡ true)
      unfolding ends_left
      first_facts =
          let s = start in
          ocase (first (λ k. not (row k)) (down m))
          (λ o.
          let k : f ≡ 0 = told-first ∙ ap past_of o in
          let along : (x : ℕ) → x < m → row x ≡ true = λ x l. not-false (row x) (down-missed (λ z. not (row z)) m o x l) in
          let low : c ≤ f =
          by_cases (ℕ_discrete c 0) (λ q. omega arith)
          (λ q.
          let b = edge (omega arith) in
          by_cases (dec_lt c m)
          (λ z. absurd (never (along c z) b))
          (λ z. let j : c ≡ m = omega arith in absurd (never (copper m s.1) (sym (ap row j) ∙ b)))) in
          (low, omega arith, rw k, λ x l u. along x u))
          (λ z o.
          let k : f ≡ suc z = told-first ∙ ap past_of o in
          let r = down-within (λ v. not (row v)) m o in
          let along : (x : ℕ) → f ≤ x → x < m → row x ≡ true = λ x l u. not-false (row x) (down_above (λ v. not (row v)) m o x (omega arith) u) in
          let low : c ≤ f =
          by_cases (dec_le c f) (λ q. q)
          (λ q.
          let b = edge (omega arith) in
          by_cases (dec_lt c m)
          (λ u. absurd (never (along c (omega arith) u) b))
          (λ u. let j : c ≡ m = omega arith in absurd (never (copper m s.1) (sym (ap row j) ∙ b)))) in
          (low, omega arith, rw k r.1, along))

      end_facts : (m < e) × (e ≤ w) × (row e ≡ false) × ((x : ℕ) → m ≤ x → x < e → row x ≡ true)
      end_facts =
          ocase (first (λ k. not (row k)) (from m (n - m)))
          (λ o.
          let k : e ≡ n = told-end ∙ ap (or_end n) o in
          let along : (x : ℕ) → m ≤ x → x < n → row x ≡ true = λ x l u. not-false (row x) (first-missed (λ z. not (row z)) m (n - m) o x l (omega arith)) in
          let j : w ≡ n = by_cases (ℕ_discrete w n) (λ q. q) (λ q. absurd (never (along w (omega arith) (omega arith)) bare)) in
          let q : e ≡ w = omega arith in
          (omega arith, omega arith, ap row q ∙ bare, λ x l u. along x l (omega arith)))
          (λ z o.
          let k : e ≡ z = told-end ∙ ap (or_end n) o in
          let r = first-within (λ v. not (row v)) m (n - m) o in
          let stop : row z ≡ false = not-true (row z) r.2 in
          let along : (x : ℕ) → m ≤ x → x < z → row x ≡ true = λ x l u. not-false (row x) (first-from (λ v. not (row v)) m (n - m) o x l u) in
          let d : m < z = by_cases (ℕ_discrete m z) (λ q. absurd (never (copper m start.1) (ap row q ∙ stop))) (λ q. omega arith) in
          let u : z ≤ w = by_cases (dec_le z w) (λ q. q) (λ q. absurd (never (along w (omega arith) (omega arith)) bare)) in
          (omega arith, omega arith, ap row k ∙ stop, λ x l t. along x l (omega arith)))

      pub next-on : (c < e) × (e ≤ w)
      next-on = let s = start in let t = end_facts in (omega arith, t.1)

      pub next_edge : row e ≡ false
      next_edge = end_facts.2

      pub put_next : (s : List Interval) → with w (span f e) (changed_to row touched w s c) ≡ changed_to row touched w s e
      put_next s =
          let b = first_facts in
          let t = end_facts in
          changed_put row touched w s (b.0, b.1, t.0, t.1) (first-from touched c (n - c) found) start.1 b.2
          (λ x l u. by_cases (dec_lt x m) (λ q. b.3 x l q) (λ q. t.3 x (omega arith) u)) t.2

-- the columns that the code takes for touched are the copper ones beside a change: in a slice all of it is copper
pub changed_slices : (row touched change : ℕ → Bool) (w n : ℕ) → w ≤ n → ((k : ℕ) → touched k ≡ (ltb k n && beside change k && row k)) → (s : List Interval)
    → select w (λ i. member i s || (slice (λ c y. row c) 0 i && any touched (columns i))) ≡ with_changed w row change s
changed_slices row touched change w n narrow told s =
    select-same w (λ i. member i s || (slice (λ c y. row c) 0 i && any touched (columns i))) (λ i. member i s || (slice (λ c y. row c) 0 i && any (beside change) (columns i)))
    (λ i l r.
    ap (λ b. member i s || b)
    (bcase (slice (λ c y. row c) 0 i)
    (λ t.
    ap (λ b. slice (λ c y. row c) 0 i && b)
    (any_same touched (beside change) (columns i)
    (λ k m.
    let b = from_in i.left (i.right - i.left) m in
    told k ∙ rw (lt-ltb k n (omega arith), slice-copper (λ c y. row c) 0 i t k (lines_hold k i b.0 (omega arith))) (and-true (beside change k)))))
    (λ t. rw t)))

-- the table on the way
module _ (row touched : ℕ → Bool) (w : ℕ) (s : List Interval) (c : ℕ) (fits : w ≤ side) {t : List ℕ} (q : t ≡ table_of (changed_to row touched w s c)) where
  pub put_table : (i : Interval) (e : ℕ) → with w i (changed_to row touched w s c) ≡ changed_to row touched w s e → table_of (with w i (set_of w t)) ≡ table_of (changed_to row touched w s e)
  put_table i e k = ap (λ z. table_of (with w i z)) (left_as w (changed_to row touched w s c) fits (changed-listed row touched w s c) q).1 ∙ ap table_of k
