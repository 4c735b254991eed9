-- A set row by row, as the table's next ends give it: what a row has still to give, and which rows hold a column.
-- `enter_row`, `leave_row` and what goes over all rows use it.
use mathlib.Core.Path.{◌≡◌, sym, ap, ap₂, ◌∙◌}
use mathlib.Core.Bool.{Bool, true, ◌&&◌, and-true}
use mathlib.Core.List.{List, [], ◌∷◌, ◌++◌, map}
use mathlib.Core.Logic.{by_cases}
use mathlib.Core.Option.{none, some}
use Prim.Native.Nat.{ℕ, zero, suc, ◌+◌, ◌-◌, ◌≤◌, ◌<◌}
use native.Mathlib.Numerals.{add-one}
use native.Mathlib.Omega.{arith}
use native.Mathlib.Decide.{dec_le}
use Rattle.lists.specs.Lists.{keep, first, gather, from}
use Rattle.lists.proofs.Truth.{bcase, ocase, never, fails, and_left, and_right}
use Rattle.lists.proofs.Keep.{keep_same, keep-keep, keep-none, keep_append}
use Rattle.lists.proofs.Members.{In, first-none}
use Rattle.lists.proofs.Searches.{first-within}
use Rattle.lists.proofs.Ranges.{from_in, from-append, keep-map, gather_append, gather_in, map_in}
use Rattle.method.specs.Intervals.{Interval as Span, span, holds, beginning_at, every, member}
use Rattle.method.specs.Runs.{Listed}
use Rattle.method.specs.Strike.{least}
use Rattle.method.proofs.Lines.{holds-lines, lines_hold}
use Rattle.method.proofs.Listed.{listed-lines}
use Rattle.intervals.specs.Table.{next_end}
use Rattle.intervals.specs.Counts.{begun_before}
use Rattle.intervals.proofs.TableRows.{next-nowhere}
use Rattle.intervals.proofs.ColumnRows.{begun-on, least_from, least_start, least-here, least_on}
use Rattle.counts.specs.Rows.{row_beyond, Holding}

-- the numbers that pass, from the first of them on
keep-first : (p : ℕ → Bool) (a k : ℕ) {x : ℕ} → first p (from a k) ≡ some x → (a ≤ x) × (keep p (from a k) ≡ x ∷ keep p (from (x + 1) ((a + k) - (x + 1))))
keep-first p a zero e = absurd (nothing e)
  where
    nothing : {x : ℕ} → none ≡ some x → ⊥
    nothing e = let z : ◌≡◌ {A = ℕ} 0 1 = cc in omega arith
keep-first p a (suc k) {x} e =
    bcase (p a)
    (λ t.
    let q : a ≡ x = some_of (sym (rw t) ∙ e) in
    let l : k ≡ (a + suc k) - (x + 1) = omega arith in
    let f : suc a ≡ x + 1 = omega arith in
    (omega arith, rw t (ap₂ (λ y m. y ∷ m) q (ap₂ (λ y m. keep p (from y m)) f l))))
    (λ t.
    let r = keep-first p (suc a) k (sym (rw t) ∙ e) in
    let l : (suc a + k) - (x + 1) ≡ (a + suc k) - (x + 1) = omega arith in
    (omega (arith, r.0), rw t (r.1 ∙ ap (λ m. x ∷ keep p (from (x + 1) m)) l)))
  where
    some_of : {x y : ℕ} → some x ≡ some y → x ≡ y
    some_of e = cc

-- what a row has beyond line p: the next end, and what it has beyond that; nothing, where none ends there
module _ (n : ℕ) (s : List Span) (l p : ℕ) where
  abbrev ends : ℕ → Bool
  ends r = member (span l r) s

  pub row_next : {x : ℕ} → next_end n s l p ≡ some x → row_beyond n s l p ≡ span l x ∷ row_beyond n s l x
  unfolding next_end row_beyond
  row_next {x} e =
      let k = keep-first ends (p + 1) (n - p) e in
      let w = first-within ends (p + 1) (n - p) e in
      let q : (p + 1 + (n - p)) - (x + 1) ≡ n - x = omega arith in
      ap (map (λ r. span l r)) (k.1 ∙ ap (λ m. x ∷ keep ends (from (x + 1) m)) q)

  pub row_over : next_end n s l p ≡ none → row_beyond n s l p ≡ []
  unfolding next_end row_beyond
  row_over e = ap (map (λ r. span l r)) (keep-none ends (from (p + 1) (n - p)) (λ x m. first-none ends (from (p + 1) (n - p)) e m))

  -- the same in a set that has the same of it
  pub row_same : (s' : List Span) → ((r : ℕ) → p < r → r ≤ n → member (span l r) s ≡ member (span l r) s') → row_beyond n s l p ≡ row_beyond n s' l p
  unfolding row_beyond
  row_same s' h =
      ap (map (λ r. span l r))
      (keep_same ends (λ r. member (span l r) s') (from (p + 1) (n - p)) (λ r m. let w = from_in (p + 1) (n - p) m in h r (omega arith) (omega arith)))

-- the rows from line l on
module _ (n : ℕ) (s : List Span) where
  abbrev pub rows_from : ℕ → List Span
  rows_from l = keep (λ j. member j s) (gather (beginning_at n) (from l (n - l)))

  pub rows_start : Listed n s → s ≡ rows_from 0
  rows_start listed = let e : n ≡ n - 0 = omega arith in listed ∙ ap (λ k. keep (λ j. member j s) (gather (beginning_at n) (from 0 k))) e

  pub rows-over : (l : ℕ) → n ≤ l → rows_from l ≡ []
  rows-over l h = let e : n - l ≡ 0 = omega arith in rw e

  pub rows_next : (l : ℕ) → l < n → rows_from l ≡ row_beyond n s l l ++ rows_from (l + 1)
  unfolding row_beyond
  rows_next l h =
      let e : n - l ≡ suc (n - (l + 1)) = omega arith in
      let f : suc l ≡ l + 1 = omega arith in
      ap (λ k. keep (λ j. member j s) (gather (beginning_at n) (from l k))) e
      ∙ keep_append (λ j. member j s) (beginning_at n l) (gather (beginning_at n) (from (suc l) (n - (l + 1))))
      ∙ ap₂ ◌++◌
      (keep-map (λ r. span l r) (λ j. member j s) (from (suc l) (n - l)) ∙ ap (λ k. map (λ r. span l r) (keep (λ r. member (span l r) s) (from k (n - l)))) f)
      (ap (λ k. keep (λ j. member j s) (gather (beginning_at n) (from k (n - (l + 1))))) f)

-- those that hold a column
module _ (n : ℕ) (s : List Span) (c : ℕ) where
  abbrev test : Span → Bool
  test j = member j s && holds c j

  abbrev pub hits_from : ℕ → List Span
  hits_from l = keep test (gather (beginning_at n) (from l (n - l)))

  -- the left line of an interval from one of these rows
  from_row : (a k : ℕ) (j : Span) → In j (gather (beginning_at n) (from a k)) → (a ≤ j.left) × (j.left < a + k)
  from_row a k j m =
      let g = gather_in (beginning_at n) (from a k) m in
      let w = from_in a k g.1 in
      let b = map_in (λ r. span g.0 r) (from (suc g.0) (n - g.0)) g.2 in
      omega (arith, ap (λ (i : Span). i.left) b.2)

  pub hits_start : Listed n s → (l : ℕ) → Holding n s l c → keep (holds c) s ≡ hits_from l
  hits_start listed l H =
      let h = H.early in
      let b = H.below in
      let e : n ≡ l + (n - l) = omega arith in
      let z : 0 + l ≡ l = omega arith in
      ap (keep (holds c)) listed
      ∙ keep-keep (λ j. member j s) (holds c) (every n)
      ∙ ap (keep test) (ap (gather (beginning_at n)) (ap (from 0) e ∙ from-append 0 l (n - l)) ∙ gather_append (beginning_at n) (from 0 l) (from (0 + l) (n - l)))
      ∙ keep_append test (gather (beginning_at n) (from 0 l)) (gather (beginning_at n) (from (0 + l) (n - l)))
      ∙ ap₂ ◌++◌ (keep-none test (gather (beginning_at n) (from 0 l)) (λ j m. fails (test j) (λ t.
      omega (arith, from_row 0 l j m, H.none_before j (and_left (member j s) (holds c j) t) (and_right (member j s) (holds c j) t)))))
      (ap (λ k. keep test (gather (beginning_at n) (from k (n - l)))) z)

  pub hits_over : (l : ℕ) → c < l → hits_from l ≡ []
  hits_over l h =
      keep-none test (gather (beginning_at n) (from l (n - l)))
      (λ j m. fails (test j) (λ t. omega (arith, from_row l (n - l) j m, holds-lines c j (and_right (member j s) (holds c j) t))))

  -- of a row up to the column's left line, those that end beyond it
  row_hits : (l : ℕ) → l ≤ c → c < n → keep test (beginning_at n l) ≡ row_beyond n s l c
  unfolding row_beyond
  row_hits l h b =
      let e : n - l ≡ (c - l) + (n - c) = omega arith in
      let f : suc l + (c - l) ≡ c + 1 = omega arith in
      let g : ℕ → Bool = λ r. member (span l r) s && holds c (span l r) in
      keep-map (λ r. span l r) test (from (suc l) (n - l))
      ∙ ap (map (λ r. span l r))
      (ap (keep g) (ap (from (suc l)) e ∙ from-append (suc l) (c - l) (n - c))
      ∙ keep_append g (from (suc l) (c - l)) (from (suc l + (c - l)) (n - c))
      ∙ ap₂ ◌++◌
      (keep-none g (from (suc l) (c - l)) (λ r m. fails (g r) (λ t.
      omega (arith, from_in (suc l) (c - l) m, holds-lines c (span l r) (and_right (member (span l r) s) (holds c (span l r)) t)))))
      (ap (λ k. keep g (from k (n - c))) f
      ∙ keep_same g (λ r. member (span l r) s) (from (c + 1) (n - c))
      (λ r m. let w = from_in (c + 1) (n - c) m in rw (lines_hold c (span l r) h (omega arith)) (and-true (member (span l r) s)))))

  pub hits_next : (l : ℕ) → l ≤ c → c < n → hits_from l ≡ row_beyond n s l c ++ hits_from (l + 1)
  hits_next l h b =
      let e : n - l ≡ suc (n - (l + 1)) = omega arith in
      let f : suc l ≡ l + 1 = omega arith in
      ap (λ k. keep test (gather (beginning_at n) (from l k))) e
      ∙ keep_append test (beginning_at n l) (gather (beginning_at n) (from (suc l) (n - (l + 1))))
      ∙ ap₂ ◌++◌ (row_hits l h b) (ap (λ k. keep test (gather (beginning_at n) (from k (n - (l + 1))))) f)

-- no interval that holds the column begins before the least that does
module _ (n : ℕ) (s : List Span) (listed : Listed n s) (c : ℕ) (below : c < n) {i : Span} (o : least c s ≡ some i) (early : i.left ≤ c) where
  bare-to : (l : ℕ) → l ≤ i.left → (least_from n s c l ≡ some i) × ((j : Span) → member j s ≡ true → holds c j ≡ true → l ≤ j.left)
  bare-to zero h = (sym (least_start n s c listed 0 (λ j m. omega arith)) ∙ o, λ j m t. omega arith)
  bare-to (suc l) h =
      let q = bare-to l (omega arith) in
      let b : l < begun_before n c = omega (arith, begun-on n c below) in
      ocase (next_end n s l c)
      (λ k. (
        ap (least_from n s c) (sym (add-one l)) ∙ sym (least_on n s c l b k) ∙ q.0,
        λ j m t.
            let w = holds-lines c j t in
            let v = listed-lines n s listed j m in
            by_cases (dec_le (suc l) j.left) (λ u. u)
            (λ u.
            let z : l ≡ j.left = omega (arith, q.1 j m t) in
            absurd (never m (ap (λ x. member (span x j.right) s) (sym z) ∙ next-nowhere n s l c k j.right (omega arith) v.1))),
      ))
      (λ x k.
      let e : some i ≡ some (span l x) = sym q.0 ∙ least-here n s c l b x k in
      let m : i ≡ span l x = cc in
      absurd (omega (arith, ap (λ (z : Span). z.left) m)))

  pub least-holding : Holding n s i.left c
  least-holding = record { early = early; below = below; none_before = (bare-to i.left (omega arith)).1 }
