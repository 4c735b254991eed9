-- A column's intervals row by row: from a line up to the column's left line they are the ones that end beyond it, and from a later line there is none.
use mathlib.Core.Path.{◌≡◌, refl, sym, ap, ◌∙◌}
use mathlib.Core.Bool.{Bool, true, false, not, ◌&&◌}
use mathlib.Core.List.{List}
use mathlib.Core.Logic.{by_cases}
use mathlib.Core.Option.{Option, none, some, map}
use Prim.Native.Nat.{ℕ, zero, suc, ◌+◌, ◌-◌, ◌≤◌, ◌<◌}
use native.Mathlib.Omega.{arith}
use native.Mathlib.Numerals.{add-one}
use native.Mathlib.Decide.{dec_lt, ℕ_discrete}
use lib.Dec.{ltb, eqb}
use borrow.Author.Tests.{ltb-true, eq-eqb, ne_eqb, le-leb, lt-ltb, le-ltb}
use Rattle.lists.specs.Lists.{count, first, gather, from}
use Rattle.lists.proofs.Truth.{agree, never, fails, and_left, and_right, and_both}
use Rattle.lists.proofs.Keep.{first-keep}
use Rattle.lists.proofs.Maps.{first-map}
use Rattle.lists.proofs.Members.{none_first, first-append-none, first-append-some}
use Rattle.lists.proofs.Ranges.{from_in, gather_in, map_in}
use Rattle.lists.proofs.Searches.{first-least, first-nowhere}
use Rattle.method.specs.Intervals.{Interval as Span, span, holds, beginning_at, every, select, member}
use Rattle.method.specs.Runs.{Listed}
use Rattle.method.specs.Strike.{least, strike}
use Rattle.method.proofs.Lines.{holds-lines, lines_hold, lines-proper}
use Rattle.method.proofs.Listed.{in_member, listed-lines, member-select, select-same, select-listed, keep-select}
use Rattle.intervals.specs.Table.{next_end, NoneBegins, cut_at}
use Rattle.intervals.specs.Tops.{ends_beyond}
use Rattle.intervals.specs.Counts.{begun_before}
use Rattle.intervals.proofs.TableRows.{next-found, next-before, next-nowhere, and_true}
use Rattle.intervals.proofs.RowCounts.{before, before-all, before-next}

module _ (n c : ℕ) where
  pub begun-on : c < n → begun_before n c ≡ c + 1
  begun-on h = rw (lt-ltb c n h)

  pub begun-none : n ≤ c → begun_before n c ≡ 0
  begun-none h = rw (le-ltb c n h)

  -- a line before that one
  pub begun_lines : (l : ℕ) → l < begun_before n c → (l ≤ c) × (c < n)
  begun_lines l h = by_cases (dec_lt c n) (λ u. omega (arith, begun-on u)) (λ u. omega (arith, begun-none (omega arith)))

  -- one from which an interval holds the column
  pub holds-begun : (i : Span) → i.right ≤ n → holds c i ≡ true → i.left < begun_before n c
  holds-begun i v t = let h = holds-lines c i t in omega (arith, begun-on (omega arith))

-- what a row holds of the column
holds_row : (c : ℕ) (i : Span) → i.left ≤ c → holds c i ≡ ltb c i.right
holds_row c i h = rw (le-leb i.left c h)

-- the count
module _ (n : ℕ) (s : List Span) (listed : Listed n s) (c : ℕ) where
  pub held_next : (l : ℕ) → l < begun_before n c → before s (holds c) (l + 1) ≡ before s (holds c) l + ends_beyond s l n c
  held_next l h = let b = begun_lines n c l h in before-next s (holds c) n listed l c (λ i m e. holds_row c i (omega arith))

  pub held_all : before s (holds c) (begun_before n c) ≡ count (holds c) s
  held_all = before-all s (holds c) (begun_before n c) (λ i m t. holds-begun n c i (listed-lines n s listed i (in_member m)).1 t)

-- the least
module _ (n : ℕ) (s : List Span) (c : ℕ) where
  abbrev test : Span → Bool
  test i = member i s && holds c i

  -- from line l on
  abbrev pub least_from : ℕ → Option Span
  least_from l = first test (gather (beginning_at n) (from l (n - l)))

  least-all : Listed n s → least c s ≡ least_from 0
  unfolding least
  least-all listed =
      let e : n - 0 ≡ n = omega arith in
      ap (first (holds c)) listed ∙ first-keep (λ i. member i s) (holds c) (every n) ∙ rw e

  row_first : (l : ℕ) → first test (beginning_at n l) ≡ map (λ r. span l r) (first (λ r. test (span l r)) (from (suc l) (n - l)))
  row_first l = first-map test (λ r. span l r) (from (suc l) (n - l))

  -- at a line of a row that does not end an interval beyond the column
  row-off : (l r : ℕ) → (c < r → member (span l r) s ≡ false) → test (span l r) ≡ false
  row-off l r h = fails (test (span l r)) (λ t. never (and_left (member (span l r) s) (holds c (span l r)) t) (h (holds-lines c (span l r) (and_right (member (span l r) s) (holds c (span l r)) t)).1))

  -- a row without an interval that holds the column
  least-next : (l : ℕ) → ((r : ℕ) → l < r → r ≤ n → test (span l r) ≡ false) → least_from l ≡ least_from (suc l)
  least-next l off =
      by_cases (dec_lt l n)
      (λ h.
      let e : n - l ≡ suc (n - suc l) = omega arith in
      rw e
      (first-append-none test (beginning_at n l) (gather (beginning_at n) (from (suc l) (n - suc l)))
      (row_first l ∙ ap (map (λ r. span l r)) (first-nowhere (λ r. test (span l r)) (suc l) (n - l) (λ r u v. off r (omega arith) (omega arith))))))
      (λ h.
      let e : n - l ≡ 0 = omega arith in
      let f : n - suc l ≡ 0 = omega arith in
      rw (e, f))

  -- where no interval begins before line p
  least_skip : (p : ℕ) → NoneBegins s p → least_from 0 ≡ least_from p
  least_skip zero since = refl
  least_skip (suc p) since =
      least_skip p (λ i m. omega (arith, since i m))
      ∙ least-next p (λ r u v. row-off p r (λ w. fails (member (span p r) s) (λ m. omega (arith, since (span p r) m))))

  pub least_start : Listed n s → (p : ℕ) → NoneBegins s p → least c s ≡ least_from p
  least_start listed p since = least-all listed ∙ least_skip p since

  module _ (l : ℕ) (h : l < begun_before n c) where
    pub least-here : (x : ℕ) → next_end n s l c ≡ some x → least_from l ≡ some (span l x)
    least-here x k =
        let b = begun_lines n c l h in
        let f = next-found n s l c k in
        let e : n - l ≡ suc (n - suc l) = omega arith in
        rw e
        (first-append-some test (beginning_at n l) (gather (beginning_at n) (from (suc l) (n - suc l)))
        (row_first l
        ∙ ap (map (λ r. span l r))
        (first-least (λ r. test (span l r)) (suc l) (n - l) x (omega arith) (omega arith)
        (and_both (member (span l x) s) (holds c (span l x)) f.2 (lines_hold c (span l x) b.0 f.0))
        (λ r u v. row-off l r (λ w. next-before n s l c k r w v)))))

    pub least_on : next_end n s l c ≡ none → least_from l ≡ least_from (l + 1)
    least_on k = rw (add-one l) (least-next l (λ r u v. row-off l r (λ w. next-nowhere n s l c k r w v)))

  pub least-over : (l : ℕ) → begun_before n c ≤ l → least_from l ≡ none
  least-over p h =
      none_first test (gather (beginning_at n) (from p (n - p)))
      (λ i m.
      let a = gather_in (beginning_at n) (from p (n - p)) m in
      let l = from_in p (n - p) a.1 in
      let b = map_in (λ r. span a.0 r) (from (suc a.0) (n - a.0)) a.2 in
      let r = from_in (suc a.0) (n - a.0) b.1 in
      fails (test i)
      (λ t.
      omega (
        arith,
        holds-begun n c i (omega (arith, ap (λ (k : Span). k.right) b.2)) (and_right (member i s) (holds c i) t),
        ap (λ (k : Span). k.left) b.2,
      )))

-- the table without them
module _ (n : ℕ) (s : List Span) (c : ℕ) where
  abbrev stays : ℕ → Span → Bool
  stays l j = member j s && not (ltb j.left l && ltb c j.right)

  -- struck from the rows before line l
  unfoldable pub struck_to : ℕ → List Span
  struck_to l = select n (stays l)

  pub struck_listed : (l : ℕ) → Listed n (struck_to l)
  unfolding struck_to
  struck_listed l = select-listed n (stays l)

  pub struck_none : Listed n s → s ≡ struck_to 0
  unfolding struck_to
  struck_none listed = listed ∙ select-same n (λ j. member j s) (stays 0) (λ j u v. rw (le-ltb j.left 0 (omega arith)) (sym (and_true (member j s))))

  struck_member : (l : ℕ) (j : Span) → j.left < j.right → j.right ≤ n → member j (struck_to l) ≡ stays l j
  unfolding struck_to
  struck_member l j u v = member-select n (stays l) j ∙ rw (lines-proper j u, le-leb j.right n v)

  pub struck_next : (l : ℕ) → cut_at n l c (struck_to l) ≡ struck_to (l + 1)
  unfolding struck_to cut_at
  struck_next l =
      select-same n (λ j. member j (struck_to l) && not (eqb j.left l && ltb c j.right)) (stays (l + 1))
      (λ j u v.
      ap (λ b. b && not (eqb j.left l && ltb c j.right)) (struck_member l j u v)
      ∙ row_more (member j s) (ltb c j.right) j.left)
    where
      row_more : (m b : Bool) (a : ℕ) → (m && not (ltb a l && b) && not (eqb a l && b)) ≡ (m && not (ltb a (l + 1) && b))
      row_more m b a =
          by_cases (ℕ_discrete a l)
          (λ e. rw (eq-eqb a l e, le-ltb a l (omega arith), lt-ltb a (l + 1) (omega arith)) (ap (λ x. x && not b) (and_true m)))
          (λ e.
          by_cases (dec_lt a l)
          (λ k. rw (ne_eqb a l e, lt-ltb a l k, lt-ltb a (l + 1) (omega arith)) (and_true (m && not b)))
          (λ k. rw (ne_eqb a l e, le-ltb a l (omega arith), le-ltb a (l + 1) (omega arith)) (and_true (m && true))))

  pub struck_all : Listed n s → struck_to (begun_before n c) ≡ strike c s
  unfolding struck_to strike
  struck_all listed =
      select-same n (stays (begun_before n c)) (λ j. member j s && not (holds c j))
      (λ j u v. ap (λ b. member j s && not b) (begun-holds j v))
      ∙ sym (keep-select n s listed (λ j. not (holds c j)))
    where
      begun-holds : (j : Span) → j.right ≤ n → (ltb j.left (begun_before n c) && ltb c j.right) ≡ holds c j
      begun-holds j v =
          agree (ltb j.left (begun_before n c) && ltb c j.right) (holds c j)
          (λ t.
          let b = begun_lines n c j.left (ltb-true j.left (begun_before n c) (and_left (ltb j.left (begun_before n c)) (ltb c j.right) t)) in
          lines_hold c j b.0 (ltb-true c j.right (and_right (ltb j.left (begun_before n c)) (ltb c j.right) t)))
          (λ t.
          and_both (ltb j.left (begun_before n c)) (ltb c j.right) (lt-ltb j.left (begun_before n c) (holds-begun n c j v t)) (lt-ltb c j.right (holds-lines c j t).1))
