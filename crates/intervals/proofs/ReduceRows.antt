-- Rule 4 row by row on a table's set: before line l the rows are reduced, from l on they are as they were.
-- What `furthest` finds is the staircase's next step; at a jump one interval of the row is dropped and the meet is put.
use mathlib.Core.Path.{◌≡◌, refl, sym, ap, ap₂, ◌∙◌, fun_ext}
use mathlib.Core.Bool.{true, false}
use mathlib.Core.List.{List}
use mathlib.Core.Logic.{by_cases, ite, if_pos, if_neg}
use Prim.Native.Nat.{ℕ, zero, suc, ◌+◌, ◌-◌, ◌≤◌, ◌<◌, min, max}
use native.Mathlib.Omega.{arith}
use native.Mathlib.Decide.{dec_le, dec_lt, ℕ_discrete, le_ind}
use lib.Dec.{ltb}
use borrow.Author.Tests.{ltb-true, ltb-false, lt-ltb, le-ltb}
use Rattle.lists.specs.Lists.{first, down}
use Rattle.lists.proofs.Truth.{bcase, ocase, fails}
use Rattle.lists.proofs.Searches.{down-within, down-missed, down_above}
use Rattle.method.specs.Intervals.{Interval as Span, span, member}
use Rattle.method.specs.Reduce.{reduce}
use Rattle.method.specs.Runs.{Listed}
use Rattle.method.proofs.Sets.{Set, has, top, e, red}
use Rattle.method.proofs.Staircase.{top_le, e-step, e-jump, e_attained}
use Rattle.method.proofs.Star.{Jump, Place, drop, add, keep, place, red-same, red-before, red-after}
use Rattle.method.proofs.RuleFour.{rule_four}
use Rattle.method.proofs.Listed.{select-listed, listed-lines, listed_equal}
use Rattle.grid.specs.Limits.{side}
use Rattle.grid.specs.Lines.{line, whole_to, meet_of}
use Rattle.grid.specs.declared.lines.Interval.{Interval}
use Rattle.words.specs.Words.{on, past_of}
use Rattle.intervals.specs.Table.{row_of, changed}
use Rattle.intervals.specs.Reach.{reach}
use Rattle.intervals.proofs.TableLaws.{row-end, changed-listed, changed-here, changed-other}

-- one turn of `furthest`
module _ (s : List Span) (l p : ℕ) where
  pub reach-hit : (r k : ℕ) → r ≡ suc k → p < r → member (span l r) s ≡ true → reach s l p r ≡ r
  unfolding reach
  reach-hit r k e h t = rw e (rw (lt-ltb p (suc k) (omega arith), sym (ap (λ z. member (span l z) s) e) ∙ t))

  pub reach_miss : (r k : ℕ) → r ≡ suc k → member (span l r) s ≡ false → reach s l p r ≡ reach s l p k
  unfolding reach
  reach_miss r k e f = ap (reach s l p) e ∙ missed
    where
      missed : reach s l p (suc k) ≡ reach s l p k
      missed = let g = sym (ap (λ z. member (span l z) s) e) ∙ f in bcase (ltb p (suc k)) (λ u. rw (u, g)) (λ u. rw u)

  pub reach-low : (r : ℕ) → r ≤ p → reach s l p r ≡ p
  unfolding reach
  reach-low zero h = refl
  reach-low (suc r) h = rw (le-ltb p (suc r) h) (reach-low r (omega arith))

  -- the next step of a staircase
  pub reach-top : (r : ℕ) → reach s l p r ≡ max p (top (has s l) r)
  unfolding reach top
  reach-top zero = omega arith
  reach-top (suc r) =
      let k = reach-top r in
      let m = top_le (has s l) r in
      bcase (has s l (suc r))
      (λ t.
      bcase (ltb p (suc r))
      (λ u. rw (u, t) (omega (arith, ltb-true p (suc r) u)))
      (λ u. rw (u, t) (omega (arith, ltb-false p (suc r) u))))
      (λ f. bcase (ltb p (suc r)) (λ u. rw (u, f) k) (λ u. rw (u, f) k))

-- the lines beyond r up to the last one at which no interval ends may be left out
reach_seen : (s : List Span) (l p to r : ℕ) → r ≤ to → ((k : ℕ) → r < k → k ≤ to → member (span l k) s ≡ false) → reach s l p to ≡ reach s l p r
reach_seen s l p to r h out =
    le_ind (λ k. k ≤ to → reach s l p k ≡ reach s l p r) (λ _. refl)
    (λ k u ih v. reach_miss s l p (suc k) k refl (out (suc k) (omega arith) v) ∙ ih (omega arith)) to h (omega arith)

-- the reach is the greatest line found, where it lies beyond line p
module _ {n : ℕ} {s : List Span} (fits : n ≤ side) (listed : Listed n s) (l p to e : ℕ) (found : e ≡ past_of (first (on (row_of s l)) (down (min n to)))) where
  -- line e is the greatest one up to both at which an interval ends
  last_found : (e ≤ min n to) × (0 < e → member (span l e) s ≡ true) × ((k : ℕ) → e < k → k ≤ min n to → member (span l k) s ≡ false)
  last_found =
      ocase (first (on (row_of s l)) (down (min n to)))
      (λ q.
      let z = found ∙ ap past_of q in
      (omega arith, λ h. absurd (omega arith), λ k u v. sym (row-end n fits listed l k (omega arith)) ∙ down-missed (on (row_of s l)) (min n to) q (k - 1) (omega arith)))
      (λ x q.
      let z = found ∙ ap past_of q in
      let w = down-within (on (row_of s l)) (min n to) q in
      let x-at : e - 1 ≡ x = omega arith in (
        omega arith,
        λ h. sym (row-end n fits listed l e h) ∙ ap (on (row_of s l)) x-at ∙ w.1,
        λ k u v. sym (row-end n fits listed l k (omega arith)) ∙ down_above (on (row_of s l)) (min n to) q (k - 1) (omega arith) (omega arith),
      ))

  whole : reach s l p to ≡ reach s l p e
  whole =
      reach_seen s l p to e (omega (arith, last_found.0))
      (λ k u v.
      by_cases (dec_le k n) (λ w. last_found.2 k u (omega arith))
      (λ w. fails (member (span l k) s) (λ m. omega (arith, listed-lines n s listed (span l k) m))))

  pub reach-found : p < e → e ≡ reach s l p to
  reach-found h = sym (whole ∙ reach-hit s l p e (e - 1) (omega arith) h (last_found.1 (omega arith)))

  pub reach-none : e ≤ p → p ≡ reach s l p to
  reach-none h = sym (whole ∙ reach-low s l p e h)

  pub reach-max : max p e ≡ reach s l p to
  reach-max = by_cases (dec_lt p e) (λ h. omega (arith, reach-found h)) (λ h. omega (arith, reach-none (omega arith)))

-- the lines asked are those of the bracket up to the last line
pub asked-end : (n : ℕ) (d u m : Interval) → u ≡ whole_to (line n) → m ≡ meet_of u d → m.right.0 ≡ min n d.right.0
asked-end n d u m p q = ap (λ (i : Interval). i.right.0) q ∙ ap (λ (i : Interval). min i.right.0 d.right.0) p

-- what the row's word has up to the last line is the reach
pub row-reach : {n : ℕ} {s : List Span} → n ≤ side → Listed n s → (l p to : ℕ) {w k : ℕ} → w ≡ row_of s l → k ≡ min n to
    → max p (past_of (first (on w) (down k))) ≡ reach s l p to
row-reach {n} {s} fits listed l p to r e =
    ap₂ (λ w k. max p (past_of (first (on w) (down k)))) r e
    ∙ reach-max fits listed l p to (past_of (first (on (row_of s l)) (down (min n to)))) refl

-- the set's rows before line l as rule 4 leaves them, the others as they are
abbrev upto : Set → ℕ → ℕ → ℕ → Set
upto S a b l p r = ite (dec_lt p l) (red S a b p r) (S p r)

upto_before : (S : Set) (a b l p r : ℕ) → p < l → upto S a b l p r ≡ red S a b p r
upto_before S a b l p r h = if_pos (dec_lt p l) h _ _

upto_from : (S : Set) (a b l p r : ℕ) → l ≤ p → upto S a b l p r ≡ S p r
upto_from S a b l p r h = if_neg (dec_lt p l) (omega arith) _ _

-- u is s with the rows before line l reduced
pub record Half (n a b : ℕ) (s : List Span) (l : ℕ) (u : List Span) : Type 0 where
  pub listed : Listed n u
  pub rows : (p r : ℕ) → has u p r ≡ upto (has s) a b l p r

module _ (n : ℕ) {s : List Span} (listed : Listed n s) (a b : ℕ) where
  abbrev E : ℕ → ℕ
  E = e (has s) a b

  pub half-start : Half n a b s a s
  half-start =
      record {
        listed = listed;
        rows = λ p r.
            by_cases (dec_lt p a)
            (λ h. sym (upto_before (has s) a b a p r h ∙ red-before (has s) a b p r h))
            (λ h. sym (upto_from (has s) a b a p r (omega arith)));
      }

  module _ {u : List Span} {l : ℕ} (half : Half n a b s l u) where
    half-row : (r : ℕ) → has u l r ≡ has s l r
    half-row r = half.rows l r ∙ upto_from (has s) a b l l r (omega arith)

    -- the row's reach is the staircase's next step
    pub half-reach : a ≤ l → reach u l (E l) b ≡ E (suc l)
    half-reach h = reach-top u l (E l) b ∙ ap (λ f. max (E l) (top f b)) (fun_ext half-row) ∙ sym (e-step (has s) a b l h)

    -- what the row has to come to
    step : (v : List Span) → Listed n v → ((r : ℕ) → has v l r ≡ red (has s) a b l r) → ((p r : ℕ) → (p ≡ l → ⊥) → has v p r ≡ has u p r)
        → Half n a b s (l + 1) v
    step v known here other =
        record {
          listed = known;
          rows = λ p r.
              by_cases (ℕ_discrete p l)
              (λ q. ap (λ z. has v z r) q ∙ here r ∙ sym (upto_before (has s) a b (l + 1) l r (omega arith)) ∙ ap (λ z. upto (has s) a b (l + 1) z r) (sym q))
              (λ q.
              other p r q
              ∙ half.rows p r
              ∙ by_cases (dec_lt p l)
              (λ h. upto_before (has s) a b l p r h ∙ sym (upto_before (has s) a b (l + 1) p r (omega arith)))
              (λ h. upto_from (has s) a b l p r (omega arith) ∙ sym (upto_from (has s) a b (l + 1) p r (omega arith))));
        }

    -- no jump: the row stays
    pub half-level : E (suc l) ≤ E l → Half n a b s (l + 1) u
    half-level h =
        step u half.listed (λ r. half-row r ∙ sym (red-same (has s) a b l r (λ j. absurd (omega (arith, j.rise))))) (λ p r q. refl)

    -- a jump: drop (l, e (l + 1)) and put the meet, (l, e l)
    pub half-jump : Jump (has s) a b l → Half n a b s (l + 1) (changed n (span l (E l)) true (changed n (span l (E (suc l))) false u))
    half-jump j = step v (changed-listed n (span l (E l)) true w) (λ r. here r (place (has s) a b l r)) other
      where
        w : List Span
        w = changed n (span l (E (suc l))) false u

        v : List Span
        v = changed n (span l (E l)) true w

        -- a place that is neither dropped nor put
        apart : (p r : ℕ) → ((p ≡ l) × (r ≡ E l) → ⊥) → ((p ≡ l) × (r ≡ E (suc l)) → ⊥) → has v p r ≡ has u p r
        apart p r x y =
            changed-other n (span l (E l)) true w (changed-listed n (span l (E (suc l))) false u) (span p r)
            (λ q. x (sym (ap (λ (i : Span). i.left) q), sym (ap (λ (i : Span). i.right) q)))
            ∙ changed-other n (span l (E (suc l))) false u half.listed (span p r)
            (λ q. y (sym (ap (λ (i : Span). i.left) q), sym (ap (λ (i : Span). i.right) q)))

        other : (p r : ℕ) → (p ≡ l → ⊥) → has v p r ≡ has u p r
        other p r q = apart p r (λ t. q t.0) (λ t. q t.0)

        here : (r : ℕ) → Place (has s) a b l r (red (has s) a b l r) → has v l r ≡ red (has s) a b l r
        here r (drop k q z) =
            let m = listed-lines n s listed (span l (E (suc l))) (e-jump (has s) a b l j.rise).1 in
            changed-other n (span l (E l)) true w (changed-listed n (span l (E (suc l))) false u) (span l r)
            (λ t. omega (arith, j.rise, ap (λ (i : Span). i.right) t))
            ∙ ap (has w l) q
            ∙ changed-here n (span l (E (suc l))) false u m.0 m.1
            ∙ sym z
        here r (add k q h z) =
            let t = e_attained (has s) a b l (omega (arith, j.from)) in
            let m = listed-lines n s listed (span t.0 (E l)) t.3 in
            ap (has v l) q ∙ changed-here n (span l (E l)) true w (omega arith) m.1 ∙ sym z
        here r (keep f z) =
            by_cases (ℕ_discrete r (E l))
            (λ q.
            let low = (f j).1 q in
            fails (has v l r)
            (λ t. omega (arith, listed-lines n v (changed-listed n (span l (E l)) true w) (span l r) t))
            ∙ sym (fails (has s l r) (λ t. omega (arith, listed-lines n s listed (span l r) t)))
            ∙ sym z)
            (λ q. apart l r (λ t. q t.1) (λ t. (f j).0 t.1) ∙ half-row r ∙ sym z)

  -- past the bracket all rows are reduced
  pub half-end : {u : List Span} {l : ℕ} → Half n a b s l u → b ≤ l → u ≡ reduce n s (span a b)
  unfolding reduce
  half-end {u} {l} half h =
      listed_equal n u (reduce n s (span a b)) half.listed (select-listed n _)
      (λ i.
      half.rows i.left i.right
      ∙ by_cases (dec_lt i.left l)
      (λ k. upto_before (has s) a b l i.left i.right k)
      (λ k. upto_from (has s) a b l i.left i.right (omega arith) ∙ sym (red-after (has s) a b i.left i.right (omega arith)))
      ∙ sym (rule_four n s listed a b i.left i.right))
