-- A row of a table: where its next interval ends, step by step and by the row's word, and the row without the intervals that end beyond a line.
use mathlib.Core.Path.{◌≡◌, refl, sym, ap, ◌∙◌}
use mathlib.Core.Bool.{Bool, true, false, not, ◌&&◌}
use mathlib.Core.List.{List}
use mathlib.Core.Logic.{by_cases}
use mathlib.Core.Option.{Option, none, some}
use Rattle.std.specs.Prelude.{Option as Found, None, Some}
use Prim.Native.Nat.{ℕ, suc, ◌+◌, ◌-◌, ◌^◌, ◌≤◌, ◌<◌}
use native.Mathlib.Numerals.{add-one}
use native.Mathlib.Omega.{arith}
use native.Mathlib.Decide.{dec_lt, ℕ_discrete}
use lib.Dec.{leb, ltb, eqb}
use lib.ListN.{get_or, set}
use borrow.Author.Tests.{le-leb, eq-eqb, ne_eqb, lt-ltb, le-ltb}
use Rattle.lists.specs.Lists.{first, from}
use Rattle.lists.proofs.Truth.{agree, and_left, and_right}
use Rattle.lists.proofs.Ranges.{first-from}
use Rattle.lists.proofs.Searches.{first-least, first-nowhere, first-within, first-missed}
use Rattle.method.specs.Intervals.{Interval as Span, span, proper, member}
use Rattle.method.specs.Runs.{Listed}
use Rattle.method.proofs.Lines.{lines-proper}
use Rattle.method.proofs.Listed.{listed-lines, member-select, select-same, select-listed}
use Rattle.grid.specs.Limits.{side}
use Rattle.grid.specs.Code.{or_end}
use Rattle.grid.specs.Lines.{line}
use Rattle.grid.specs.declared.lines.Line.{Line}
use Rattle.grid.proofs.Edges.{number}
use Rattle.grid.proofs.Next.{end-some, end_none}
use Rattle.words.specs.Words.{bits, on}
use Rattle.intervals.specs.Table.{row_of, set_of, table_of, Tabled, next_end, line_found, cut_at}
use Rattle.intervals.proofs.TableLaws.{right_lines, row_on, row-end, set-listed, tabled-on, set-row}

-- one step of `next_end`
module _ (n : ℕ) (s : List Span) (l p : ℕ) where
  abbrev ends : ℕ → Bool
  ends r = member (span l r) s

  pub next_here : p < n → ends (p + 1) ≡ true → next_end n s l p ≡ some (p + 1)
  unfolding next_end
  next_here h t = let e : n - p ≡ suc (n - (p + 1)) = omega arith in rw e (rw t)

  pub next-on : p < n → ends (p + 1) ≡ false → next_end n s l p ≡ next_end n s l (p + 1)
  unfolding next_end
  next-on h f = let e : n - p ≡ suc (n - (p + 1)) = omega arith in rw e (rw (f, ← add-one (p + 1)))

  pub next-over : n ≤ p → next_end n s l p ≡ none
  unfolding next_end
  next-over h = let e : n - p ≡ 0 = omega arith in rw e

  -- what is found lies beyond line p, and an interval ends there;
  pub next-found : {x : ℕ} → next_end n s l p ≡ some x → (p < x) × (x ≤ n) × (ends x ≡ true)
  unfolding next_end
  next-found e = let w = first-within ends (p + 1) (n - p) e in (omega arith, omega arith, w.2)

  -- none does before it;
  pub next-before : {x : ℕ} → next_end n s l p ≡ some x → (r : ℕ) → p < r → r < x → ends r ≡ false
  unfolding next_end
  next-before e r u v = first-from ends (p + 1) (n - p) e r (omega arith) v

  -- where nothing is found, none does at all
  pub next-nowhere : next_end n s l p ≡ none → (r : ℕ) → p < r → r ≤ n → ends r ≡ false
  unfolding next_end
  next-nowhere e r u v = first-missed ends (p + 1) (n - p) e r (omega arith) (omega arith)

-- what a next end that was told says
end_at : (o : Option ℕ) (r : Line) → line_found o ≡ Some r → o ≡ some r.0
end_at none r e = cc
end_at (some x) r e = let q : line x ≡ r = cc in ap some (ap number q)

end-nowhere : (o : Option ℕ) → line_found o ≡ None → o ≡ none
end-nowhere none e = refl
end-nowhere (some x) e = cc

pub end_found : (o : Option ℕ) (f : Found Line) (r : Line) → f ≡ line_found o → f ≡ Some r → o ≡ some r.0
end_found o f r e q = end_at o r (sym e ∙ q)

pub no_end : (o : Option ℕ) (f : Found Line) → f ≡ line_found o → f ≡ None → o ≡ none
no_end o f e q = end-nowhere o (sym e ∙ q)

-- as the row's word tells it
module _ {n : ℕ} {s : List Span} (fits : n ≤ side) (listed : Listed n s) (l p k : ℕ) (found : k ≡ or_end bits (first (on (row_of s l)) (from p (bits - p)))) where
  off : (r : ℕ) → p < r → on (row_of s l) (r - 1) ≡ false → member (span l r) s ≡ false
  off r h f = sym (row-end n fits listed l r (omega arith)) ∙ f

  pub next_bit : k < bits → next_end n s l p ≡ some (k + 1)
  unfolding next_end
  next_bit h =
      let q = end-some bits k (first (on (row_of s l)) (from p (bits - p))) found h in
      let w = first-within (on (row_of s l)) p (bits - p) q in
      let t = sym (row_on n fits listed l k) ∙ w.2 in
      let b = listed-lines n s listed (span l (k + 1)) t in
      first-least (λ r. member (span l r) s) (p + 1) (n - p) (k + 1) (omega arith) (omega arith) t
      (λ r u v. off r (omega arith) (first-from (on (row_of s l)) p (bits - p) q (r - 1) (omega arith) (omega arith)))

  pub next_no_bit : bits ≤ k → next_end n s l p ≡ none
  unfolding next_end
  next_no_bit h =
      let q =
      end_none bits k (first (on (row_of s l)) (from p (bits - p)))
      (λ y e. let w = first-within (on (row_of s l)) p (bits - p) e in omega arith) found h in
      first-nowhere (λ r. member (span l r) s) (p + 1) (n - p)
      (λ r u v. let b = right_lines in off r (omega arith) (first-missed (on (row_of s l)) p (bits - p) q (r - 1) (omega arith) (omega arith)))

pub and_true : (b : Bool) → (b && true) ≡ b
and_true true = refl
and_true false = refl

pub and_false : (b : Bool) → (b && false) ≡ false
and_false true = refl
and_false false = refl

-- a row cut at line e
abbrev stays : ℕ → ℕ → List Span → Span → Bool
stays l e s j = member j s && not (eqb j.left l && ltb e j.right)

module _ (n l : ℕ) (s : List Span) where
  pub cut-listed : (e : ℕ) → Listed n (cut_at n l e s)
  unfolding cut_at
  cut-listed e = select-listed n (stays l e s)

  -- what stays
  pub cut-member : Listed n s → (e : ℕ) (j : Span) → member j (cut_at n l e s) ≡ stays l e s j
  unfolding cut_at
  cut-member listed e j =
      member-select n (stays l e s) j
      ∙ agree (proper j && leb j.right n && stays l e s j) (stays l e s j) (and_right (proper j && leb j.right n) (stays l e s j))
      (λ t.
      let w = listed-lines n s listed j (and_left (member j s) (not (eqb j.left l && ltb e j.right)) t) in
      rw (lines-proper j w.0, le-leb j.right n w.1) t)

  -- where there is no such row, or no line beyond, nothing is cut
  pub cut-none : Listed n s → (e : ℕ) → ((l < n) × (e < n) → ⊥) → s ≡ cut_at n l e s
  unfolding cut_at
  cut-none listed e h =
      listed
      ∙ select-same n (λ j. member j s) (stays l e s)
      (λ j u v.
      by_cases (ℕ_discrete j.left l)
      (λ x. rw (eq-eqb j.left l x, le-ltb e j.right (by_cases (dec_lt e n) (λ z. absurd (h (omega arith))) (λ z. omega arith))) (sym (and_true (member j s))))
      (λ x. rw (ne_eqb j.left l x) (sym (and_true (member j s)))))

  -- other rows stay
  pub cut-other : Listed n s → (e : ℕ) (j : Span) → (j.left ≡ l → ⊥) → member j (cut_at n l e s) ≡ member j s
  cut-other listed e j d = cut-member listed e j ∙ rw (ne_eqb j.left l d) (and_true (member j s))

-- of the row's word the bits before bit e stay
pub cut-row : {n : ℕ} {t : List ℕ} → Tabled n t → (l e w : ℕ) → l < n → w < 2 ^ bits → ((k : ℕ) → on w k ≡ (ltb k e && on (get_or t l 0) k))
    → set t l w ≡ table_of (cut_at n l e (set_of n t))
cut-row {n} {t} T l e w h small told =
    let s = set_of n t in
    let listed = set-listed n t in
    let fits = T.fits in
    set-row T l w (cut_at n l e s) (omega arith) small
    (λ k.
    told k
    ∙ ap (ltb k e &&◌) (tabled-on T l k (omega arith))
    ∙ here k (member (span l (k + 1)) s)
    ∙ sym (cut-member n l s listed e (span l (k + 1))))
    (cut-other n l s listed e)
  where
    here : (k : ℕ) (m : Bool) → (ltb k e && m) ≡ (m && not (eqb l l && ltb e (k + 1)))
    here k m =
        by_cases (dec_lt k e)
        (λ u. rw (lt-ltb k e u, eq-eqb l l refl, le-ltb e (k + 1) (omega arith)) (sym (and_true m)))
        (λ u. rw (le-ltb k e (omega arith), eq-eqb l l refl, lt-ltb e (k + 1) (omega arith)) (sym (and_false m)))
