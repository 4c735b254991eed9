-- A column struck from a set row by row, the counts with it: the rows before line l are struck, and what the others hold of the column is still to go.
-- `strike_set` uses it.
use mathlib.Core.Path.{◌≡◌, sym, ap, subst, ◌∙◌}
use mathlib.Core.Bool.{false, not, ◌&&◌, and-true}
use mathlib.Core.List.{List, ◌++◌}
use Prim.Native.Nat.{ℕ, ◌+◌, ◌≤◌, ◌<◌}
use native.Mathlib.Omega.{arith}
use lib.Dec.{ltb}
use borrow.Author.Tests.{ltb-true, le-ltb, le-leb}
use Rattle.lists.specs.Lists.{keep}
use Rattle.lists.proofs.Truth.{bcase, fails, and_left, and_right}
use Rattle.method.specs.Intervals.{Interval as Span, span, holds, member}
use Rattle.method.specs.Strike.{strike}
use Rattle.method.specs.Runs.{Listed}
use Rattle.method.proofs.Lines.{lines_hold, lines-proper}
use Rattle.method.proofs.Listed.{member-select, select-same}
use Rattle.intervals.proofs.ColumnRows.{begun-on, struck_to, struck_all}
use Rattle.counts.specs.Rows.{row_beyond, Holding}
use Rattle.counts.specs.Tally.{Changed, CanChange}
use Rattle.counts.proofs.RowLaws.{row_same, hits_from, hits_start, hits_next, hits_over}
use Rattle.counts.proofs.TallyLaws.{Going, going_start, going_over, next_can, going_next}

module _ (n : ℕ) (s : List Span) (c l : ℕ) where
  -- where no interval that holds the column begins before line l, striking the rows before it changes nothing
  pub struck_bare : Listed n s → Holding n s l c → s ≡ struck_to n s c l
  unfolding struck_to
  struck_bare listed H =
      listed
      ∙ select-same n (λ j. member j s) (λ j. member j s && not (ltb j.left l && ltb c j.right))
      (λ j u v.
      bcase (member j s)
      (λ m.
      let f =
      fails (ltb j.left l && ltb c j.right)
      (λ t.
      let a = ltb-true j.left l (and_left (ltb j.left l) (ltb c j.right) t) in
      let b = ltb-true c j.right (and_right (ltb j.left l) (ltb c j.right) t) in
      omega (arith, H.early, H.none_before j m (lines_hold c j (omega (arith, H.early)) b))) in
      rw (m, f))
      (λ m. rw m))

  -- row l is as it was
  struck_row : l ≤ c → (r : ℕ) → c < r → r ≤ n → member (span l r) (struck_to n s c l) ≡ member (span l r) s
  unfolding struck_to
  struck_row h r u v =
      member-select n (λ j. member j s && not (ltb j.left l && ltb c j.right)) (span l r)
      ∙ rw (lines-proper (span l r) (omega arith), le-leb r n v, le-ltb l l (omega arith)) (and-true (member (span l r) s))

-- rows of column c's intervals, of which those before line l have gone from the counts
pub record Striking (n c : ℕ) (s : List Span) (begins₀ ends₀ : List ℕ) (l : ℕ) (begins ends : List ℕ) : Type 0 where
  pub early : l ≤ c + 1
  pub below : c < n
  pub going : Going false begins₀ ends₀ (keep (holds c) s) begins ends (hits_from n s c l)

pub striking_start : {n c l : ℕ} {s : List Span} {begins ends : List ℕ} → Listed n s → Holding n s l c → CanChange false begins ends (keep (holds c) s)
    → Striking n c s begins ends l begins ends
striking_start {n} {c} {l} {s} {begins} {ends} listed H C =
    record {
      early = omega (arith, H.early);
      below = H.below;
      going = subst (Going false begins ends (keep (holds c) s) begins ends) (hits_start n s c listed l H) (going_start false begins ends (keep (holds c) s) C);
    }

module _ {n c l : ℕ} {s : List Span} {begins₀ ends₀ begins ends : List ℕ} (S : Striking n c s begins₀ ends₀ l begins ends) where
  -- the set so far
  module _ (h : l ≤ c) {m : ℕ} {s' : List Span} (p : m ≡ n) (so : s' ≡ struck_to n s c l) where
    next_hits : hits_from n s c l ≡ row_beyond m s' l c ++ hits_from n s c (l + 1)
    next_hits =
        let row : row_beyond m s' l c ≡ row_beyond n (struck_to n s c l) l c = (λ i. row_beyond (p i) (so i) l c) in
        hits_next n s c l h S.below ∙ ap (λ z. z ++ hits_from n s c (l + 1)) (sym (row ∙ row_same n (struck_to n s c l) l c s (struck_row n s c l h)))

    pub row_can : CanChange false begins ends (row_beyond m s' l c)
    row_can = next_can S.going (row_beyond m s' l c) (hits_from n s c (l + 1)) next_hits

    pub striking_next : {begins' ends' : List ℕ} → Changed false begins ends (row_beyond m s' l c) begins' ends' → Striking n c s begins₀ ends₀ (l + 1) begins' ends'
    striking_next C =
        record {
          early = omega arith;
          below = S.below;
          going = going_next S.going (row_beyond m s' l c) (hits_from n s c (l + 1)) next_hits C;
        }

  pub striking_over : Listed n s → c < l → (struck_to n s c l ≡ strike c s) × Changed false begins₀ ends₀ (keep (holds c) s) begins ends
  striking_over listed h =
      let e : l ≡ c + 1 = omega (arith, S.early) in
      (ap (struck_to n s c) (e ∙ sym (begun-on n c S.below)) ∙ struck_all n s c listed, going_over S.going (hits_over n s c l h))
