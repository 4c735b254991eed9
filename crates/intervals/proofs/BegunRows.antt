-- The first line from another on at which an interval begins: step by step, by the rows' words, and what lies before it.
use mathlib.Core.Path.{◌≡◌, refl, sym, ap, ◌∙◌}
use mathlib.Core.Bool.{true, false}
use mathlib.Core.List.{List}
use mathlib.Core.Logic.{by_cases}
use Prim.Native.Nat.{ℕ, ◌+◌, ◌-◌, ◌≤◌, ◌<◌}
use native.Mathlib.Omega.{arith}
use Rattle.std.specs.Prelude.{Option, Some, None, MatchOption}
use Rattle.grid.specs.Lines.{line}
use Rattle.grid.specs.declared.lines.Line.{Line}
use native.Mathlib.Decide.{dec_lt}
use lib.Dec.{eqb}
use borrow.Author.Tests.{eq-eqb, eqb-true}
use Rattle.lists.specs.Lists.{first, from}
use Rattle.lists.proofs.Truth.{bcase, ocase, never, fails}
use Rattle.lists.proofs.Members.{any_of, none_any}
use Rattle.lists.proofs.Ranges.{first-from}
use Rattle.lists.proofs.Searches.{first-least, first-nowhere, first-missed}
use Rattle.method.specs.Intervals.{Interval as Span, span, member}
use Rattle.method.specs.Runs.{Listed}
use Rattle.method.proofs.Listed.{listed-lines, member_in, in_member}
use Rattle.grid.specs.Limits.{side}
use Rattle.grid.specs.Code.{or_end}
use Rattle.words.specs.Words.{on}
use Rattle.words.proofs.Words.{on-zero, word_bits}
use Rattle.intervals.specs.Table.{row_of, begun_at, begun_from, NoneBegins}
use Rattle.intervals.proofs.TableLaws.{row-end}

-- what `find` and `map_or` tell of the first line at which an interval begins
pub begun-found : (s : List Span) (p n : ℕ) (r : Option ℕ) (out : Line)
    → MatchOption r ((k : ℕ) → p ≤ k → k < n → begun_at s k ≡ false) (λ i. (p ≤ i) × (i < n) × (begun_at s i ≡ true) × ((k : ℕ) → p ≤ k → k < i → begun_at s k ≡ false))
    → MatchOption r (out ≡ line n) (λ i. out ≡ line i) → out ≡ line (begun_from n s p)
unfolding begun_from
begun-found s p n None out d m = m ∙ ap (λ o. line (or_end n o)) (sym (first-nowhere (begun_at s) p (n - p) (λ y l u. d y l (omega arith))))
begun-found s p n (Some i) out d m = m ∙ ap (λ o. line (or_end n o)) (sym (first-least (begun_at s) p (n - p) i d.0 (omega (arith, d.0, d.1)) d.2 d.3))

-- an interval of the set begins at its left line
begun-member : (s : List Span) (i : Span) → member i s ≡ true → begun_at s i.left ≡ true
unfolding begun_at
begun-member s i m = any_of (λ j. eqb j.left i.left) (member_in i s m) (eq-eqb i.left i.left refl)

-- as the row's word tells it
module _ {n : ℕ} {s : List Span} (fits : n ≤ side) (listed : Listed n s) (l : ℕ) where
  pub row-bare : row_of s l ≡ 0 → begun_at s l ≡ false
  unfolding begun_at
  row-bare e =
      none_any (λ i. eqb i.left l) s
      (λ i m.
      fails (eqb i.left l)
      (λ t.
      let w = listed-lines n s listed i (in_member m) in
      let q = eqb-true i.left l t in
      never (ap (λ x. member (span x i.right) s) (sym q) ∙ in_member m)
      (sym (row-end n fits listed l i.right (omega arith)) ∙ ap (λ x. on x (i.right - 1)) e ∙ on-zero (i.right - 1))))

  pub row-begun : (row_of s l ≡ 0 → ⊥) → begun_at s l ≡ true
  row-begun h =
      bcase (begun_at s l) (λ t. t)
      (λ f.
      absurd
      (h
      (sym
      (word_bits (omega arith)
      (λ k u. on-zero k ∙ sym (fails (member (span l (k + 1)) s) (λ m. never (begun-member s (span l (k + 1)) m) f)))))))

-- where none begins before a line, none begins before the first line from it on at which one does
pub none-begins : (n : ℕ) (s : List Span) (p : ℕ) → Listed n s → NoneBegins s p → NoneBegins s (begun_from n s p)
unfolding begun_from
none-begins n s p listed since i m =
    let w = listed-lines n s listed i m in
    let b = since i m in
    let t = begun-member s i m in
    ocase (first (begun_at s) (from p (n - p)))
    (λ e. absurd (never t (first-missed (begun_at s) p (n - p) e i.left b (omega arith))))
    (λ x e.
    rw e
    (by_cases (dec_lt i.left x) (λ u. absurd (never t (first-from (begun_at s) p (n - p) e i.left b u))) (λ u. omega arith)))
