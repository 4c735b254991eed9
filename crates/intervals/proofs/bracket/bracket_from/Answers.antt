-- `bracket_from` meets its contract: before each right line no dependent bracket ends, so the first left line downwards gives a minimal one.
use Rattle.std.proofs.Common.{arith}
use mathlib.Core.Path.{◌≡◌, sym, ap, ◌∙◌}
use mathlib.Core.Bool.{true, false}
use mathlib.Core.List.{List}
use Prim.Native.Nat.{ℕ, suc, ◌+◌, ◌-◌, ◌≤◌, ◌<◌}
use Rattle.method.specs.Intervals.{Interval as Span, span}
use Rattle.method.specs.Dependent.{dependent}
use Rattle.method.specs.Final.{leftmost}
use Rattle.method.proofs.Search.{downward, downward-hit, downward_miss, downward-end, downward-minimal, before-next}
use Rattle.grid.specs.Lines.{interval}
use Rattle.std.specs.Prelude.{None, Some}
use Rattle.intervals.specs.Table.{found_of}
use Rattle.intervals.specs.Spans.{spans}
use Rattle.intervals.specs.Search.{NoneBefore}
use Rattle.intervals.proofs.LeftmostAt.{leftmost-at, leftmost-past}
use Rattle.intervals.proofs.bracket.bracket_from.Invariants.{Passed}
use Rattle.intervals.proofs.bracket.bracket_from.Goals as goal

module _ (n : ℕ) (s : List Span) (r : ℕ) (before : NoneBefore s r) where
  past : n < r → None ≡ found_of (leftmost n s)
  past h = ap found_of (sym (leftmost-past n s r h before))

  back : (l k : ℕ) → l ≡ suc k → dependent s (span k r) ≡ false → Passed s r l → Passed s r k
  back l k e f p = p ∙ ap (downward s r) e ∙ downward_miss s r k f

  leave : (l : ℕ) → l ≤ 0 → Passed s r l → NoneBefore s (r + 1)
  leave l h p d t =
      let e : l ≡ 0 = omega arith in
      omega (arith, before-next s r before (p ∙ ap (downward s r) e ∙ downward-end s r) d t)

  hit : (l k : ℕ) → l ≡ suc k → r ≤ n → true ≡ dependent s (span k r) → Passed s r l → Some (interval k r) ≡ found_of (leftmost n s)
  hit l k e h t p =
      ap found_of
      (sym (leftmost-at n s (span k r) (downward-minimal s r before (p ∙ ap (downward s r) e ∙ downward-hit s r k (sym t))) h before))

pub loop-left-preserved : goal.loop-left-preserved
loop-left-preserved c = let t = c.args.t.now in
    let l = c.loop-left.left in
    back t.last.0 (spans t) c.search.right c.search.invariant l (l - 1) (omega arith) (sym c.dependent.ensures ∙ c.if-dependent.false) c.loop-left.invariant

pub search-preserved : goal.search-preserved
search-preserved c = let t = c.args.t.now in
    leave t.last.0 (spans t) c.search.right c.search.invariant c.loop-left.left (omega arith) c.loop-left.invariant

pub returns-then-end-right : goal.returns-then-end-right
returns-then-end-right c = let t = c.args.t.now in
    past t.last.0 (spans t) c.search.right c.search.invariant (omega arith)

pub returns-then-dependent : goal.returns-then-dependent
returns-then-dependent c = let t = c.args.t.now in
    let l = c.loop-left.left in
    hit t.last.0 (spans t) c.search.right c.search.invariant l (l - 1) (omega arith) (omega arith) (sym c.if-dependent.true ∙ c.dependent.ensures)
    c.loop-left.invariant
