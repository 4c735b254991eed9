-- `dependent` meets its contract: the two lines are the greatest of the bracket's rows before line l, and every column before l is held twice.
-- With row l the lines beyond l are the intervals that hold column l: no later row holds it.
use Rattle.std.proofs.Common.{arith}
use Rattle.intervals.proofs.Comparisons.{at-most, beyond}
use mathlib.Core.Path.{◌≡◌, sym, ap, ◌∙◌}
use mathlib.Core.Bool.{true, false}
use mathlib.Core.List.{List}
use mathlib.Core.Logic.{by_cases}
use Prim.Native.Nat.{ℕ, suc, ◌+◌, ◌≤◌, ◌<◌}
use native.Mathlib.Decide.{ℕ_discrete}
use native.Mathlib.Numerals.{add-one}
use Rattle.lists.proofs.Truth.{fails}
use Rattle.method.specs.Intervals.{Interval as Span, span}
use Rattle.method.specs.Dependent.{covered_inside, dependent}
use Rattle.method.specs.Runs.{Listed}
use Rattle.method.proofs.Sets.{has, K}
use Rattle.method.proofs.Boxes.{K-rows, K-no-rows}
use Rattle.method.proofs.Counts.{covered-box}
use Rattle.method.proofs.Lines.{holds-lines, lines_hold}
use Rattle.method.proofs.Minimal.{dependent-proper, dependent-twice, dependent_if, dependent-within}
use Rattle.grid.specs.Lines.{span_of}
use Rattle.intervals.specs.declared.dependent.Tops.{Tops}
use Rattle.intervals.specs.Spans.{spans}
use Rattle.intervals.specs.Tops.{tops, ends_beyond, Greatest, WithRow}
use Rattle.intervals.proofs.TableLaws.{set-listed, within-lines, within_none}
use Rattle.intervals.proofs.TopLines.{ends-box, no_lines, greatest-same}
use Rattle.intervals.proofs.dependent.dependent.Invariants.{Turn}
use Rattle.intervals.proofs.dependent.dependent.Goals as goal

start : (s : List Span) (a b : ℕ) → Turn s a b a (tops a a)
start s a b =
    record {
      low = omega arith;
      greatest = no_lines a (λ x. K (has s) a a x b) (λ x. K-no-rows (has s) a a x b (omega arith));
      twice = λ x u v. absurd (omega arith);
    }

-- one column held less than twice, or all of them held twice
not-twice : (s : List Span) (a b x : ℕ) → a ≤ x → x < b → covered_inside s (span a b) x < 2 → false ≡ dependent s (span a b)
not-twice s a b x l r h =
    sym (fails (dependent s (span a b)) (λ t. omega (arith, dependent-twice s (span a b) t x (lines_hold x (span a b) l r))))

all-twice : (s : List Span) (a b : ℕ) → a < b → ((x : ℕ) → a ≤ x → x < b → 2 ≤ covered_inside s (span a b) x) → true ≡ dependent s (span a b)
all-twice s a b h each = sym (dependent_if s (span a b) h (λ x t. let w = holds-lines x (span a b) t in each x w.0 w.1))

module _ (n : ℕ) {s : List Span} (listed : Listed n s) {a b l : ℕ} {t u : Tops} (T : Turn s a b l t) (row : WithRow s l b t u) where
  -- with row l
  taken : Greatest a (λ x. K (has s) a (suc l) x b) u
  taken =
      let low = T.low in
      greatest-same a (λ x. K (has s) a l x b + ends_beyond s l b x) (λ x. K (has s) a (suc l) x b) u
      (λ x. omega (arith, ends-box n listed l b x, K-rows (has s) a l (suc l) x b (omega arith) (omega arith)))
      (row a (λ x. K (has s) a l x b) T.greatest)

  once : u.lesser.0 ≤ l → covered_inside s (span a b) l < 2
  once h = omega (arith, covered-box n s listed a b l, taken.single l h)

  next : l < u.lesser.0 → Turn s a b (l + 1) u
  next h =
      let here : 2 ≤ covered_inside s (span a b) l = omega (arith, covered-box n s listed a b l, taken.two l T.low h) in
      record {
        low = omega (arith, T.low);
        greatest = rw add-one taken;
        twice = λ x v w.
            by_cases (ℕ_discrete x l)
            (λ e. omega (arith, ap (covered_inside s (span a b)) e))
            (λ e. T.twice x v (omega arith));
      }

pub returns-then-not-within : goal.returns-then-not-within
returns-then-not-within c = let t = c.args.t.now in
    let s = spans t in
    let d = span_of c.args.d in
    sym
    (fails (dependent s d)
    (λ h.
    within_none t.last.0 d (sym c.within.ensures ∙ c.if-not-within.true)
    (dependent-proper s d h, dependent-within t.last.0 s d (set-listed t.last.0 t.rows) h)))

pub loop-l-init : goal.loop-l-init
loop-l-init c = let a = c.args in
    start (spans a.t.now) a.d.left.0 a.d.right.0

pub returns-then-le : goal.returns-then-le
returns-then-le c = let a = c.args in
    let t = a.t.now in
    let T = c.loop-l.invariant in
    not-twice (spans t) a.d.left.0 a.d.right.0 c.loop-l.l T.low c.loop-l-test.true
    (once t.last.0 (set-listed t.last.0 t.rows) T c.with_row-tops.ensures (omega (arith, at-most c.with_row-tops.result.lesser.0 c.loop-l.l c.le.ensures c.if-le.true)))

pub loop-l-preserved : goal.loop-l-preserved
loop-l-preserved c = let t = c.args.t.now in
    next t.last.0 (set-listed t.last.0 t.rows) c.loop-l.invariant c.with_row-tops.ensures (omega (arith, beyond c.with_row-tops.result.lesser.0 c.loop-l.l c.le.ensures c.if-le.false))

pub returns : goal.returns
returns c = let a = c.args in
    let t = a.t.now in
    let lines = within-lines t.last.0 (span_of a.d) (sym c.within.ensures ∙ c.if-not-within.false) in
    all-twice (spans t) a.d.left.0 a.d.right.0 lines.0 (λ x u w. c.loop-l.invariant.twice x u (omega arith))
