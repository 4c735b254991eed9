-- `reduce` meets its contract: before line l the rows are as rule 4 leaves them, and the interval that is carried reaches as far as the staircase.
use mathlib.Core.Path.{◌≡◌, refl, ap, ◌∙◌, subst, subst⁻¹}
use Prim.Native.Nat.{◌+◌}
use Rattle.method.specs.Intervals.{Interval as Span, span}
use Rattle.grid.specs.Lines.{span_of}
use Rattle.grid.proofs.Edges.{number}
use Rattle.intervals.specs.Table.{row_of, set_of, table_of, with, without}
use Rattle.intervals.specs.Reach.{reach}
use Rattle.intervals.specs.declared.Table.{Table}
use Rattle.intervals.proofs.Comparisons.{less, not-less}
use Rattle.intervals.proofs.TableLaws.{set-listed}
use Rattle.intervals.proofs.ReduceRows.{asked-end, row-reach}
use Rattle.intervals.proofs.ReduceTurns.{Turn, start, level, jump, finish}
use Rattle.intervals.proofs.reduce.reduce.Goals as goal
use Rattle.intervals.proofs.reduce.reduce.Goals.{then-lt, else-lt}

pub loop-l-init : goal.loop-l-init
loop-l-init c = let a = c.args in
    (refl, start a.t.now.last.0 a.d.left.0 a.d.right.0 a.t.now.rows a.t.now.tabled)

pub loop-l-preserved : goal.loop-l-preserved
loop-l-preserved c = let a = c.args in
    let n = a.t.now.last.0 in
    let t = c.loop-l.t in
    let I = c.loop-l.invariant in
    let p : t.last.0 ≡ n = ap number I.0 in
    let l = c.loop-l.l in
    let q = c.reached.result.0 in
    let found : q ≡ reach (set_of n t.rows) l c.loop-l.outer.right.0 a.d.right.0 =
    ap number c.reached.ensures
    ∙ row-reach a.t.now.tabled.fits (set-listed n t.rows) l c.loop-l.outer.right.0 a.d.right.0
    (c.row.ensures ∙ ap (λ m. row_of (set_of m t.rows) l) p)
    (asked-end n a.d c.up_to.result c.meet-asked.result c.up_to.ensures c.meet-asked.ensures) in
    let Next : Table → Span → Type 0 = λ t o. (t.last ≡ a.t.now.last) × Turn n a.d.left.0 a.d.right.0 a.t.now.rows (l + 1) t.rows o in
    elim c.if-lt.branch [
      | then-lt w ↦
          let t1 = w.take.new.self in
          let t2 = w.put.new.self in
          let kept = w.take.ensures.last ∙ I.0 in
          let one = subst (λ m. t1.rows ≡ table_of (without m (span l q) (set_of m t.rows))) p w.take.ensures.rows in
          let two = subst (λ m. t2.rows ≡ table_of (with m (span_of w.meet.result) (set_of m t1.rows))) (ap number kept) w.put.ensures.rows in
          subst⁻¹ (λ t. Next t (span_of c.if-lt.outer)) w.t-is
          (subst⁻¹ (λ o. Next t2 (span_of o)) w.outer-is (
            w.put.ensures.last ∙ kept,
            jump I.1 q found c.loop-l-test.true (less c.loop-l.outer.right.0 q c.lt.ensures w.if-lt.true) t1.rows t2.rows one
                (two ∙ ap (λ i. table_of (with n (span_of i) (set_of n t1.rows))) w.meet.ensures),
          ))
      | else-lt w ↦
          subst⁻¹ (λ t. Next t (span_of c.if-lt.outer)) w.t-is
          (subst⁻¹ (λ o. Next t (span_of o)) w.outer-is (I.0, level I.1 q found (not-less c.loop-l.outer.right.0 q c.lt.ensures w.if-lt.false)))
    ]

pub returns-clause-rows : goal.returns-clause-rows
returns-clause-rows c = finish c.loop-l.invariant.1 c.loop-l-test.false
