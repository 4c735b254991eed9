-- `held` meets its contract: after the rows before line l the count is that of their intervals that hold the column.
use Rattle.std.proofs.Common.{arith}
use mathlib.Core.Path.{◌≡◌, sym, ap, ◌∙◌}
use Prim.Native.Nat.{◌+◌}
use Rattle.lists.specs.Lists.{count}
use Rattle.method.specs.Intervals.{holds}
use Rattle.grid.proofs.Edges.{number}
use Rattle.intervals.specs.Spans.{spans}
use Rattle.intervals.specs.Counts.{begun_before}
use Rattle.intervals.proofs.TableLaws.{set-listed}
use Rattle.intervals.proofs.SetSizes.{set_bound}
use Rattle.intervals.proofs.RowCounts.{before, before-none, before_bound}
use Rattle.intervals.proofs.ColumnRows.{held_next, held_all}
use Rattle.intervals.proofs.Table.held.Goals as goal

pub loop-l-init : goal.loop-l-init
loop-l-init c = sym (before-none (spans c.args.self.now) (holds c.left_line-edge.result.0))

pub overflow_add-n : goal.overflow_add-n
overflow_add-n c = let t = c.args.self.now in
    let n = t.last.0 in
    let x = c.left_line-edge.result.0 in
    let edge : x ≡ c.args.column.0 = ap number c.left_line-edge.ensures in
    let end : c.begun_before-end.result.0 ≡ begun_before n x = ap number c.begun_before-end.ensures ∙ ap (begun_before n) (sym edge) in
    omega (
      arith,
      c.loop-l.invariant,
      c.ends_beyond-n.ensures,
      held_next n (spans t) (set-listed n t.rows) x c.loop-l.l (omega (arith, end)),
      before_bound (spans t) (holds x) (c.loop-l.l + 1),
      set_bound n t.rows t.tabled.fits,
    )

pub loop-l-preserved : goal.loop-l-preserved
loop-l-preserved c = let t = c.args.self.now in
    let n = t.last.0 in
    let x = c.left_line-edge.result.0 in
    let edge : x ≡ c.args.column.0 = ap number c.left_line-edge.ensures in
    let end : c.begun_before-end.result.0 ≡ begun_before n x = ap number c.begun_before-end.ensures ∙ ap (begun_before n) (sym edge) in
    omega (
      arith,
      c.loop-l.invariant,
      c.ends_beyond-n.ensures,
      held_next n (spans t) (set-listed n t.rows) x c.loop-l.l (omega (arith, end)),
    )

pub returns : goal.returns
returns c = let t = c.args.self.now in
    let n = t.last.0 in
    let x = c.left_line-edge.result.0 in
    let edge : x ≡ c.args.column.0 = ap number c.left_line-edge.ensures in
    let end : c.begun_before-end.result.0 ≡ begun_before n x = ap number c.begun_before-end.ensures ∙ ap (begun_before n) (sym edge) in
    let over : c.loop-l.l ≡ begun_before n x = omega (arith, end) in
    c.loop-l.invariant
    ∙ ap (before (spans t) (holds x)) over
    ∙ held_all n (spans t) (set-listed n t.rows) x
    ∙ ap (λ y. count (holds y) (spans t)) edge
