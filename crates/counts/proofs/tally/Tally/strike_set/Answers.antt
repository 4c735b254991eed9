-- `strike_set` meets its contract. The loop's invariant: the rows before line l are struck, and the others are still to be.
use Rattle.std.proofs.Common.{arith}
use mathlib.Core.Path.{◌≡◌, refl, ap, subst, subst⁻¹, ◌∙◌}
use mathlib.Core.Bool.{false}
use Rattle.lists.specs.Lists.{keep}
use Rattle.method.specs.Intervals.{holds}
use Rattle.method.specs.Strike.{strike}
use Rattle.grid.proofs.Edges.{number}
use Rattle.intervals.specs.Table.{table_of, cut_at}
use Rattle.intervals.specs.Spans.{spans}
use Rattle.intervals.proofs.TableLaws.{set-listed, left_to}
use Rattle.intervals.proofs.ColumnRows.{struck_to, struck_listed, struck_next}
use Rattle.counts.specs.Tally.{Changed}
use Rattle.counts.proofs.StrikeLaws.{Striking, struck_bare, striking_start, row_can, striking_next, striking_over}
use Rattle.counts.proofs.tally.Tally.strike_set.Goals as goal

pub loop-l-init : goal.loop-l-init
loop-l-init c =
    let a = c.args in
    let t = a.set.now in
    let n = t.last.0 in
    let u = a.self.now in
    subst⁻¹ (λ x. (t.last ≡ t.last) × (t.rows ≡ table_of (struck_to n (spans t) x a.first.0)) × Striking n x (spans t) u.rises u.falls a.first.0 u.rises u.falls)
    (ap number c.left_line-edge.ensures) (
      refl,
      t.tabled.whole ∙ ap table_of (struck_bare n (spans t) a.column.0 a.first.0 (set-listed n t.rows) c.requires.holding),
      striking_start (set-listed n t.rows) c.requires.holding c.requires.can_change,
    )

pub count_row-requires : goal.count_row-requires
count_row-requires c =
    let t = c.args.set.now in
    let n = t.last.0 in
    let x = c.left_line-edge.result.0 in
    let i = c.loop-l.invariant in
    row_can i.2 (omega arith) (ap number i.0) (left_to n (struck_to n (spans t) x c.loop-l.l) t.tabled.fits (struck_listed n (spans t) x c.loop-l.l) (ap number i.0) i.1)

pub loop-l-preserved : goal.loop-l-preserved
loop-l-preserved c =
    let t = c.args.set.now in
    let n = t.last.0 in
    let x = c.left_line-edge.result.0 in
    let l = c.loop-l.l in
    let i = c.loop-l.invariant in
    let p = ap number i.0 in
    let so = left_to n (struck_to n (spans t) x l) t.tabled.fits (struck_listed n (spans t) x l) p i.1 in (
      c.cut.ensures.last ∙ i.0,
      c.cut.ensures.rows ∙ ap table_of ((λ j. cut_at (p j) l x (so j)) ∙ struck_next n (spans t) x l),
      striking_next i.2 (omega arith) p so c.count_row.ensures,
    )

pub returns : goal.returns
returns c =
    let a = c.args in
    let t = a.set.now in
    let u = a.self.now in
    let v = c.loop-l.self in
    let i = c.loop-l.invariant in
    let over = striking_over i.2 (set-listed t.last.0 t.rows) (omega arith) in
    let struck =
    subst (λ x. (c.loop-l.set.rows ≡ table_of (strike x (spans t))) × Changed false u.rises u.falls (keep (holds x) (spans t)) v.rises v.falls) (ap number c.left_line-edge.ensures)
    (i.1 ∙ ap table_of over.0, over.1) in
    record { rows = struck.0; last = i.0; changed = struck.1 }
