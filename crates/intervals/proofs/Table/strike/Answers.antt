-- `strike` meets its contract: the rows before line l are struck, and all others are as they were.
use Rattle.std.proofs.Common.{arith}
use mathlib.Core.Path.{◌≡◌, refl, sym, ap, ◌∙◌}
use Rattle.method.specs.Strike.{strike}
use Rattle.grid.proofs.Edges.{number}
use Rattle.intervals.specs.Table.{table_of, cut_at}
use Rattle.intervals.specs.Spans.{spans}
use Rattle.intervals.specs.Counts.{begun_before}
use Rattle.intervals.proofs.TableLaws.{set-listed, left_to}
use Rattle.intervals.proofs.ColumnRows.{struck_to, struck_listed, struck_none, struck_next, struck_all}
use Rattle.intervals.proofs.Table.strike.Goals as goal

pub loop-l-init : goal.loop-l-init
loop-l-init c = let t = c.args.self.now in
    let n = t.last.0 in
    (refl, t.tabled.whole ∙ ap table_of (struck_none n (spans t) c.left_line-edge.result.0 (set-listed n t.rows)))

pub loop-l-preserved : goal.loop-l-preserved
loop-l-preserved c = let t = c.args.self.now in
    let n = t.last.0 in
    let S = spans t in
    let x = c.left_line-edge.result.0 in
    let l = c.loop-l.l in
    let I = c.loop-l.invariant in
    let p = ap number I.0 in
    let so = left_to n (struck_to n S x l) t.tabled.fits (struck_listed n S x l) p I.1 in
    (c.cut.ensures.last ∙ I.0, c.cut.ensures.rows ∙ ap table_of ((λ i. cut_at (p i) l x (so i)) ∙ struck_next n S x l))

pub returns-clause-rows : goal.returns-clause-rows
returns-clause-rows c = let t = c.args.self.now in
    let n = t.last.0 in
    let x = c.left_line-edge.result.0 in
    let edge : x ≡ c.args.column.0 = ap number c.left_line-edge.ensures in
    let end : c.begun_before-end.result.0 ≡ begun_before n x = ap number c.begun_before-end.ensures ∙ ap (begun_before n) (sym edge) in
    let over : c.loop-l.l ≡ begun_before n x = omega (arith, end) in
    c.loop-l.invariant.1
    ∙ ap table_of (ap (struck_to n (spans t) x) over ∙ struck_all n (spans t) x (set-listed n t.rows) ∙ ap (λ y. strike y (spans t)) edge)
