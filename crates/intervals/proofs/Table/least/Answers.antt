-- `least` meets its contract: from no line passed does an interval hold the column, and of the first row that has one the first end beyond it is the least.
use Rattle.std.proofs.Common.{arith}
use mathlib.Core.Path.{◌≡◌, sym, ap, ◌∙◌}
use Rattle.method.specs.Strike.{least}
use Rattle.grid.proofs.Edges.{number}
use Rattle.intervals.specs.Table.{found_of}
use Rattle.intervals.specs.Spans.{spans}
use Rattle.intervals.specs.Counts.{begun_before}
use Rattle.intervals.proofs.TableLaws.{set-listed}
use Rattle.intervals.proofs.TableRows.{end_found, no_end}
use Rattle.intervals.proofs.ColumnRows.{least_start, least-here, least_on, least-over}
use Rattle.intervals.proofs.Table.least.Goals as goal

pub loop-l-init : goal.loop-l-init
loop-l-init c = let t = c.args.self.now in
    least_start t.last.0 (spans t) c.left_line-edge.result.0 (set-listed t.last.0 t.rows) c.args.from.0 c.requires.none_begins

pub returns-in-Some : goal.returns-in-Some
returns-in-Some c = let t = c.args.self.now in
    let n = t.last.0 in
    let x = c.left_line-edge.result.0 in
    let edge : x ≡ c.args.column.0 = ap number c.left_line-edge.ensures in
    let end : c.begun_before-end.result.0 ≡ begun_before n x = ap number c.begun_before-end.ensures ∙ ap (begun_before n) (sym edge) in
    let found = end_found _ _ _ c.next_end.ensures c.in-Some.is in
    ap found_of
    (sym (c.loop-l.invariant ∙ least-here n (spans t) x c.loop-l.l (omega (arith, end)) c.in-Some.right.0 found) ∙ ap (λ y. least y (spans t)) edge)

pub loop-l-preserved : goal.loop-l-preserved
loop-l-preserved c = let t = c.args.self.now in
    let n = t.last.0 in
    let x = c.left_line-edge.result.0 in
    let edge : x ≡ c.args.column.0 = ap number c.left_line-edge.ensures in
    let end : c.begun_before-end.result.0 ≡ begun_before n x = ap number c.begun_before-end.ensures ∙ ap (begun_before n) (sym edge) in
    c.loop-l.invariant ∙ least_on n (spans t) x c.loop-l.l (omega (arith, end)) (no_end _ _ c.next_end.ensures c.in_default.is)

pub returns : goal.returns
returns c = let t = c.args.self.now in
    let n = t.last.0 in
    let x = c.left_line-edge.result.0 in
    let edge : x ≡ c.args.column.0 = ap number c.left_line-edge.ensures in
    let end : c.begun_before-end.result.0 ≡ begun_before n x = ap number c.begun_before-end.ensures ∙ ap (begun_before n) (sym edge) in
    ap found_of (sym (c.loop-l.invariant ∙ least-over n (spans t) x c.loop-l.l (omega (arith, end))) ∙ ap (λ y. least y (spans t)) edge)
