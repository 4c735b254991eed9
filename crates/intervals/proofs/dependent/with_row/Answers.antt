-- `with_row` meets its contract: what `furthest` finds beyond the lesser line is the row's greatest there, and beyond the greater line its next.
use Rattle.intervals.proofs.Comparisons.{at-most, beyond}
use Rattle.intervals.proofs.TableLaws.{set-listed}
use Rattle.intervals.proofs.TopLines.{row_lesser, row-greater}
use Rattle.intervals.proofs.dependent.with_row.Goals as goal

pub returns-then-le : goal.returns-then-le
returns-then-le c = let a = c.args in
    let n = a.t.now.last.0 in
    let one = c.furthest-one in
    row_lesser n (set-listed n a.t.now.rows) a.left.0 a.right.0 a.tops.greater.0 a.tops.lesser.0 one.result.0
    one.ensures (at-most one.result.0 a.tops.greater.0 c.le.ensures c.if-le.true)

pub returns : goal.returns
returns c = let a = c.args in
    let n = a.t.now.last.0 in
    let one = c.furthest-one in
    row-greater n (set-listed n a.t.now.rows) a.left.0 a.right.0 a.tops.greater.0 a.tops.lesser.0 one.result.0
    one.ensures c.furthest.result.0 c.furthest.ensures (beyond one.result.0 a.tops.greater.0 c.le.ensures c.if-le.false)
