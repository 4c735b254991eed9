-- `row` meets its contract: the table's word of a line before the last one, and no bit for another.
use Rattle.std.proofs.Common.{arith}
use Rattle.intervals.proofs.Comparisons.{less, not-less}
use Rattle.intervals.proofs.TableLaws.{tabled-row, row-none}
use Rattle.intervals.proofs.Table.row.Goals as goal

pub returns-then-lt : goal.returns-then-lt
returns-then-lt c = let t = c.args.self.now in
    let fits = t.tabled.fits in
    tabled-row t.tabled c.args.left.0 (omega (arith, less c.args.left.0 t.last.0 c.lt.ensures c.if-lt.true))

pub returns-else-lt : goal.returns-else-lt
returns-else-lt c = let t = c.args.self.now in
    row-none t.tabled c.args.left.0 (not-less c.args.left.0 t.last.0 c.lt.ensures c.if-lt.false)
