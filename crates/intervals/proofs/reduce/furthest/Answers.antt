-- `furthest` meets its contract: the last bit of the row's word that may stand for an end tells the reach.
use mathlib.Core.Path.{ap, ◌∙◌}
use Rattle.grid.specs.Lines.{line, interval}
use Rattle.intervals.proofs.TableLaws.{set-listed}
use Rattle.intervals.proofs.ReduceRows.{asked-end, row-reach}
use Rattle.intervals.proofs.reduce.furthest.Goals as goal

pub returns : goal.returns
returns c = let a = c.args in
    let t = a.t.now in
    c.reached.ensures
    ∙ ap line
    (row-reach t.tabled.fits (set-listed t.last.0 t.rows) a.left.0 a.from.0 a.to.0 c.row.ensures
    (asked-end t.last.0 (interval a.left.0 a.to.0) c.up_to.result c.meet-asked.result c.up_to.ensures c.meet-asked.ensures))
