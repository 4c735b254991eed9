-- `enter_set` meets its contract. The loop's invariant: the rows from line l on are still to come.
use Rattle.std.proofs.Common.{arith}
use mathlib.Core.Path.{subst}
use mathlib.Core.Bool.{true}
use Rattle.intervals.specs.Spans.{spans}
use Rattle.intervals.proofs.TableLaws.{set-listed}
use Rattle.counts.specs.Rows.{row_beyond}
use Rattle.counts.proofs.RowLaws.{rows_start, rows_next}
use Rattle.counts.proofs.TallyLaws.{Going, going_start, next_can, going_next}
use Rattle.counts.proofs.tally.Tally.enter_set.Goals as goal

pub loop-l-init : goal.loop-l-init
loop-l-init c =
    let n = c.args.set.now.last.0 in
    let t = c.args.self.now in
    let s = spans c.args.set.now in
    subst (Going true t.rises t.falls s t.rises t.falls) (rows_start n s (set-listed n c.args.set.now.rows)) (going_start true t.rises t.falls s c.requires)

pub count_row-requires : goal.count_row-requires
count_row-requires c =
    let n = c.args.set.now.last.0 in
    let s = spans c.args.set.now in
    next_can c.loop-l.invariant (row_beyond n s c.loop-l.l c.loop-l.l) _ (rows_next n s c.loop-l.l (omega arith))

pub loop-l-preserved : goal.loop-l-preserved
loop-l-preserved c =
    let n = c.args.set.now.last.0 in
    let s = spans c.args.set.now in
    going_next c.loop-l.invariant (row_beyond n s c.loop-l.l c.loop-l.l) _ (rows_next n s c.loop-l.l (omega arith)) c.count_row.ensures
