-- `print_row` ends: after each interval one fewer is left of the row.
use Rattle.std.proofs.Common.{arith}
use Rattle.intervals.proofs.TableLaws.{set-listed}
use Rattle.intervals.proofs.TableRows.{end_found}
use Rattle.intervals.proofs.RowCounts.{ends_one}
use Rattle.finals.proofs.print_row.Goals as goal

pub loop-right-smaller : goal.loop-right-smaller
loop-right-smaller g c = let t = c.args.t.now in
    omega (
      arith,
      ends_one t.last.0 (set-listed t.last.0 t.rows) c.args.left.0 c.loop-right.edge.0 c.in-Some.right.0 (end_found _ _ _ c.next_end.ensures c.in-Some.is),
    )
