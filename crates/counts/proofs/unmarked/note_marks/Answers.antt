-- `note_marks` meets its contract. The loop's invariant: what was to be noted is what is noted with what is left to note.
-- Each turn leaves fewer intervals.
use Rattle.std.proofs.Common.{arith}
use Rattle.counts.proofs.MarkTurns.{not-once-told, noting-few, noting-over}
use Rattle.counts.proofs.unmarked.note_marks.Goals as goal

pub overflow_add-marks : goal.overflow_add-marks
overflow_add-marks g c = omega (arith, noting-few c.loop-column.invariant.1)

pub returns : goal.returns
returns g c =
    let over = noting-over c.loop-column.invariant.1 (not-once-told _ c.next_column.ensures c.in_default.is) in
    record { value = over.0; noted_after = over.1 }
