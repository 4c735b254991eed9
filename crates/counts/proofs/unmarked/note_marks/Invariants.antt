-- `note_marks` meets its contract. The loop's invariant: what was to be noted is what is noted with what is left to note.
-- Each turn leaves fewer intervals.
use lib.ListN.{length}
use Rattle.intervals.specs.Spans.{spans}
use Rattle.counts.proofs.MarkTurns.{Noting}
use Rattle.counts.proofs.unmarked.note_marks.Given as goal

abbrev pub invariant-loop-column : goal.invariant-loop-column
invariant-loop-column g l =
    let set = g.U.Unmarked.set in
    g.U.Unmarked.kept l.left × Noting (set l.initial.left) l.initial.noted (set l.left) l.noted l.marks

abbrev pub decreases-loop-column : goal.decreases-loop-column
decreases-loop-column g l = length (spans (g.U.Unmarked.set l.left))
