-- `enter_set` meets its contract. The loop's invariant: the rows from line l on are still to come.
use mathlib.Core.Bool.{true}
use Rattle.intervals.specs.Spans.{spans}
use Rattle.counts.proofs.RowLaws.{rows_from}
use Rattle.counts.proofs.TallyLaws.{Going}
use Rattle.counts.proofs.tally.Tally.enter_set.Given as goal

abbrev pub invariant-loop-l : goal.invariant-loop-l
invariant-loop-l l = let s = spans l.set in Going true l.initial.self.rises l.initial.self.falls s l.self.rises l.self.falls (rows_from l.set.last.0 s l.l)
