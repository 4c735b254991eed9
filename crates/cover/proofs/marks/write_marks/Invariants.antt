-- `write_marks` meets its contract. The loop's invariant: the first marks of the columns before c are added to none.
use lib.ListN.{take}
use Rattle.cover.specs.Code.{row_between, marks_noted, MarksAdded}
use Rattle.cover.proofs.marks.write_marks.Given as goal

abbrev pub invariant-loop-c : goal.invariant-loop-c
invariant-loop-c l = MarksAdded (take l.most (marks_noted (row_between l.last.0 l.edges.bottoms.now l.edges.ends.now) l.noted l.c)) l.initial.room 0 l.n l.room
