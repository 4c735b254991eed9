-- `final_marks_counted` meets its contract: the set, the brackets of its final set, and the marks of both. There are as many marks as intervals of the final set.
use Rattle.std.proofs.Common.{arith}
use mathlib.Core.Path.{refl, ◌∙◌}
use Rattle.grid.specs.Limits.{bag_room, lines}
use Rattle.counts.proofs.MarkTurns.{marks-final}
use Rattle.counts.proofs.FinalMarks.{both-held, bag_fits, room-long, set_comes, some_come, all_tallied}
use Rattle.counts.proofs.Turns.{onward-start}
use Rattle.counts.proofs.marks.final_marks_counted.Goals as goal

pub invariant_of-left-3 : goal.invariant_of-left-3
invariant_of-left-3 c = record { fits = bag_fits c.args.t.now c.final_set_swept-left.ensures.finished c.requires.1 (room-long bag_room refl) }

pub enter_set-requires : goal.enter_set-requires
enter_set-requires c = set_comes c.args.t.now _ (both-held c.args.t.now c.final_set_swept-left.ensures.finished) lines refl

pub enter-requires : goal.enter-requires
enter-requires c = some_come c.args.t.now _ (both-held c.args.t.now c.final_set_swept-left.ensures.finished) lines refl c.enter_set.ensures _ _ _ refl (omega arith)

pub note_marks-requires-clause-kept : goal.note_marks-requires-clause-kept
note_marks-requires-clause-kept c = record {
  tallies = all_tallied c.args.t.now _ (both-held c.args.t.now c.final_set_swept-left.ensures.finished) lines refl c.enter_set.ensures c.enter.ensures;
  none_begins = λ i m. omega arith;
  onward = onward-start _ _ _;
}

pub returns-clause-value : goal.returns-clause-value
returns-clause-value c = c.note_marks.ensures.value ∙ marks-final c.args.t.now
