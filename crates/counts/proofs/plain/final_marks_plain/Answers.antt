-- `final_marks_plain` meets its contract: there are as many marks as intervals of the final set.
use mathlib.Core.Path.{◌∙◌}
use Rattle.counts.proofs.MarkTurns.{marks-final}
use Rattle.counts.proofs.plain.final_marks_plain.Goals as goal

pub returns-clause-value : goal.returns-clause-value
returns-clause-value c = c.note_marks.ensures.value ∙ marks-final c.args.t.now
