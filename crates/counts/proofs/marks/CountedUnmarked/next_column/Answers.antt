-- `next_column` meets its contract: the counts give the rule's column.
use mathlib.Core.Path.{ap, ◌∙◌}
use Rattle.counts.specs.Marks.{once_of}
use Rattle.counts.proofs.Turns.{counts_step, is_rule}
use Rattle.counts.proofs.marks.CountedUnmarked.next_column.Goals as goal

pub held_once-requires-clause-steps : goal.held_once-requires-clause-steps
held_once-requires-clause-steps c = counts_step c.requires.tallies

pub returns : goal.returns
returns c = c.held_once.ensures ∙ ap once_of (is_rule c.requires.tallies c.requires.onward)
