-- `next_column` meets its contract: the column of the final set.
use mathlib.Core.Path.{ap, ◌∙◌}
use Rattle.method.specs.Strike.{held_once}
use Rattle.grid.proofs.Edges.{number}
use Rattle.counts.specs.Marks.{once_of}
use Rattle.counts.proofs.MarkTurns.{final-left}
use Rattle.counts.proofs.plain.WithFinalUnmarked.next_column.Goals as goal

pub returns : goal.returns
returns c =
    let s = c.args.self.now in
    let so = final-left s.set s.finished c.requires.1 c.requires.0 in
    c.held_once.ensures ∙ (λ x. once_of (held_once (ap number c.requires.1 x) (so x)))
