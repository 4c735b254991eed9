-- `print_row` ends: after each interval one fewer is left of the row.
use Rattle.intervals.specs.Spans.{spans}
use Rattle.intervals.specs.Tops.{ends_beyond}
use Rattle.finals.proofs.print_row.Given as goal

abbrev pub decreases-loop-right : goal.decreases-loop-right
decreases-loop-right g l = ends_beyond (spans l.t) l.left.0 l.t.last.0 l.edge.0
