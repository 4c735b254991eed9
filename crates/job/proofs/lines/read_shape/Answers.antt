-- The three numbers of the line.
use Rattle.std.proofs.Common.{◌∙◌}
use Rattle.job.proofs.Shape.{shape_read, shape_none}
use Rattle.job.proofs.lines.read_shape.Goals as goal

pub returns-in_err-next : goal.returns-in_err-next
returns-in_err-next c = c.from_residual.ensures ∙ shape_none c.read_line.ensures c.in_err-next.was

pub returns : goal.returns
returns c = shape_read c.read_line.ensures c.in_ok-next.was
