-- `read_flash` meets its contract: the four numbers that a line leaves are its flash.
use mathlib.Core.Path.{◌∙◌}
use Rattle.listcheck.proofs.Onward.{flash-read, none_read}
use Rattle.listcheck.proofs.lines.read_flash.Goals as goal

pub returns-in_err-next : goal.returns-in_err-next
returns-in_err-next c = c.from_residual.ensures ∙ none_read _ _ c.read_line.ensures c.in_err-next.was

pub returns : goal.returns
returns c = flash-read _ _ c.read_line.ensures c.in_ok-next.was
