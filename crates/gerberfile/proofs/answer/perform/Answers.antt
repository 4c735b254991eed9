-- A file is read back where the task is `read`, else a job is written.
use mathlib.Core.Path.{sym, ◌∙◌}
use Rattle.printed.proofs.Forms.{as_text}
use Rattle.gerberfile.proofs.Program.{task_reads, task_writes}
use Rattle.gerberfile.proofs.answer.perform.Goals as goal

pub returns-in-Some : goal.returns-in-Some
returns-in-Some c = let k = c.args.call in
    as_text (task_reads _ k.version k.pitch k.x k.y (sym c.read_word.ensures ∙ c.in-Some.is)) c.print_read.ensures

pub returns-in-None : goal.returns-in-None
returns-in-None c = let k = c.args.call in
    as_text (task_writes _ k.version k.pitch k.x k.y (sym c.read_word.ensures ∙ c.in-None.is)) c.print_job.ensures
