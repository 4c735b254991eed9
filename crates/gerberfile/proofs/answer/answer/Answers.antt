-- Which word is wrong is printed, or what the task gives.
use mathlib.Core.Path.{sym, ap, ◌∙◌}
use Rattle.printed.proofs.Forms.{as_text}
use Rattle.gerberfile.specs.Program.{wrong_text}
use Rattle.gerberfile.proofs.Program.{wrong_text_lem, named_text}
use Rattle.gerberfile.proofs.answer.answer.Goals as goal

pub returns-in-Err : goal.returns-in-Err
returns-in-Err c = let a = c.args in
    as_text (ap wrong_text c.number.ensures ∙ wrong_text_lem a.task.now a.version.now a.pitch.now a.x.now a.y.now a.text.now _ (sym c.asked.ensures ∙ c.in-Err.is)) c.print_wrong.ensures

pub returns-in-Ok : goal.returns-in-Ok
returns-in-Ok c = let a = c.args in
    as_text (named_text a.task.now a.version.now a.pitch.now a.x.now a.y.now a.text.now _ (sym c.asked.ensures ∙ c.in-Ok.is)) c.perform.ensures
