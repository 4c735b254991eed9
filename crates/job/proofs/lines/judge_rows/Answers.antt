-- The invariant: what was asked equals what is left to judge, and each row that passed took a byte of the text at least.
use Rattle.std.proofs.Common.{arith, sym, ◌∙◌}
use Rattle.job.proofs.Judging.{was_refused}
use Rattle.job.proofs.Rows.{rows-turn, rows-bad, rows-done, row-moves}
use Rattle.job.proofs.lines.judge_rows.Goals as goal

pub returns-in_err-at : goal.returns-in_err-at
returns-in_err-at c = let e = c.in_err-at.ensures in
    was_refused _ c.from_residual.ensures.1 (rw e.ok_part at e.value)
    ∙ sym (c.loop-row.invariant.1 ∙ rows-bad _ _ _ _ _ (omega arith) (sym c.read_row.ensures ∙ e.ok_part))

pub overflow_add-line : goal.overflow_add-line
overflow_add-line c = omega (arith, row-moves _ _ _ _ (sym c.read_row.ensures ∙ c.in_ok-at.ensures.ok_part))

pub loop-row-preserved : goal.loop-row-preserved
loop-row-preserved c = let e = sym c.read_row.ensures ∙ c.in_ok-at.ensures.ok_part in
    (omega (arith, row-moves _ _ _ _ e), c.loop-row.invariant.1 ∙ rows-turn _ _ _ _ _ (omega arith) e)

pub returns : goal.returns
returns c = c.check.ensures ∙ sym (c.loop-row.invariant.1 ∙ rows-done _ _ _ _ _ (omega arith))
