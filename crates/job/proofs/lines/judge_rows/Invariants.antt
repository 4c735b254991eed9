-- The invariant: what was asked equals what is left to judge, and each row that passed took a byte of the text at least.
use Rattle.std.proofs.Common.{◌≡◌, ◌≤◌, ◌+◌}
use Rattle.job.specs.Reading.{rows_from}
use Rattle.job.proofs.lines.judge_rows.Given as goal

abbrev pub invariant-loop-row : goal.invariant-loop-row
invariant-loop-row l = (l.line ≤ l.at + 2) × (rows_from l.text l.size.width l.size.height 2 l.spot ≡ rows_from l.text l.size.width l.row l.line l.at)
