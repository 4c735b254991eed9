-- `take_row` meets its contract. The loop's invariant: the row's bytes before `c` are taken.
use Prim.Native.Nat.{◌≤◌}
use lib.ListN.{length}
use Rattle.columns.specs.Code.{RowTaken}
use Rattle.columns.proofs.checks.take_row.Given as goal

abbrev pub invariant-loop-c : goal.invariant-loop-c
invariant-loop-c l = RowTaken l.y l.row l.c l.initial.bottoms l.initial.ends l.misfits l.bottoms l.ends × (l.c ≤ length l.row)
