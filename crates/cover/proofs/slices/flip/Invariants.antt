-- `flip` meets its contract. The loop's invariant: the columns before c are turned over.
use Rattle.cover.specs.Code.{Rowed, flipped_at}
use Rattle.cover.proofs.slices.flip.Given as goal

abbrev pub invariant-loop-c : goal.invariant-loop-c
invariant-loop-c l = Rowed (flipped_at l.at l.c l.initial.rows) l.rows
