-- `final_set` meets its contract: each turn reduces rule 5's bracket and notes it; where none is left, the set is final.
use mathlib.Core.Path.{◌≡◌}
use lib.ListN.{length}
use Rattle.intervals.specs.Table.{set_of}
use Rattle.intervals.proofs.FinishSteps.{OnWay}
use Rattle.intervals.proofs.final_set.final_set.Given as goal

abbrev pub invariant-loop-d : goal.invariant-loop-d
invariant-loop-d l = let t = l.initial.t in
    (l.t.last ≡ t.last) × OnWay t.last.0 t.rows l.initial.room l.t.rows l.room l.reductions

abbrev pub decreases-loop-d : goal.decreases-loop-d
decreases-loop-d l = length (set_of l.initial.t.last.0 l.t.rows)
