-- `final_set_swept` meets its contract: each turn reduces rule 5's bracket and notes it; no dependent bracket ends before the right line,
-- nor at a line at which fewer than two intervals of the first set end, since a reduction makes none. Each turn takes an interval away.
use mathlib.Core.Path.{◌≡◌}
use mathlib.Core.List.{List}
use Prim.Native.Nat.{ℕ}
use lib.ListN.{length}
use Rattle.intervals.specs.Table.{set_of}
use Rattle.intervals.specs.Search.{NoneBefore}
use Rattle.intervals.specs.Sweep.{EndsAmong}
use Rattle.intervals.proofs.FinishSteps.{OnWay}
use Rattle.intervals.proofs.sweep.final_set_swept.Given as goal

-- on the way the engine has come to line r, and goes by the lines m
pub record OnLine (n : ℕ) (w a t b : List ℕ) (m k r : ℕ) : Type 0 where
  pub way : OnWay n w a t b k
  pub before : NoneBefore (set_of n t) r
  pub among : EndsAmong m (set_of n t)

abbrev pub invariant-loop-d : goal.invariant-loop-d
invariant-loop-d l = let t = l.initial.t in
    (l.t.last ≡ t.last) × OnLine t.last.0 t.rows l.initial.room l.t.rows l.room l.doubled l.reductions l.right.0

abbrev pub decreases-loop-d : goal.decreases-loop-d
decreases-loop-d l = length (set_of l.initial.t.last.0 l.t.rows)
