-- `reduce` meets its contract: before line l the rows are as rule 4 leaves them, and the interval that is carried reaches as far as the staircase.
use mathlib.Core.Path.{◌≡◌}
use Rattle.grid.specs.Lines.{span_of}
use Rattle.intervals.proofs.ReduceTurns.{Turn}
use Rattle.intervals.proofs.reduce.reduce.Given as goal

abbrev pub invariant-loop-l : goal.invariant-loop-l
invariant-loop-l l = let t = l.initial.t in
    (l.t.last ≡ t.last) × Turn t.last.0 l.initial.l l.l-end t.rows l.l l.t.rows (span_of l.outer)
