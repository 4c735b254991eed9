-- `read_set` ends: each number moves it on. The table stays over the line's lines.
use mathlib.Core.Path.{◌≡◌}
use lib.ListN.{length}
use Rattle.finals.proofs.read_set.Given as goal

abbrev pub invariant-loop-left : goal.invariant-loop-left
invariant-loop-left l = l.t.last ≡ l.fn.last

abbrev pub decreases-loop-left : goal.decreases-loop-left
decreases-loop-left l = length l.rest
