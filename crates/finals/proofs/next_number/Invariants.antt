-- `next_number` meets its contract: each digit moves it on, and no number grows past what one more digit makes of a line.
use Prim.Native.Nat.{◌≤◌, ◌<◌, ◌+◌, ◌*◌}
use lib.ListN.{length}
use Rattle.grid.specs.Limits.{side}
use Rattle.finals.proofs.next_number.Given as goal

abbrev pub invariant-loop-digit : goal.invariant-loop-digit
invariant-loop-digit l = (length l.rest < length l.s) × (l.value ≤ side * 10 + 9)

abbrev pub decreases-loop-digit : goal.decreases-loop-digit
decreases-loop-digit l = length l.rest
