-- `seed` is safe: each number stays below what `following` gives.
use Prim.Native.Nat.{◌<◌}
use Rattle.finals.proofs.seed.Given as goal

abbrev pub invariant-loop-b : goal.invariant-loop-b
invariant-loop-b l = l.number < 2147483648
