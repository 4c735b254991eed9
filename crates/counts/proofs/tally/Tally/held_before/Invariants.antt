-- `held_before` meets its contract. The loop's invariant: what is held before line x.
use mathlib.Core.Path.{◌≡◌}
use Prim.Native.Nat.{◌≤◌}
use Rattle.counts.specs.Tally.{held_to}
use Rattle.counts.proofs.tally.Tally.held_before.Given as goal

abbrev pub invariant-loop-x : goal.invariant-loop-x
invariant-loop-x l = (l.fn.line.0 ≤ l.x) × (l.held ≡ held_to l.self.rises l.self.falls l.x)
