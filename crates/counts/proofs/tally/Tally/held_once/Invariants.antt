-- `held_once` meets its contract. The loop's invariant: what is held before line c, and the leftmost column from `start` on that is held once is the leftmost from `c` on.
use mathlib.Core.Path.{◌≡◌}
use mathlib.Core.Bool.{Bool}
use mathlib.Core.List.{List}
use Prim.Native.Nat.{ℕ, ◌-◌}
use lib.Dec.{eqb}
use Rattle.lists.specs.Lists.{first, from}
use Rattle.lists.proofs.Passes.{up_from}
use Rattle.counts.specs.Tally.{held_to, is_held_in}
use Rattle.counts.proofs.tally.Tally.held_once.Given as goal

abbrev pub once : List ℕ → List ℕ → ℕ → Bool
once rises falls x = eqb (is_held_in rises falls x) 1

abbrev pub invariant-loop-c : goal.invariant-loop-c
invariant-loop-c l =
    let p = once l.self.rises l.self.falls in
    let n = l.fn.last.0 in
    (first p (from l.fn.start.0 (n - l.fn.start.0)) ≡ up_from p n l.c) × (l.held ≡ held_to l.self.rises l.self.falls l.c)
