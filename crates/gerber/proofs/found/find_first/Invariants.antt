-- The invariant: what is found among all the numbers is what is found among those from n on.
use mathlib.Core.Path.{◌≡◌}
use mathlib.Core.Bool.{Bool}
use Prim.Native.Nat.{ℕ, ◌-◌, ◌≤◌, ◌<◌}
use Rattle.std.specs.Prelude.{Option}
use Rattle.lists.specs.Lists.{first, from}
use Rattle.text.specs.Words.{found}
use Rattle.gerber.specs.Parts.{found_of}
use Rattle.gerber.proofs.found.find_first.Given as goal

abbrev pub invariant-loop-n : goal.invariant-loop-n
invariant-loop-n g l = (test : ℕ → Bool) (past : ℕ → ℕ) → ((n : ℕ) (o : Option ℕ) → l.start ≤ n → n < l.end → goal.F-post g l.at n o → o ≡ found (test n) (past n))
    → found_of (first test (from l.start (l.end - l.start))) past ≡ found_of (first test (from l.n (l.end - l.n))) past
