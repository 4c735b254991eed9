-- The invariant: the sizes so far, and then those of the flashes from the k-th on, are the sizes used.
use mathlib.Core.Path.{◌≡◌}
use mathlib.Core.List.{[]}
use Prim.Native.Nat.{◌≤◌}
use lib.ListN.{length}
use Rattle.cover.specs.Records.{flashes_in}
use Rattle.gerber.specs.File.{used}
use Rattle.gerber.proofs.Records.{flashes_from}
use Rattle.gerber.proofs.lines.note_used.Given as goal

abbrev pub invariant-loop-k : goal.invariant-loop-k
invariant-loop-k l = (length l.table ≤ l.k)
    × (used [] (flashes_in l.fn.flashes.count l.fn.flashes.records.now) ≡ used l.table (flashes_from l.fn.flashes.records.now l.k l.fn.flashes.count))
