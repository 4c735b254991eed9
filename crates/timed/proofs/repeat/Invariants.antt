-- `repeat` meets its contract: each turn leaves the same final set.
use mathlib.Core.Path.{◌≡◌}
use Rattle.method.specs.Final.{final}
use Rattle.intervals.specs.Table.{table_of}
use Rattle.intervals.specs.Spans.{spans}
use Rattle.timed.proofs.repeat.Given as goal

abbrev pub invariant-loop : goal.invariant-loop
invariant-loop g l = (l.work.rows ≡ table_of (final l.set.last.0 (spans l.set))) × (l.work.last ≡ l.set.last)
