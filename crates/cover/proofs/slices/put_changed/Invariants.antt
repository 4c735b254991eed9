-- `put_changed` meets its contract. The loop's invariant: the table holds what it held and the row's touched slices that begin before `at`,
-- and no slice of the row is cut there.
use mathlib.Core.Path.{◌≡◌}
use mathlib.Core.Bool.{false}
use Prim.Native.Nat.{◌-◌, ◌≤◌, ◌<◌}
use Rattle.words.specs.Words.{on}
use Rattle.intervals.specs.Table.{table_of}
use Rattle.intervals.specs.Spans.{spans}
use Rattle.cover.proofs.ChangedRow.{changed_to}
use Rattle.cover.proofs.slices.put_changed.Given as goal

abbrev pub invariant-loop-slice : goal.invariant-loop-slice
invariant-loop-slice l = record {
  rows : l.t.rows ≡ table_of (changed_to (on l.row) (on l.touched) l.initial.t.last.0 (spans l.initial.t) l.at.0);
  last : l.t.last ≡ l.initial.t.last;
  edge : 0 < l.at.0 → on l.row l.at.0 ≡ false;
  within : l.at.0 ≤ l.initial.t.last.0;
}

abbrev pub decreases-loop-slice : goal.decreases-loop-slice
decreases-loop-slice l = l.initial.t.last.0 - l.at.0
