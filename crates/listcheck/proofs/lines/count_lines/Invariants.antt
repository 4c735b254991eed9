-- `count_lines` meets its contract. The loop's invariant: the lines that are counted and those that are left are all lines, and these end alike.
use mathlib.Core.Path.{◌≡◌}
use Prim.Native.Nat.{◌+◌, ◌-◌, ◌≤◌}
use lib.ListN.{length}
use Rattle.listcheck.specs.FlashList.{flashes_of, flashes_at, end_at}
use Rattle.listcheck.proofs.lines.count_lines.Given as goal

abbrev pub invariant-loop-next : goal.invariant-loop-next
invariant-loop-next l = record {
  counted : length (flashes_of l.text) ≡ l.lines.count + length (flashes_at l.text l.lines.end);
  ends : end_at l.text 0 ≡ end_at l.text l.lines.end;
  few : l.lines.count ≤ l.lines.end;
  inside : l.lines.end ≤ length l.text;
}

abbrev pub decreases-loop-next : goal.decreases-loop-next
decreases-loop-next l = length l.text - l.lines.end
