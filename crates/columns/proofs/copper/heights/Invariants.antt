-- `heights` meets its contract. The loop's invariant: `n` is the sum over the columns that were seen, and the others are left.
use mathlib.Core.Path.{◌≡◌}
use Prim.Native.Nat.{◌*◌, ◌≤◌}
use lib.ListN.{length, take, drop}
use Rattle.columns.specs.Columns.{heights_to}
use Rattle.columns.proofs.copper.heights.Given as goal

abbrev pub invariant-loop-bottom : goal.invariant-loop-bottom
invariant-loop-bottom l = record {
  can_next : (goal.iterator-loop-bottom).can_next l.bottom-iterator;
  finite : (goal.iterator-loop-bottom).is_finite l.bottom-iterator;
  low : l.bottom-iterator.a.rest.now ≡ drop (length l.yielded) (take l.width l.bottoms);
  high : l.bottom-iterator.b.rest.now ≡ drop (length l.yielded) (take l.width l.ends);
  sum : l.n ≡ heights_to (length l.yielded) l.bottoms l.ends;
  small : l.n ≤ length l.yielded * 255;
  few : length l.yielded ≤ l.width;
}
