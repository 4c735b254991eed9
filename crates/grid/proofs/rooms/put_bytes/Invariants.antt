-- The invariant: what was to be written equals what is left of it, at the spot that was reached.
use Rattle.std.proofs.Common.{◌≡◌, ◌+◌, drop}
use Rattle.grid.specs.Rooms.{written}
use Rattle.grid.proofs.rooms.put_bytes.Given as goal

abbrev pub invariant-loop-k : goal.invariant-loop-k
invariant-loop-k l = written l.initial.room l.spot l.bytes ≡ written l.room (l.spot + l.k) (drop l.k l.bytes)
