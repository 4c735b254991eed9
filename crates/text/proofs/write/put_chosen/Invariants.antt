-- The invariant: what was to be written equals what is left of it, at the spot that was reached.
use Rattle.std.proofs.Common.{◌≡◌, ◌+◌, drop, map}
use Rattle.text.specs.Words.{chosen}
use Rattle.grid.specs.Rooms.{written}
use Rattle.text.proofs.write.put_chosen.Given as goal

abbrev pub invariant-loop-k : goal.invariant-loop-k
invariant-loop-k l = written l.initial.room l.spot (map (chosen l.key l.hit l.miss) l.bytes) ≡ written l.room (l.spot + l.k) (map (chosen l.key l.hit l.miss) (drop l.k l.bytes))
