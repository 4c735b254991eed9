-- The invariant: what was to be written equals the digits that are left, those before the spot that was reached.
use Rattle.std.proofs.Common.{◌≡◌}
use Rattle.grid.specs.Rooms.{written}
use Rattle.text.specs.Decimal.{last_digits}
use Rattle.text.proofs.write.put_digits.Given as goal

abbrev pub invariant-loop-k : goal.invariant-loop-k
invariant-loop-k l = written l.initial.room l.spot (last_digits l.count l.value) ≡ written l.room l.spot (last_digits l.k l.rest)
