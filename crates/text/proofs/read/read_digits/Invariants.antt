-- The invariant: what was asked equals what is left to read on from the value so far, which is at most the limit.
use Rattle.std.proofs.Common.{◌≡◌, ◌≤◌, ◌+◌}
use Rattle.text.specs.Decimal.{read_on}
use Rattle.text.proofs.read.read_digits.Given as goal

abbrev pub invariant-loop-byte : goal.invariant-loop-byte
invariant-loop-byte l = (l.value ≤ l.limit) × (l.at ≡ l.spot + l.byte-index) × (read_on 0 l.text l.spot l.limit ≡ read_on l.value l.text l.at l.limit)
