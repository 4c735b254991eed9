-- The invariant: the fields from the next number on, and the line feed, are left of the line.
use Rattle.std.proofs.Common.{map}
use Rattle.text.proofs.Ahead.{Fielded}
use Rattle.text.proofs.line.put_numbers.Given as goal

abbrev pub invariant-loop-number : goal.invariant-loop-number
invariant-loop-number g l = Fielded l.word (map g.T.Number.value l.numbers) l.fn.room l.spot l.room l.at l.number-index
