-- Field by field. The invariant: as many fields are read as numbers are passed, and what is left to read is the fields from the spot that was reached.
use Rattle.std.proofs.Common.{length}
use Rattle.text.proofs.Filling.{Reading}
use Rattle.text.proofs.line.read_fields.Given as goal

abbrev pub invariant-loop-number : goal.invariant-loop-number
invariant-loop-number l = Reading l.text l.spot l.limit (length l.initial.numbers) l.numbers l.at l.number-index
