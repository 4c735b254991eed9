-- `doubled` meets its contract: after the rows before line l the two words have the bits that one of these rows has, and that two of them have.
use Rattle.intervals.proofs.DoubledLines.{Ends}
use Rattle.intervals.proofs.Table.doubled.Given as goal

abbrev pub invariant-loop-row : goal.invariant-loop-row
invariant-loop-row l = Ends l.self.rows l.row-index l.once l.twice
