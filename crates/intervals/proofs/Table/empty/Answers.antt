-- `empty` meets its contract: no bit is on, and no line lies beyond the largest grid.
use Rattle.std.proofs.Common.{arith}
use mathlib.Core.Path.{refl}
use mathlib.Core.List.{[]}
use Rattle.grid.specs.Limits.{side}
use Rattle.intervals.proofs.TableLaws.{empty-table, empty-listed, left_as}
use Rattle.intervals.proofs.Table.empty.Goals as goal

pub invariant_of-result : goal.invariant_of-result
invariant_of-result c = record {
  tabled = (left_as c.min.result [] (omega (arith, c.min.ensures)) (empty-listed c.min.result) (empty-table side refl)).0;
}

pub returns-clause-rows : goal.returns-clause-rows
returns-clause-rows c = empty-table side refl
