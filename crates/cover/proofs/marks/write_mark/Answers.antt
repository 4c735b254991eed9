-- `write_mark` meets its contract: one column's mark, where one is noted and there are to be more.
use mathlib.Core.Path.{sym, ap, ◌∙◌}
use Prim.Native.Nat.{◌-◌}
use lib.ListN.{take}
use lib.Seq.{take-nil}
use Rattle.cover.specs.Code.{row_between, squares_of}
use Rattle.cover.proofs.RecordsBehind.{none-marked, as_marked}
use Rattle.cover.proofs.NotedMarks.{no_more}
use Rattle.cover.proofs.marks.write_mark.Goals as goal

pub returns-then-most-n : goal.returns-then-most-n
returns-then-most-n c = let g = c.args in
    as_marked (no_more (row_between g.last.0 g.edges.bottoms.now g.edges.ends.now) g.noted.now g.column.0 g.most g.n c.if-most-n.true) (none-marked g.room.now g.n)

pub returns-in_default : goal.returns-in_default
returns-in_default c = let g = c.args in
    let none = sym c.noted_mark.ensures.value ∙ ap squares_of c.in_default.is in
    as_marked (ap (take (g.most - g.n)) none ∙ take-nil (g.most - g.n)) (none-marked g.room.now g.n)
