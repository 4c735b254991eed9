-- `put_starting` meets its contract. The loop's invariant: the table holds what the rows so far show, and `row` is the last of them.
use mathlib.Core.Path.{◌≡◌}
use Rattle.grid.specs.Lines.{line}
use Rattle.words.specs.Words.{Bits}
use Rattle.intervals.specs.Table.{table_of}
use Rattle.cover.specs.Slices.{starting}
use Rattle.cover.specs.Code.{between}
use Rattle.cover.proofs.StartingByChange.{row_below}
use Rattle.cover.proofs.slices.put_starting.Given as goal

abbrev pub invariant-loop-changed : goal.invariant-loop-changed
invariant-loop-changed l = record {
  rows : l.t.rows ≡ table_of (starting (between l.fn.size.width l.edges.bottoms.now l.edges.ends.now) l.fn.size.width l.changed-index);
  last : l.t.last ≡ line l.fn.size.width;
  row : Bits l.row (row_below (between l.fn.size.width l.edges.bottoms.now l.edges.ends.now) l.changed-index);
}
