-- `put_starting` meets its contract. The loop's invariant: the table holds what the rows so far show, and `row` is the last of them.
use Rattle.std.proofs.Common.{arith}
use mathlib.Core.Path.{ap, ◌∙◌}
use lib.ListN.{take, get_or}
use Rattle.grid.specs.Limits.{lines}
use Rattle.grid.proofs.Edges.{number}
use Rattle.words.specs.Words.{on}
use Rattle.intervals.specs.Table.{set_of, table_of}
use Rattle.cover.specs.Code.{changing, with_changed}
use Rattle.cover.proofs.RowChanges.{clear-rows, row-taken}
use Rattle.cover.proofs.StartingByChange.{row-none, no_row, row_on, row-bare, row_put}
use Rattle.cover.proofs.slices.put_starting.Goals as goal

pub changes-requires-clause-rowed : goal.changes-requires-clause-rowed
changes-requires-clause-rowed c = clear-rows lines

pub loop-changed-init : goal.loop-changed-init
loop-changed-init c = record { rows = c.requires.empty.0 ∙ ap table_of (no_row _ _); last = c.requires.empty.1; row = row-none _ }

pub put_changed-requires : goal.put_changed-requires
put_changed-requires c =
    let w = c.args.size.width in
    let bottoms = c.args.edges.bottoms.now in
    let ends = c.args.edges.ends.now in
    let h = c.args.size.height in
    let y = c.loop-changed.changed-index in
    let I = c.loop-changed.invariant in
    let told = row-taken (changing w bottoms ends) _ c.changes.ensures h y (omega arith) in
    let z = c.requires.columned.0 in
    ap (λ l. on c.differing-row.result (number l)) I.last
    ∙ row-bare w bottoms ends y c.loop-changed.row _ c.differing-row.result z.upright z.narrow I.row told c.differing-row.ensures

pub loop-changed-preserved : goal.loop-changed-preserved
loop-changed-preserved c =
    let w = c.args.size.width in
    let bottoms = c.args.edges.bottoms.now in
    let ends = c.args.edges.ends.now in
    let h = c.args.size.height in
    let y = c.loop-changed.changed-index in
    let I = c.loop-changed.invariant in
    let told = row-taken (changing w bottoms ends) _ c.changes.ensures h y (omega arith) in
    let z = c.requires.columned.0 in record {
      rows = c.put_changed.ensures.rows
          ∙ ap (λ l. table_of (with_changed (number l) (on c.differing-row.result) (on (get_or (take h c.changes.new.rows) y 0)) (set_of (number l) c.loop-changed.t.rows))) I.last
          ∙ row_put w bottoms ends y c.loop-changed.row _ c.differing-row.result z.upright z.narrow I.row told c.differing-row.ensures I.rows;
      last = c.put_changed.ensures.last ∙ I.last;
      row = row_on w bottoms ends y c.loop-changed.row _ c.differing-row.result z.upright z.narrow I.row told c.differing-row.ensures;
    }
