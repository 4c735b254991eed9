-- `count_row` meets its contract. The loop's invariant: the intervals that end beyond the edge are still to be counted.
use Rattle.std.proofs.Common.{arith}
use mathlib.Core.Path.{ap}
use mathlib.Core.List.{[], ◌∷◌}
use lib.ListN.{length}
use Rattle.intervals.specs.Spans.{spans}
use Rattle.intervals.proofs.TableRows.{end_found, no_end}
use Rattle.counts.proofs.RowLaws.{row_next, row_over}
use Rattle.counts.proofs.TallyLaws.{going_start, going_over, next_can, going_next}
use Rattle.counts.proofs.tally.Tally.count_row.Goals as goal

pub loop-right-init : goal.loop-right-init
loop-right-init g c = let t = c.args.self.now in
    going_start g.D.Direction.more t.rises t.falls _ c.requires

pub count-requires : goal.count-requires
count-requires g c = let t = c.args.set.now in
    next_can c.loop-right.invariant (_ ∷ []) _ (row_next t.last.0 (spans t) c.args.left.0 c.loop-right.edge.0 (end_found _ _ _ c.next_end.ensures c.in-Some.is))

pub loop-right-smaller : goal.loop-right-smaller
loop-right-smaller g c = let t = c.args.set.now in
    omega (arith, ap length (row_next t.last.0 (spans t) c.args.left.0 c.loop-right.edge.0 (end_found _ _ _ c.next_end.ensures c.in-Some.is)))

pub loop-right-preserved : goal.loop-right-preserved
loop-right-preserved g c = let t = c.args.set.now in
    going_next c.loop-right.invariant (_ ∷ []) _ (row_next t.last.0 (spans t) c.args.left.0 c.loop-right.edge.0 (end_found _ _ _ c.next_end.ensures c.in-Some.is))
    c.count.ensures

pub returns : goal.returns
returns g c = let t = c.args.set.now in
    going_over c.loop-right.invariant (row_over t.last.0 (spans t) c.args.left.0 c.loop-right.edge.0 (no_end _ _ c.next_end.ensures c.in_default.is))
