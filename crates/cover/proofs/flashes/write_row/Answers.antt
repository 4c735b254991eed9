-- `write_row` meets its contract. The loop's invariant: the intervals that end beyond the edge are still to be written.
use Rattle.intervals.proofs.TableRows.{end_found, no_end, next-found}
use Rattle.cover.proofs.FlashBounds.{stands-drawn}
use Rattle.cover.proofs.FlashesByRow.{going_start, row_over, row_ready, row_smaller, row_turn}
use Rattle.cover.proofs.flashes.write_row.Goals as goal

pub loop-right-init : goal.loop-right-init
loop-right-init c = record { going = going_start c.requires.ready }

pub write_flash-done-requires : goal.write_flash-done-requires
write_flash-done-requires c = let q = end_found _ _ _ c.next_end.ensures c.in-Some.is in
    record { standing = c.requires.standing _ (next-found _ _ _ _ q).2; ready = row_ready c.loop-right.invariant q }

pub loop-right-smaller : goal.loop-right-smaller
loop-right-smaller c = row_smaller c.loop-right.invariant (end_found _ _ _ c.next_end.ensures c.in-Some.is)

pub loop-right-preserved : goal.loop-right-preserved
loop-right-preserved c = let q = end_found _ _ _ c.next_end.ensures c.in-Some.is in
    row_turn c.loop-right.invariant q (stands-drawn _ _ _ (c.requires.standing _ (next-found _ _ _ _ q).2)) c.write_flash-done.ensures

pub returns : goal.returns
returns c = row_over c.loop-right.invariant (no_end _ _ c.next_end.ensures c.in_default.is)

pub shape_of-room : goal.shape_of-room
shape_of-room c = (returns c).as_long
