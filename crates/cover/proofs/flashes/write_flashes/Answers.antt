-- `write_flashes` meets its contract. The loop's invariant: the rows from line l on are still to be written.
use Rattle.std.proofs.Common.{arith}
use mathlib.Core.Path.{refl}
use lib.ListN.{length-map}
use Rattle.intervals.specs.Spans.{spans}
use Rattle.intervals.proofs.TableLaws.{set-listed}
use Rattle.cover.specs.Code.{flash_between}
use Rattle.cover.proofs.FlashBounds.{stands-drawn}
use Rattle.cover.proofs.RecordsBehind.{all-written}
use Rattle.cover.proofs.FlashesByRow.{rows_begun, rows_over, rows_ready, rows_turn}
use Rattle.cover.proofs.flashes.write_flashes.Goals as goal

pub loop-l-init : goal.loop-l-init
loop-l-init c =
    let t = c.args.t.now in
    let e = c.args.edges in
    let few = length-map (spans t) (flash_between e.bottoms.now e.ends.now) in
    rows_begun _ _ _ (set-listed t.last.0 t.rows) (record { short = omega (arith, c.requires.lent.0); small = omega arith; lent = c.requires.lent.1 })

pub write_row-done-requires : goal.write_row-done-requires
write_row-done-requires c = record { standing = c.requires.standing; ready = rows_ready c.loop-l.invariant (omega arith) }

pub loop-l-preserved : goal.loop-l-preserved
loop-l-preserved c = rows_turn c.loop-l.invariant (omega arith) (λ i m. stands-drawn _ _ i (c.requires.standing i m)) c.write_row-done.ensures

pub returns : goal.returns
returns c = all-written (rows_over c.loop-l.invariant (omega arith)) refl refl

pub shape_of-room : goal.shape_of-room
shape_of-room c = (rows_over c.loop-l.invariant (omega arith)).as_long
