-- The invariant: what was to be written equals the lines that are left, at the spot that was reached.
use Rattle.std.proofs.Common.{arith, sym, ap, subst, ◌∙◌, ◌-◌, ℕ, List, length}
use Rattle.grid.specs.Rooms.{written, Written}
use Rattle.grid.proofs.Writing.{written_none}
use Rattle.job.specs.JobText.{row_line, row_of}
use Rattle.job.proofs.Text.{lines-done, length-turn, write_turn, part-row}
use Rattle.job.proofs.write.put_rows.Goals as goal

pub put_row-at-requires : goal.put_row-at-requires
put_row-at-requires c = let l = c.loop-row in
    let w = c.args.raster.size.width in
    let bytes = c.args.raster.bytes.now in
    omega (arith, ap (λ (p : List ℕ). length (row_line (l.row - 1) p)) (part-row w bytes (l.row - 1)), length-turn w bytes l.row c.loop-row-test.true)

pub loop-row-preserved : goal.loop-row-preserved
loop-row-preserved c = let l = c.loop-row in
    let w = c.args.raster.size.width in
    let bytes = c.args.raster.bytes.now in
    let r = l.row - 1 in
    let line : Written l.room l.at (row_line r (row_of w bytes r)) c.put_row-at.result c.put_row-at.new.room =
    subst (λ (p : List ℕ). Written l.room l.at (row_line r p) c.put_row-at.result c.put_row-at.new.room) (part-row w bytes r) c.put_row-at.ensures in
    let turn = length-turn w bytes l.row c.loop-row-test.true in (
      omega (arith, line.past),
      l.invariant.1 ∙ write_turn w bytes l.row c.loop-row-test.true (omega arith) line,
    )

pub returns : goal.returns
returns c = let l = c.loop-row in
    let none = lines-done c.args.raster.size.width c.args.raster.bytes.now l.row c.loop-row-test.false in
    record {
      past = omega (arith, ap length none);
      left = sym (l.invariant.1 ∙ ap (written l.room l.at) none ∙ written_none l.room l.at);
    }
