-- The invariant: what was to be copied equals what is left of it; the rows that are left stand as ruled, and the room holds them.
use Rattle.std.proofs.Common.{arith, sym, ap, ◌∙◌, ◌≡◌, ◌+◌, ◌-◌, ◌*◌, ℕ, List, length}
use Rattle.grid.specs.Rooms.{written}
use Rattle.job.specs.JobText.{row_head}
use Rattle.job.specs.Reading.{rows_from, raster_from}
use Rattle.job.proofs.Rows.{past_row, ruled-turn, inside-turn, copy_turn, copy_done, row_fits, part-squares}
use Rattle.job.proofs.read.copy_rows.Goals as goal

pub overflow_add-body : goal.overflow_add-body
overflow_add-body c = let l = c.loop-row in
    omega (arith, c.row_head.ensures, inside-turn c.args.text.now l.room c.args.size.width l.row l.at c.loop-row-test.true l.invariant.1)

pub overflow_add-body-in-loop-row : goal.overflow_add-body-in-loop-row
overflow_add-body-in-loop-row c = let l = c.loop-row in
    omega (arith, c.row_head.ensures, inside-turn c.args.text.now l.room c.args.size.width l.row l.at c.loop-row-test.true l.invariant.1)

pub slice_bounds-put_squares-end : goal.slice_bounds-put_squares-end
slice_bounds-put_squares-end c = let l = c.loop-row in
    omega (arith, c.row_head.ensures, inside-turn c.args.text.now l.room c.args.size.width l.row l.at c.loop-row-test.true l.invariant.1)

pub overflow_add-at : goal.overflow_add-at
overflow_add-at c = let l = c.loop-row in
    omega (arith, c.row_head.ensures, inside-turn c.args.text.now l.room c.args.size.width l.row l.at c.loop-row-test.true l.invariant.1)

pub overflow_add-at-in-loop-row : goal.overflow_add-at-in-loop-row
overflow_add-at-in-loop-row c = let l = c.loop-row in
    omega (arith, c.row_head.ensures, inside-turn c.args.text.now l.room c.args.size.width l.row l.at c.loop-row-test.true l.invariant.1)

pub loop-row-preserved : goal.loop-row-preserved
loop-row-preserved c =
    let l = c.loop-row in
    let t = c.args.text.now in
    let w = c.args.size.width in
    let head = c.row_head.ensures in
    let fits = row_fits w l.row c.loop-row-test.true in
    let next : past_row l.at w (l.row - 1) ≡ l.at + c.row_head.result + w + 1 = omega (arith, head) in (
      omega (arith, fits),
      ap (rows_from t w (l.row - 1) 2) (sym next) ∙ ruled-turn t l.room w l.row l.at c.loop-row-test.true l.invariant.1,
      l.invariant.2
          ∙ copy_turn t l.room w l.row l.at c.loop-row-test.true l.invariant.1 (omega arith)
          ∙ ap (λ (r : List ℕ). written r 0 (raster_from t w (l.row - 1) (past_row l.at w (l.row - 1))))
          (sym (c.put_squares-at.ensures.left
          ∙ ap (written l.room ((l.row - 1) * w)) (part-squares t w l.at c.row_head.result (length (row_head (l.row - 1))) head)))
          ∙ ap (λ (x : ℕ). written c.put_squares-at.new.room 0 (raster_from t w (l.row - 1) x)) next,
    )

pub returns : goal.returns
returns c = let l = c.loop-row in
    sym (l.invariant.2 ∙ copy_done c.args.text.now l.room c.args.size.width l.row l.at c.loop-row-test.false)
