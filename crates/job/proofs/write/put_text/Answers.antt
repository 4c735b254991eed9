-- Line 1, and then the rows' lines where it ended.
use Rattle.std.proofs.Common.{arith}
use lib.ListN.{length-append}
use Rattle.grid.proofs.Writing.{then-written}
use Rattle.job.specs.JobText.{shape_line, row_lines, job_text}
use Rattle.job.proofs.write.put_text.Goals as goal

pub put_line-next-requires : goal.put_line-next-requires
unfolding job_text
put_line-next-requires c = let r = c.args.raster in
    omega (arith, c.requires, length-append (shape_line r.size.width r.size.height c.args.allowance) (row_lines r.size.width r.bytes.now r.size.height))

pub put_rows-requires : goal.put_rows-requires
unfolding job_text
put_rows-requires c = let r = c.args.raster in
    omega (arith, c.requires, length-append (shape_line r.size.width r.size.height c.args.allowance) (row_lines r.size.width r.bytes.now r.size.height))

pub returns : goal.returns
unfolding job_text
returns c = let r = c.args.raster in
    then-written c.args.room.now 0 (shape_line r.size.width r.size.height c.args.allowance) (row_lines r.size.width r.bytes.now r.size.height)
    (omega (arith, c.requires, length-append (shape_line r.size.width r.size.height c.args.allowance) (row_lines r.size.width r.bytes.now r.size.height)))
    c.put_line-next.ensures
    c.put_rows.ensures
