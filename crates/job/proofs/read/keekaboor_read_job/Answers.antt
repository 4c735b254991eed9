-- A text that is not refused has the rows that are copied.
use Rattle.std.proofs.Common.{sym}
use Rattle.job.proofs.Judging.{copies}
use Rattle.job.proofs.read.keekaboor_read_job.Goals as goal

pub copy_rows-requires : goal.copy_rows-requires
copy_rows-requires c = copies _ _ (sym c.in-Ok.ensures)
