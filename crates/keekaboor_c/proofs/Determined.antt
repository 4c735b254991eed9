-- No exported function has a second outcome: its contract is that of its namesake below, whose theorem is taken as it stands, so the two readings are the same.
use Rattle.grid.proofs.Outcome.{Determined, Alike}
use Rattle.job.proofs.Determined as Job
use Rattle.cover.proofs.Determined as Cover
use Rattle.listcheck.proofs.Determined as List
use Rattle.gerber.proofs.Determined as Gerber
use Rattle.keekaboor_c.proofs.covers.keekaboor_cover
use Rattle.keekaboor_c.proofs.covers.keekaboor_cover_plain
use Rattle.keekaboor_c.proofs.jobs.keekaboor_read_job
use Rattle.keekaboor_c.proofs.jobs.keekaboor_write_job
use Rattle.keekaboor_c.proofs.lists_checked.keekaboor_check
use Rattle.keekaboor_c.proofs.gerbers.keekaboor_write_gerber
use Rattle.keekaboor_c.proofs.gerbers.keekaboor_read_gerber

pub cover_determined : Determined keekaboor_cover.Kinds.ps keekaboor_cover.Kinds.r keekaboor_cover.Reads.Pre keekaboor_cover.Reads.Post
cover_determined = Cover.cover-determined

pub cover_plain_determined : Determined keekaboor_cover_plain.Kinds.ps keekaboor_cover_plain.Kinds.r keekaboor_cover_plain.Reads.Pre keekaboor_cover_plain.Reads.Post
cover_plain_determined = Cover.cover-plain-determined

-- the two exported covers do the same
pub both_covers : Alike keekaboor_cover.Kinds.ps keekaboor_cover.Kinds.r keekaboor_cover.Reads.Pre keekaboor_cover.Reads.Post keekaboor_cover_plain.Reads.Pre keekaboor_cover_plain.Reads.Post
both_covers = Cover.both-covers

pub read_job_determined : Determined keekaboor_read_job.Kinds.ps keekaboor_read_job.Kinds.r keekaboor_read_job.Reads.Pre keekaboor_read_job.Reads.Post
read_job_determined = Job.read_job_determined

pub write_job_determined : Determined keekaboor_write_job.Kinds.ps keekaboor_write_job.Kinds.r keekaboor_write_job.Reads.Pre keekaboor_write_job.Reads.Post
write_job_determined = Job.write_job_determined

pub check_determined : Determined keekaboor_check.Kinds.ps keekaboor_check.Kinds.r keekaboor_check.Reads.Pre keekaboor_check.Reads.Post
check_determined = List.check-determined

pub write_gerber_determined : Determined keekaboor_write_gerber.Kinds.ps keekaboor_write_gerber.Kinds.r keekaboor_write_gerber.Reads.Pre keekaboor_write_gerber.Reads.Post
write_gerber_determined = Gerber.write_gerber_determined

pub read_gerber_determined : Determined keekaboor_read_gerber.Kinds.ps keekaboor_read_gerber.Kinds.r keekaboor_read_gerber.Reads.Pre keekaboor_read_gerber.Reads.Post
read_gerber_determined = Gerber.read_gerber_determined
