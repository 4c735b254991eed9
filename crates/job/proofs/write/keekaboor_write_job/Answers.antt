-- A job that passes the checks has a text that the room holds.
use Rattle.std.proofs.Common.{arith, sym, ap}
use Rattle.grid.specs.declared.answers.Answer.{Answer}
use Rattle.job.proofs.Lengths.{longest}
use Rattle.job.proofs.Checking.{checked_job}
use Rattle.job.proofs.write.keekaboor_write_job.Goals as goal

pub put_text-requires : goal.put_text-requires
put_text-requires c = let e = c.in-Ok.ensures in
    let j = checked_job _ _ _ _ _ (ap (λ (a : Answer). a.number) (sym e.value)) in
    rw (e.raster.0, e.raster.1, e.raster.2) (omega (arith, j.0, longest _ _ _ _ j.1))
