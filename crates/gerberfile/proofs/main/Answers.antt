-- As many bytes are written out as were printed.
use mathlib.Core.Path.{sym}
use lib.Seq.{length-take-le}
use Rattle.printed.proofs.Forms.{within}
use Rattle.gerberfile.proofs.main.Goals as goal

pub slice_bounds-out-end : goal.slice_bounds-out-end
slice_bounds-out-end c = within c.answer-printed.ensures

pub slice_bounds-write_all-end : goal.slice_bounds-write_all-end
slice_bounds-write_all-end c = let a = c.answer-printed in sym (length-take-le a.result a.new.out (within a.ensures))
