-- `weigh` meets its contract: the least number is never above the allowance's limit, so the cover gives all flashes and all marks.
use Rattle.std.proofs.Common.{arith}
use lib.ListN.{replicate}
use Rattle.grid.specs.Limits.{flash_room_size}
use Rattle.listcheck.proofs.Weighed.{least-count, weighed}
use Rattle.listcheck.proofs.entry.weigh.Goals as goal

pub overflow_sub-result : goal.overflow_sub-result
overflow_sub-result c = omega (arith, least-count _ _ _ c.args.raster.sized.narrow (replicate flash_room_size 0) c.args.mark_room.now c.cover_area-least.ensures, c.requires.enough.0)

pub returns : goal.returns
returns c = weighed _ _ _ c.args.count c.args.raster.sized.narrow (replicate flash_room_size 0) c.args.mark_room.now c.cover_area-least.ensures
