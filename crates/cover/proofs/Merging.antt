-- The plotter room may merge in any order (document 02, R-8): the promise of any set, for the starting set of an area.
-- A starting set is a set over the area's lines, so the theory's theorem applies; the main theorem names it.
use Rattle.method.proofs.Bags.{any_order_holds}
use Rattle.grid.specs.Raster.{area_of}
use Rattle.cover.specs.Slices.{starting}
use Rattle.cover.specs.Merging.{Merging}
use Rattle.cover.proofs.Starting.{starting-listed}

pub merging_holds : Merging
merging_holds w h raster limits = let a = area_of w h raster in any_order_holds w (starting a w h) (starting-listed a w h)
