-- `broken` meets its contract: a search over the columns from the left.
use Rattle.std.proofs.Common.{rules}
use Rattle.grid.specs.Code.{area_in}
use Rattle.grid.specs.Raster.{gap}
use Rattle.grid.proofs.Scan.{told, broken-found}
use Rattle.grid.proofs.raster.Raster.broken.Goals as goal

pub returns : goal.returns
returns c =
    let s = c.args.self in
    let a = area_in s.size s.bytes.now in
    broken-found a s.size.height _ _ (λ x r q k. (search rules, told (gap a s.size.height x) x r (search rules))) s.size.width c.find_map.result c.find_map.ensures.runs
