-- `Sheet::of` meets its contract: the pass takes bottoms and ends, whatever the checks say.
use mathlib.Core.Path.{refl}
use Rattle.grid.specs.Limits.{side}
use Rattle.columns.proofs.Filling.{zeros-bare}
use Rattle.cover.proofs.Sheeted.{made-sheet, made-area}
use Rattle.cover.proofs.sheet.Sheet.of.Goals as goal

pub columns_checked-requires-clause-bare : goal.columns_checked-requires-clause-bare
columns_checked-requires-clause-bare c = let b = zeros-bare side _ c.args.raster.sized.narrow in (b, b)

pub invariant_of-result : goal.invariant_of-result
invariant_of-result c = let r = c.args.raster in
    let F = c.columns_checked.ensures in
    record { sheeted = made-sheet r.size r.bytes.now r.sized c.requires F.filled F.filled_2 }

pub returns : goal.returns
returns c = let r = c.args.raster in
    let F = c.columns_checked.ensures in
    record { size = refl; bottoms = F.filled; ends = F.filled_2; area = made-area r.size r.bytes.now r.sized c.requires F.filled F.filled_2 }
