-- `copper_along` meets its contract: it asks all the interval's squares.
use Rattle.std.proofs.Common.{◌-◌, refl, ◌∙◌, rules}
use Rattle.std.proofs.lemmas.Iterator.{YieldsList-from_range}
use Rattle.std.proofs.lemmas.Iterator.Search.{all_from_yields_List}
use Rattle.method.specs.Intervals.{span}
use Rattle.grid.specs.Code.{area_in}
use Rattle.grid.proofs.Edges.{number}
use Rattle.cover.specs.Slices.{copper_along}
use Rattle.cover.proofs.Along.{along-asked}
use Rattle.cover.proofs.slices.copper_along.Goals as goal

pub returns : goal.returns
returns c =
    let g = c.args in
    let a = area_in g.raster.size g.raster.bytes.now in
    let y = g.row.0 in
    let l = c.column_after-first.result.0 in
    let r = c.column_after-end.result.0 in
    all_from_yields_List (λ x. a x y) _ _ _ c.all.ensures.ran (YieldsList-from_range l r (r - l) (search rules) refl) (λ x b q k. search rules)
    ∙ along-asked a y l r
    ∙ (λ i. copper_along a y (span (number (c.column_after-first.ensures i)) (number (c.column_after-end.ensures i))))
