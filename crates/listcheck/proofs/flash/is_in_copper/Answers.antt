-- `is_in_copper` meets its contract: the chain over the rows is `all` of them.
use Rattle.std.proofs.Common.{arith, rules}
use mathlib.Core.Path.{refl, ◌∙◌}
use Prim.Native.Nat.{ℕ, ◌+◌}
use Rattle.std.proofs.lemmas.Iterator.{YieldsList-from_range}
use Rattle.std.proofs.lemmas.Iterator.Search.{all_from_yields_List}
use Rattle.method.specs.Intervals.{span}
use Rattle.grid.specs.Code.{area_in}
use Rattle.cover.specs.Code.{rectangle_of}
use Rattle.cover.specs.Slices.{copper_along}
use Rattle.listcheck.proofs.Good.{grid_parts, rows-same}
use Rattle.listcheck.proofs.flash.is_in_copper.Goals as goal

pub right_line-requires : goal.right_line-requires
right_line-requires c = let g = c.args in
    omega (arith, grid_parts (rectangle_of g.q) _ _ c.requires)

pub overflow_add-q : goal.overflow_add-q
overflow_add-q c = let g = c.args in
    omega (arith, grid_parts (rectangle_of g.q) _ _ c.requires)

pub returns : goal.returns
returns c = let g = c.args in
    let p = λ (y : ℕ). copper_along (area_in g.raster.size g.raster.bytes.now) y (span g.q.first.0 (g.q.last.0 + 1)) in
    all_from_yields_List p c.all.new.self _ _ c.all.ensures.ran (YieldsList-from_range g.q.bottom.0 (g.q.top.0 + 1) _ refl refl) (λ x b q k. search rules)
    ∙ rows-same (area_in g.raster.size g.raster.bytes.now) (rectangle_of g.q)
