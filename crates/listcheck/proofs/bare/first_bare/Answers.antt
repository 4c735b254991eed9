-- `first_bare` meets its contract: the chain over the places of the raster is the first of them that is bare.
use Rattle.std.proofs.Common.{arith, rules}
use mathlib.Core.Path.{refl, sym, ap, ◌∙◌}
use mathlib.Core.Bool.{Bool}
use Prim.Native.Nat.{ℕ, ◌/◌, ◌%◌}
use lib.ListN.{length}
use Rattle.std.proofs.lemmas.Iterator.{YieldsList-from_range}
use Rattle.std.proofs.lemmas.Iterator.Search.{find_from_yields_List}
use Rattle.lists.specs.Lists.{first, up_to}
use Rattle.grid.specs.Squares.{square}
use Rattle.grid.specs.Code.{area_in}
use Rattle.listcheck.specs.Code.{found_of}
use Rattle.listcheck.specs.FlashList.{flashes_of}
use Rattle.listcheck.specs.Verdict.{bare, first_bare}
use Rattle.listcheck.proofs.Turns.{first-same, map-same, range-same}
use Rattle.listcheck.proofs.bare.first_bare.Goals as goal

pub returns : goal.returns
unfolding first_bare
returns c = let g = c.args in
    let p : ℕ → Bool = λ i. bare (area_in g.raster.size g.raster.bytes.now) (flashes_of g.list.now) (square (i % g.raster.size.width) (i / g.raster.size.width)) in
    sym (map-same c.find.result)
    ∙ find_from_yields_List p c.find.new.self _ c.find.result c.find.ensures.ran (YieldsList-from_range 0 (length g.raster.bytes.now) _ refl refl) (λ x b q k. search rules)
    ∙ first-same p _
    ∙ ap (λ xs. found_of (first p xs)) (range-same _ _ ∙ ap up_to (omega (arith, g.raster.sized.full)))
