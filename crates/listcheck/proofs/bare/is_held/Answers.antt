-- `is_held` meets its contract: the chain over the list's flashes is `any` of them.
use Rattle.std.proofs.Common.{rules}
use mathlib.Core.Path.{◌∙◌}
use Rattle.std.proofs.lemmas.Iterator.Search.{any_from_yields_List}
use Rattle.grid.specs.Squares.{square}
use Rattle.listcheck.specs.Verdict.{holds_square}
use Rattle.listcheck.proofs.Onward.{flashes-come}
use Rattle.listcheck.proofs.Turns.{any-same}
use Rattle.listcheck.proofs.bare.is_held.Goals as goal

pub returns : goal.returns
returns c = let g = c.args in
    let p = holds_square (square g.column.0 g.row.0) in
    any_from_yields_List p c.any.new.self _ _ c.any.ensures.ran (flashes-come _ c.of.ensures) (λ x b q k. search rules)
    ∙ any-same p _
