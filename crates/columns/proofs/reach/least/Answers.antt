-- `least` meets its contract: the fold over the part of the slice.
use Rattle.std.proofs.Common.{rules, ◌≡◌, ◌∙◌, min}
use Rattle.std.specs.List.{fold}
use Rattle.grid.specs.Limits.{side}
use Rattle.columns.proofs.Extremes.{part, least_part}
use Rattle.columns.proofs.reach.least.Goals as goal

pub returns : goal.returns
returns c = let a = c.args in
    let e : c.fold.result ≡ fold min side (part a.numbers.now a.first a.end c.requires) = search rules in e ∙ least_part a.numbers.now a.first a.end c.requires
