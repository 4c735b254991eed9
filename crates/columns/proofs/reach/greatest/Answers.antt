-- `greatest` meets its contract: the fold over the part of the slice.
use Rattle.std.proofs.Common.{rules, ◌≡◌, ◌∙◌, max}
use Rattle.std.specs.List.{fold}
use Rattle.columns.proofs.Extremes.{part, greatest_part}
use Rattle.columns.proofs.reach.greatest.Goals as goal

pub returns : goal.returns
returns c = let a = c.args in
    let e : c.fold.result ≡ fold max 0 (part a.numbers.now a.first a.end c.requires) = search rules in e ∙ greatest_part a.numbers.now a.first a.end c.requires
