-- Each flash is asked, from the first on.
use Rattle.std.proofs.Common.{rules, arith}
use mathlib.Core.Path.{◌∙◌}
use borrow.Author.Tests.{tests}
use Rattle.std.proofs.lemmas.Iterator.{YieldsList-from_range}
use Rattle.std.proofs.lemmas.Iterator.Search.{all_from_yields_List}
use Rattle.cover.specs.Records.{flash_in}
use Rattle.gerber.specs.File.{centre_fits}
use Rattle.gerber.proofs.Records.{listed-all}
use Rattle.gerber.proofs.centres.Plane.centres_fit.Goals as goal

pub returns : goal.returns
returns c = let p = c.args.self in
    let f = c.args.flashes in
    all_from_yields_List (λ k. centre_fits p.pitch p.x p.y (flash_in f.records.now k)) _ _ c.all.result c.all.ensures.ran
    (YieldsList-from_range 0 f.count f.count (search rules) (omega arith)) (λ k b q e. search (rules, tests))
    ∙ listed-all f.records.now (centre_fits p.pitch p.x p.y) f.count
