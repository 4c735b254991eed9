-- The first place that the search gives.
use Rattle.std.proofs.Common.{rules}
use mathlib.Core.Path.{◌≡◌, ap, ◌∙◌}
use borrow.Author.Tests.{tests}
use lib.ListN.{length}
use Rattle.std.specs.List.{position}
use Rattle.std.specs.Option.{unwrap_or}
use Rattle.std.proofs.lemmas.Iterator.{YieldsList-from_slice}
use Rattle.std.proofs.lemmas.Iterator.Search.{position_from_yields_List}
use Rattle.gerber.specs.File.{is_same_size}
use Rattle.gerber.proofs.SizeLists.{place-first}
use Rattle.gerber.proofs.sizes.place_of.Goals as goal

pub returns : goal.returns
returns c =
    let e : c.position.result ≡ position (is_same_size c.args.size) c.args.sizes.now =
    position_from_yields_List (is_same_size c.args.size) _ _ c.position.result c.position.ensures.ran (YieldsList-from_slice c.args.sizes.now cc) (λ x b q k. search (rules, tests)) in
    c.unwrap_or.ensures ∙ ap (λ o. unwrap_or o (length c.args.sizes.now)) e ∙ place-first c.args.size c.args.sizes.now
