-- One of them already, or one more.
use mathlib.Core.Path.{◌≡◌, sym, ap, ◌∙◌}
use mathlib.Core.Bool.{true, false}
use Rattle.std.specs.List.{list_any}
use Rattle.lists.specs.Lists.{any}
use Rattle.gerber.specs.File.{is_same_size, added}
use Rattle.gerber.proofs.SizeLists.{contains-any}
use Rattle.gerber.proofs.apertures.Apertures.note.Goals as goal

pub returns-then-not-contains : goal.returns-then-not-contains
unfolding added
returns-then-not-contains c =
    let s = c.args.size in
    let e : any (is_same_size s) c.args.self.now ≡ false =
    sym (c.contains.ensures.value ∙ ap (list_any (λ t. is_same_size t s)) c.sizes.ensures.are ∙ contains-any s c.args.self.now) ∙ c.if-not-contains.true in
    rw e c.push.ensures

pub returns-else-not-contains : goal.returns-else-not-contains
unfolding added
returns-else-not-contains c =
    let s = c.args.size in
    let e : any (is_same_size s) c.args.self.now ≡ true =
    sym (c.contains.ensures.value ∙ ap (list_any (λ t. is_same_size t s)) c.sizes.ensures.are ∙ contains-any s c.args.self.now) ∙ c.if-not-contains.false in
    rw e
