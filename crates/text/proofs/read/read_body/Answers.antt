-- The text has as many characters from the spot on, and each is a square; or not.
use Rattle.std.proofs.Common.{arith, sym, ◌∙◌, ap}
use Rattle.std.specs.List.{list_all}
use Rattle.text.specs.Words.{is_square}
use Rattle.text.proofs.Stands.{body-short, body-all, some-found}
use Rattle.text.proofs.read.read_body.Goals as goal

pub returns-in_err-body : goal.returns-in_err-body
returns-in_err-body c = let n = c.in_err-body.ensures.lookup in c.from_residual.ensures ∙ sym (body-short _ _ _ c.rest.ensures (grind arith))

pub returns : goal.returns
returns c =
    let b = c.in_ok-body.ensures.lookup in
    c.then_some.ensures ∙ some-found _ _ ∙ sym (body-all _ _ _ c.rest.ensures (omega arith) (c.all_squares.ensures ∙ ap (list_all is_square) b.0.2))
