-- `bad_line` meets its contract: the first bad flash by its place, and its line is one more. A text has no more flashes than bytes.
use Rattle.std.proofs.Common.{arith, rules}
use mathlib.Core.Path.{sym, ap, ◌∙◌}
use mathlib.Core.Logic.{inl}
use Rattle.std.proofs.lemmas.Iterator.Search.{position_from_yields_List}
use Rattle.listcheck.proofs.Onward.{flashes-come, flashes-few}
use Rattle.listcheck.proofs.Turns.{line_of, bad-line}
use Rattle.listcheck.proofs.flash.bad_line.Goals as goal

pub position-requires-clause-fits : goal.position-requires-clause-fits
position-requires-clause-fits c = inl (omega (arith, flashes-few c.of.result c.args.list.now c.of.ensures))

pub returns-in_err-place : goal.returns-in_err-place
returns-in_err-place c = c.from_residual.ensures
    ∙ sym (ap line_of c.in_err-place.was)
    ∙ bad-line _ _ _ _ (position_from_yields_List _ c.position.new.self _ _ c.position.ensures.ran (flashes-come _ c.of.ensures) (λ x b q k. search rules))

pub overflow_add-result : goal.overflow_add-result
overflow_add-result c = omega (arith, c.in_ok-place.ensures.bound, flashes-few c.of.result c.args.list.now c.of.ensures)

pub returns : goal.returns
returns c = sym (ap line_of c.in_ok-place.was)
    ∙ bad-line _ _ _ _ (position_from_yields_List _ c.position.new.self _ _ c.position.ensures.ran (flashes-come _ c.of.ensures) (λ x b q k. search rules))
