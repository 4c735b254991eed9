-- Line by line.
use Rattle.std.proofs.Common.{rules}
use mathlib.Core.Path.{◌≡◌, sym, ap, ◌∙◌}
use Rattle.std.specs.Prelude.{Err}
use Rattle.gerber.specs.Parts.{bad_line, on_head}
use Rattle.gerber.proofs.FlashRead.{refused-none, passed-some}
use Rattle.gerber.proofs.ReadOutcomes.{head-stop, head-on, head-ends}
use Rattle.gerber.proofs.read.read_head.Goals as goal

pub returns-in_err-format : goal.returns-in_err-format
returns-in_err-format c = λ next.
    let none = refused-none c.read_first.result (bad_line 1) (sym c.ok_or.ensures.value ∙ c.in_err-format.was) in
    let told : c.from_residual.result ≡ Err (bad_line 1) = search rules in
    head-stop _ _ _ _ _ next (sym c.read_first.ensures ∙ none.0) ∙ ap (λ r. on_head r next) (sym told)

pub returns-in_err-unit : goal.returns-in_err-unit
returns-in_err-unit c = λ next.
    let format = passed-some c.read_first.result (bad_line 1) (sym c.ok_or.ensures.value ∙ c.in_ok-format.was) in
    let none = refused-none c.read_word.result (bad_line 2) (sym c.ok_or-2.ensures.value ∙ c.in_err-unit.was) in
    let told : c.from_residual-in_err-unit.result ≡ Err (bad_line 2) = search rules in
    head-on _ _ _ _ _ next (sym c.read_first.ensures ∙ format) ∙ head-stop _ _ _ _ _ next (sym c.read_word.ensures ∙ none.0) ∙ ap (λ r. on_head r next) (sym told)

pub returns : goal.returns
returns c = λ next.
    let format = passed-some c.read_first.result (bad_line 1) (sym c.ok_or.ensures.value ∙ c.in_ok-format.was) in
    let unit = passed-some c.read_word.result (bad_line 2) (sym c.ok_or-2.ensures.value ∙ c.in_ok-unit.was) in
    head-on _ _ _ _ _ next (sym c.read_first.ensures ∙ format)
    ∙ head-on _ _ _ _ _ next (sym c.read_word.ensures ∙ unit)
    ∙ head-ends _ _ _ 3 next c.read_word-2.result c.read_word-2.ensures
    ∙ ap (λ r. on_head r next) (sym c.ok_or-3.ensures.value)
