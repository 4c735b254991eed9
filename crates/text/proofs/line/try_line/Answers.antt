-- Each step takes the reading further, or ends it: what was asked equals what is left to read.
use Rattle.std.proofs.Common.{sym, ◌∙◌}
use Rattle.text.proofs.Lines.{line_no_word, line_no_fields, line-end, numbers-past}
use Rattle.text.proofs.Filling.{on-spot, all-filled, none-filled}
use Rattle.text.proofs.line.try_line.Goals as goal

pub returns-in_err-first : goal.returns-in_err-first
returns-in_err-first c = record {
  past = c.from_residual.ensures ∙ sym (line_no_word _ _ _ _ _ (sym c.read_word.ensures ∙ c.in_err-first.was));
  filled = none-filled _ _ c.from_residual.ensures;
}

pub returns-in_err-end : goal.returns-in_err-end
returns-in_err-end c = record {
  past = c.from_residual-in_err-end.ensures ∙ sym (line_no_fields _ _ _ _ _ (sym c.read_word.ensures ∙ c.in_ok-first.was) (sym c.read_fields.ensures.past ∙ c.in_err-end.was));
  filled = none-filled _ _ c.from_residual-in_err-end.ensures;
}

pub returns : goal.returns
returns c =
    let w = sym c.read_word.ensures ∙ c.in_ok-first.was in
    let f = c.read_fields.ensures in
    record {
      past = c.read_byte.ensures ∙ sym (line-end _ _ _ _ _ w (sym f.past ∙ c.in_ok-end.was));
      filled = all-filled c.read_byte.result (on-spot c.in_ok-end.was f.filled ∙ numbers-past _ _ _ c.args.limit _ w);
    }
