-- Each leaf takes the reading one step further, or ends it: what was asked equals what is left to read.
use Rattle.std.proofs.Common.{eq-eqb, ne_eqb}
use Rattle.job.proofs.Row.{row-steps}
use Rattle.job.proofs.lines.read_row.Goals as goal

pub returns-in_err-first : goal.returns-in_err-first
returns-in_err-first c =
    rw (
      row-steps c.args.text.now c.args.spot c.args.width c.args.row.0,
      ← c.read_word.ensures,
      c.in_err-first.was,
    ) c.from_residual.ensures

pub returns-in_err-number : goal.returns-in_err-number
returns-in_err-number c =
    rw (
      row-steps c.args.text.now c.args.spot c.args.width c.args.row.0,
      ← c.read_word.ensures,
      c.in_ok-first.was,
      ← c.read_field.ensures,
      c.in_err-number.was,
    ) c.from_residual-in_err-number.ensures

pub returns-then-number-wanted : goal.returns-then-number-wanted
returns-then-number-wanted c =
    rw (
      row-steps c.args.text.now c.args.spot c.args.width c.args.row.0,
      ← c.read_word.ensures,
      c.in_ok-first.was,
      ← c.read_field.ensures,
      c.in_ok-number.was,
      ne_eqb c.in_ok-number.number c.args.row.0 c.if-number-wanted.true,
    )

pub returns-in_err-body : goal.returns-in_err-body
returns-in_err-body c =
    rw (
      row-steps c.args.text.now c.args.spot c.args.width c.args.row.0,
      ← c.read_word.ensures,
      c.in_ok-first.was,
      ← c.read_field.ensures,
      c.in_ok-number.was,
      eq-eqb c.in_ok-number.number c.args.row.0 c.if-number-wanted.false,
      ← c.read_byte.ensures,
      c.in_err-body.was,
    ) c.from_residual-in_err-body.ensures

pub returns-in_err-end : goal.returns-in_err-end
returns-in_err-end c =
    rw (
      row-steps c.args.text.now c.args.spot c.args.width c.args.row.0,
      ← c.read_word.ensures,
      c.in_ok-first.was,
      ← c.read_field.ensures,
      c.in_ok-number.was,
      eq-eqb c.in_ok-number.number c.args.row.0 c.if-number-wanted.false,
      ← c.read_byte.ensures,
      c.in_ok-body.was,
      ← c.read_body.ensures,
      c.in_err-end.was,
    ) c.from_residual-in_err-end.ensures

pub returns : goal.returns
returns c =
    rw (
      row-steps c.args.text.now c.args.spot c.args.width c.args.row.0,
      ← c.read_word.ensures,
      c.in_ok-first.was,
      ← c.read_field.ensures,
      c.in_ok-number.was,
      eq-eqb c.in_ok-number.number c.args.row.0 c.if-number-wanted.false,
      ← c.read_byte.ensures,
      c.in_ok-body.was,
      ← c.read_body.ensures,
      c.in_ok-end.was,
    ) c.read_byte-2.ensures
