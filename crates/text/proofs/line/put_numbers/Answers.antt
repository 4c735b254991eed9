-- The word, field by field, and then the line feed.
use Rattle.std.proofs.Common.{arith, map}
use Rattle.std.proofs.lemmas.List.{length-map}
use Rattle.text.proofs.Ahead.{length-line, headed, shown, field_fits, field-written, feed-fits, line-ended}
use Rattle.text.proofs.line.put_numbers.Goals as goal

pub put_bytes-at-requires : goal.put_bytes-at-requires
put_bytes-at-requires g c = omega (arith, c.requires, length-line c.args.word.now (map g.T.Number.value c.args.numbers.now))

pub loop-number-init : goal.loop-number-init
loop-number-init g c = headed _ _ _ _ c.requires c.put_bytes-at.ensures

pub put_field-at-requires : goal.put_field-at-requires
put_field-at-requires g c =
    let s = shown g.T.Number.value c.args.numbers.now c.loop-number.number-index c.number-item.result c.loop-number-test.true c.number-item.is c.value.ensures in
    field_fits c.loop-number.invariant _ s.0 s.1

pub loop-number-preserved : goal.loop-number-preserved
loop-number-preserved g c =
    let s = shown g.T.Number.value c.args.numbers.now c.loop-number.number-index c.number-item.result c.loop-number-test.true c.number-item.is c.value.ensures in
    field-written c.loop-number.invariant _ s.0 s.1 c.put_field-at.ensures

pub put_byte-requires : goal.put_byte-requires
put_byte-requires g c = feed-fits c.loop-number.invariant (omega (arith, c.loop-number-test.false, length-map c.args.numbers.now g.T.Number.value))

pub returns : goal.returns
returns g c = line-ended c.loop-number.invariant (omega (arith, c.loop-number-test.false, length-map c.args.numbers.now g.T.Number.value)) c.put_byte.ensures
