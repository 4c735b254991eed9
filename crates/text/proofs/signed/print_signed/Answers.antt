-- The minus of a number below 0, and then how far it is from 0.
use Rattle.std.proofs.Common.{arith, ap, ◌∙◌, ◌≡◌, [], ◌∷◌, length, ℕ}
use lib.IntN.{nat_abs}
use mir.Facts.{to_z-of_z}
use Rattle.text.specs.Decimal.{decimal}
use Rattle.text.specs.Signed.{minus}
use Rattle.grid.proofs.Writing.{then-written}
use Rattle.text.proofs.Onward.{same-spot}
use Rattle.text.proofs.Signs.{signed_below, signed-from}
use Rattle.text.proofs.signed.print_signed.Goals as goal
use Rattle.text.proofs.signed.print_signed.Goals.{then-value-lt0, else-value-lt0}

pub put_byte-at-requires : goal.put_byte-at-requires
put_byte-at-requires c = omega (arith, ap length (signed_below _ c.ranges.value c.if-value-lt0.true))

pub print_number-requires : goal.print_number-requires
print_number-requires c =
    let far : c.unsigned_abs.result ≡ nat_abs c.args.value = c.unsigned_abs.ensures.value ∙ ap nat_abs (to_z-of_z c.ranges.value) in
    let long = ap (λ (d : ℕ). length (decimal d)) far in
    elim c.if-value-lt0.branch [
      | then-value-lt0 w ↦ omega (arith, long, ap length (signed_below _ c.ranges.value w.if-value-lt0.true), w.put_byte-at.ensures.past, w.at-is, c.if-value-lt0.auto.room)
      | else-value-lt0 w ↦ omega (arith, long, ap length (signed-from _ c.ranges.value w.if-value-lt0.false), w.at-is, c.if-value-lt0.auto.room)
    ]

pub returns : goal.returns
returns c =
    let far : c.unsigned_abs.result ≡ nat_abs c.args.value = c.unsigned_abs.ensures.value ∙ ap nat_abs (to_z-of_z c.ranges.value) in
    let digits = rw far at c.print_number.ensures in
    elim c.if-value-lt0.branch [
      | then-value-lt0 w ↦
          let below = signed_below _ c.ranges.value w.if-value-lt0.true in
          rw below
          (then-written c.args.room.now c.args.spot (minus ∷ []) (decimal (nat_abs c.args.value)) (omega (arith, ap length below))
          w.put_byte-at.ensures
          (same-spot w.room-is w.at-is digits))
      | else-value-lt0 w ↦ rw (signed-from _ c.ranges.value w.if-value-lt0.false) (same-spot w.room-is w.at-is digits)
    ]
