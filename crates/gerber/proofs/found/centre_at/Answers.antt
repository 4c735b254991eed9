-- A centre of more than ten digits stands nowhere; another is printed and compared.
use Rattle.std.proofs.Common.{arith}
use mathlib.Core.Path.{◌≡◌, sym, ap, ◌∙◌}
use mathlib.Core.Bool.{true}
use mathlib.Core.List.{◌++◌}
use lib.ListN.{length}
use lib.Seq.{length-take-le}
use Rattle.text.specs.Words.{word_at}
use Rattle.gerber.specs.File.{centre, coordinate_in_range}
use Rattle.gerber.proofs.Coordinates.{square_out, square_in_lem, coordinate_length, told-signed}
use Rattle.gerber.proofs.Compared.{printed}
use Rattle.gerber.proofs.found.centre_at.Goals as goal

pub returns-then-not-coordinate_fits : goal.returns-then-not-coordinate_fits
returns-then-not-coordinate_fits c = let a = c.args in
    sym (square_out a.text.now a.spot (centre a.axis.pitch a.axis.origin a.a a.b) a.close.now (sym c.coordinate_fits.ensures ∙ c.if-not-coordinate_fits.true))

pub print_signed-end-requires : goal.print_signed-end-requires
print_signed-end-requires c = let a = c.args in
    let z = centre a.axis.pitch a.axis.origin a.a a.b in
    let fits : coordinate_in_range z ≡ true = sym c.coordinate_fits.ensures ∙ c.if-not-coordinate_fits.false in
    omega (arith, coordinate_length z fits, ap length (told-signed c.centre.result z c.centre.ensures fits))

pub slice_bounds-room-end : goal.slice_bounds-room-end
slice_bounds-room-end c = let a = c.args in
    let z = centre a.axis.pitch a.axis.origin a.a a.b in
    let fits : coordinate_in_range z ≡ true = sym c.coordinate_fits.ensures ∙ c.if-not-coordinate_fits.false in
    omega (arith, coordinate_length z fits, ap length (told-signed c.centre.result z c.centre.ensures fits), c.print_signed-end.ensures.past, c.print_signed-end.auto.room)

pub slice_bounds-piece_at-end : goal.slice_bounds-piece_at-end
slice_bounds-piece_at-end c = let a = c.args in
    let z = centre a.axis.pitch a.axis.origin a.a a.b in
    let fits : coordinate_in_range z ≡ true = sym c.coordinate_fits.ensures ∙ c.if-not-coordinate_fits.false in
    let long = ap length (told-signed c.centre.result z c.centre.ensures fits) in
    sym (length-take-le _ c.print_signed-end.new.room (omega (arith, coordinate_length z fits, long, c.print_signed-end.ensures.past, c.print_signed-end.auto.room)))

pub returns : goal.returns
returns c = let a = c.args in
    let z = centre a.axis.pitch a.axis.origin a.a a.b in
    let fits : coordinate_in_range z ≡ true = sym c.coordinate_fits.ensures ∙ c.if-not-coordinate_fits.false in
    c.piece_at.ensures
    ∙ ap (λ p. word_at a.text.now a.spot (p ++ a.close.now)) (printed c.print_signed-end.ensures ∙ told-signed c.centre.result z c.centre.ensures fits)
    ∙ square_in_lem a.text.now a.spot z a.close.now fits
