-- Each exit by its law.
use mathlib.Core.Path.{◌≡◌, refl, sym, ap, ◌∙◌}
use mathlib.Core.Bool.{true, false}
use mathlib.Core.List.{◌++◌}
use Prim.Native.Nat.{◌+◌}
use lib.ListN.{length}
use Rattle.std.specs.List.{list_any}
use Rattle.text.specs.Decimal.{decimal}
use Rattle.text.specs.Words.{word_at}
use Rattle.lists.specs.Lists.{any}
use Rattle.gerber.specs.File.{bytes, first_number, aperture_line, is_same_size}
use Rattle.gerber.specs.Parts.{found_of}
use Rattle.gerber.specs.declared.sizes.Size.{Size}
use Rattle.gerber.proofs.ApertureRead.{aperture_no_word, aperture_no_number, aperture_no_width, aperture_no_height, aperture_again, aperture_read}
use Rattle.gerber.proofs.SizeLists.{contains-any}
use Rattle.gerber.proofs.turns.read_aperture.Goals as goal

pub returns-in_err-number : goal.returns-in_err-number
returns-in_err-number c = let a = c.args in
    c.from_residual.ensures
    ∙ sym (ap (λ o. found_of o (λ z. a.spot + length (aperture_line a.plane.pitch (length a.apertures.now) z)))
    (aperture_no_word a.plane.pitch a.plane.fits a.text.now a.apertures.now (length a.apertures.now) a.spot refl (sym c.read_word.ensures ∙ c.in_err-number.was)))

pub returns-in_err-across : goal.returns-in_err-across
returns-in_err-across c = let a = c.args in
    let word = sym c.read_word.ensures ∙ c.in_ok-number.was in
    let number = ap (λ ss. word_at a.text.now c.in_ok-number.number (decimal (first_number + length ss) ++ bytes "R,")) (sym c.sizes-sizes.ensures.are) ∙ sym c.number_at.ensures
    ∙ c.in_err-across.was in
    c.from_residual-in_err-across.ensures
    ∙ sym (ap (λ o. found_of o (λ z. a.spot + length (aperture_line a.plane.pitch (length a.apertures.now) z)))
    (aperture_no_number a.plane.pitch a.plane.fits a.text.now a.apertures.now (length a.apertures.now) a.spot refl word number))

pub returns-in_err-wide : goal.returns-in_err-wide
returns-in_err-wide c = let a = c.args in
    let word = sym c.read_word.ensures ∙ c.in_ok-number.was in
    let number = ap (λ ss. word_at a.text.now c.in_ok-number.number (decimal (first_number + length ss) ++ bytes "R,")) (sym c.sizes-sizes.ensures.are) ∙ sym c.number_at.ensures
    ∙ c.in_ok-across.was in
    c.from_residual-in_err-wide.ensures
    ∙ sym (ap (λ o. found_of o (λ z. a.spot + length (aperture_line a.plane.pitch (length a.apertures.now) z)))
    (aperture_no_width a.plane.pitch a.plane.fits a.text.now a.apertures.now (length a.apertures.now) a.spot refl word number (sym c.find_side.ensures ∙ c.in_err-wide.was)))

pub returns-in_err-high : goal.returns-in_err-high
returns-in_err-high c = let a = c.args in
    let word = sym c.read_word.ensures ∙ c.in_ok-number.was in
    let number = ap (λ ss. word_at a.text.now c.in_ok-number.number (decimal (first_number + length ss) ++ bytes "R,")) (sym c.sizes-sizes.ensures.are) ∙ sym c.number_at.ensures
    ∙ c.in_ok-across.was in
    let width = sym c.find_side.ensures ∙ c.in_ok-wide.was in
    c.from_residual-in_err-high.ensures
    ∙ sym (ap (λ o. found_of o (λ z. a.spot + length (aperture_line a.plane.pitch (length a.apertures.now) z)))
    (aperture_no_height a.plane.pitch a.plane.fits a.text.now a.apertures.now (length a.apertures.now) a.spot refl word number width (sym c.find_side-2.ensures ∙ c.in_err-high.was)))

pub returns-then-contains : goal.returns-then-contains
returns-then-contains c = let a = c.args in
    let word = sym c.read_word.ensures ∙ c.in_ok-number.was in
    let number = ap (λ ss. word_at a.text.now c.in_ok-number.number (decimal (first_number + length ss) ++ bytes "R,")) (sym c.sizes-sizes.ensures.are) ∙ sym c.number_at.ensures
    ∙ c.in_ok-across.was in
    let width = sym c.find_side.ensures ∙ c.in_ok-wide.was in
    let height = sym c.find_side-2.ensures ∙ c.in_ok-high.was in
    let size : Size = record { wide = c.in_ok-wide.wide; high = c.in_ok-high.high } in
    let again : any (is_same_size size) a.apertures.now ≡ true =
    sym (c.contains.ensures.value ∙ ap (list_any (λ t. is_same_size t size)) c.sizes-sizes.ensures.are ∙ contains-any size a.apertures.now) ∙ c.if-contains.true in
    sym (ap (λ o. found_of o (λ z. a.spot + length (aperture_line a.plane.pitch (length a.apertures.now) z)))
    (aperture_again a.plane.pitch a.plane.fits a.text.now a.apertures.now (length a.apertures.now) a.spot refl word number width height again))

pub returns : goal.returns
returns c = let a = c.args in
    let word = sym c.read_word.ensures ∙ c.in_ok-number.was in
    let number = ap (λ ss. word_at a.text.now c.in_ok-number.number (decimal (first_number + length ss) ++ bytes "R,")) (sym c.sizes-sizes.ensures.are) ∙ sym c.number_at.ensures
    ∙ c.in_ok-across.was in
    let width = sym c.find_side.ensures ∙ c.in_ok-wide.was in
    let height = sym c.find_side-2.ensures ∙ c.in_ok-high.was in
    let size : Size = record { wide = c.in_ok-wide.wide; high = c.in_ok-high.high } in
    let another : any (is_same_size size) a.apertures.now ≡ false =
    sym (c.contains.ensures.value ∙ ap (list_any (λ t. is_same_size t size)) c.sizes-sizes.ensures.are ∙ contains-any size a.apertures.now) ∙ c.if-contains.false in
    sym (aperture_read a.plane.pitch a.plane.fits a.text.now a.apertures.now (length a.apertures.now) a.spot refl word number width height another)
