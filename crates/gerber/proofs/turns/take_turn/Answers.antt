-- Each exit by its law.
use Rattle.std.proofs.Common.{arith}
use mathlib.Core.Path.{sym, ap, subst, ◌∙◌}
use lib.ListN.{length}
use Rattle.gerber.specs.Reading.{flash_at, flash_turn}
use Rattle.gerber.specs.Parts.{Sound, turn_of}
use Rattle.gerber.proofs.TurnLaws.{select_bound, select-past, turned-select, turned-end, end-past, turned_on, selected-sound}
use Rattle.gerber.proofs.turns.take_turn.Goals as goal

pub selected-requires : goal.selected-requires
selected-requires c = let a = c.args in
    let e = sym c.read_select.ensures ∙ c.in-Some.is in (
      c.requires.0.line,
      omega (
        arith,
        select_bound a.plane.pitch a.plane.x a.plane.y a.text.now a.apertures.now _
            (sym (ap length c.sizes-count.ensures.are)) a.s e,
        c.sizes-count.ensures.few,
        ap length c.sizes-count.ensures.are,
      ),
      select-past a.plane.pitch a.plane.x a.plane.y a.text.now a.apertures.now _ (sym (ap length c.sizes-count.ensures.are)) a.s e,
    )

pub flash_turn-requires : goal.flash_turn-requires
flash_turn-requires c = let a = c.args in
    let e = sym c.read_select.ensures ∙ c.in-Some.is in
    let b = select_bound a.plane.pitch a.plane.x a.plane.y a.text.now a.apertures.now _ (sym (ap length c.sizes-count.ensures.are)) a.s e in
    subst (Sound (length a.apertures.now)) (sym c.selected.ensures) (selected-sound (length a.apertures.now) a.s _ (omega (arith, b, ap length c.sizes-count.ensures.are)) c.requires.0 c.requires.1)

pub returns-in-Some : goal.returns-in-Some
returns-in-Some c = let a = c.args in
    let e = sym c.read_select.ensures ∙ c.in-Some.is in
    c.flash_turn.ensures
    ∙ ap (λ t. turn_of (flash_turn a.plane.pitch a.plane.x a.plane.y t (flash_at a.plane.pitch a.plane.x a.plane.y a.text.now a.apertures.now t))) c.selected.ensures
    ∙ sym (ap turn_of (turned-select a.plane.pitch a.plane.x a.plane.y a.text.now a.apertures.now _ (sym (ap length c.sizes-count.ensures.are)) a.s e))

pub end_turn-requires : goal.end_turn-requires
end_turn-requires c = let a = c.args in
    let e = sym c.read_select.ensures ∙ c.in_default.is in
    (c.requires.0.line, end-past a.plane.pitch a.plane.x a.plane.y a.text.now a.apertures.now _ (sym (ap length c.sizes-count.ensures.are)) a.s e (sym c.read_word.ensures ∙ c.in-Some-read_word.is))

pub returns-in-Some-read_word : goal.returns-in-Some-read_word
returns-in-Some-read_word c = let a = c.args in
    let e = sym c.read_select.ensures ∙ c.in_default.is in
    c.end_turn.ensures ∙ sym (ap turn_of
    (turned-end a.plane.pitch a.plane.x a.plane.y a.text.now a.apertures.now _ (sym (ap length c.sizes-count.ensures.are)) a.s e (sym c.read_word.ensures ∙ c.in-Some-read_word.is)))

pub returns : goal.returns
returns c = let a = c.args in
    let e = sym c.read_select.ensures ∙ c.in_default.is in
    c.flash_turn-2.ensures ∙ sym (ap turn_of
    (turned_on a.plane.pitch a.plane.x a.plane.y a.text.now a.apertures.now _ (sym (ap length c.sizes-count.ensures.are)) a.s e (sym c.read_word.ensures ∙ c.in_default-read_word.is)))
