-- No aperture is current, or a flash of the current one's size.
use Rattle.std.proofs.Common.{rules, arith}
use mathlib.Core.Path.{◌≡◌, sym, ap, subst, ◌∙◌}
use Prim.Native.Nat.{◌+◌}
use lib.ListN.{length}
use Rattle.std.specs.Prelude.{Err}
use Rattle.gerber.specs.File.{centre_line}
use Rattle.gerber.specs.Code.{OnGrid}
use Rattle.gerber.specs.Reading.{placed_at, size_at, flash_turn}
use Rattle.gerber.specs.Parts.{bad_line, flash_found, turn_of}
use Rattle.gerber.proofs.FlashRead.{turn-none, turn-some, none_current, one_current, refused-none, passed-some}
use Rattle.gerber.proofs.turns.flash_turn.Goals as goal

pub returns-in_err-current : goal.returns-in_err-current
returns-in_err-current c = let a = c.args in
    let none = refused-none a.s.current (bad_line a.s.line) (sym c.ok_or.ensures.value ∙ c.in_err-current.was) in
    let told : c.from_residual.result ≡ Err (bad_line a.s.line) = search rules in
    told ∙ none_current a.plane.pitch a.plane.x a.plane.y a.s a.text.now a.apertures.now none.0

pub bounds-sizes-current : goal.bounds-sizes-current
bounds-sizes-current c = let a = c.args in
    let some = passed-some a.s.current (bad_line a.s.line) (sym c.ok_or.ensures.value ∙ c.in_ok-current.was) in
    omega (arith, c.requires.current c.in_ok-current.current some, ap length c.sizes.ensures.are)

pub read_flash-requires : goal.read_flash-requires
read_flash-requires c = let a = c.args in
    let k = c.in_ok-current.current in
    let some = passed-some a.s.current (bad_line a.s.line) (sym c.ok_or.ensures.value ∙ c.in_ok-current.was) in
    subst (λ ss. OnGrid (size_at ss k)) (sym c.sizes.ensures.are) (c.sizes.ensures.on_grid k _ (c.requires.current k some))

pub returns-in_err-flash : goal.returns-in_err-flash
returns-in_err-flash c = let a = c.args in
    let p = a.plane in
    let k = c.in_ok-current.current in
    let some = passed-some a.s.current (bad_line a.s.line) (sym c.ok_or.ensures.value ∙ c.in_ok-current.was) in
    let none = refused-none c.read_flash.result (bad_line a.s.line) (sym c.ok_or-2.ensures.value ∙ c.in_err-flash.was) in
    let told : c.from_residual-in_err-flash.result ≡ Err (bad_line a.s.line) = search rules in
    let size = ap (λ ss. flash_found (placed_at p.pitch p.x p.y a.text.now (size_at ss k) a.s.at) (λ q. a.s.at + length (centre_line p.pitch p.x p.y q))) (sym c.sizes.ensures.are) in
    told
    ∙ turn-none p.pitch p.x p.y a.s _ (size ∙ sym c.read_flash.ensures ∙ none.0)
    ∙ ap (λ o. turn_of (flash_turn p.pitch p.x p.y a.s o)) (sym (one_current p.pitch p.x p.y a.s a.text.now a.apertures.now some))

pub returns : goal.returns
returns c = let a = c.args in
    let p = a.plane in
    let k = c.in_ok-current.current in
    let some = passed-some a.s.current (bad_line a.s.line) (sym c.ok_or.ensures.value ∙ c.in_ok-current.was) in
    let found = passed-some c.read_flash.result (bad_line a.s.line) (sym c.ok_or-2.ensures.value ∙ c.in_ok-flash.was) in
    let size = ap (λ ss. flash_found (placed_at p.pitch p.x p.y a.text.now (size_at ss k) a.s.at) (λ q. a.s.at + length (centre_line p.pitch p.x p.y q))) (sym c.sizes.ensures.are) in
    turn-some p.pitch p.x p.y a.s _ (size ∙ sym c.read_flash.ensures ∙ found)
    ∙ ap (λ o. turn_of (flash_turn p.pitch p.x p.y a.s o)) (sym (one_current p.pitch p.x p.y a.s a.text.now a.apertures.now some))
