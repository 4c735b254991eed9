-- The invariant: the flashes so far are in the room, and what was asked is what is asked of the turns that are left.
use Rattle.std.proofs.Common.{rules, arith}
use mathlib.Core.Path.{◌≡◌, sym, ap, subst, ◌∙◌}
use mathlib.Core.List.{[]}
use Prim.Native.Nat.{◌≤◌, ◌<◌}
use lib.ListN.{length}
use Rattle.std.specs.Prelude.{Ok, Err}
use Rattle.grid.specs.Limits.{side, flash_room_size}
use Rattle.gerber.specs.Reading.{read_flashes}
use Rattle.gerber.specs.Parts.{ReadInto}
use Rattle.gerber.proofs.FlashTurns.{sofar, is-flash, turned-line, turn-over, turn-bad, turn-past, turn_on}
use Rattle.gerber.proofs.TurnedFlash.{turned-flash}
use Rattle.gerber.proofs.read.read_flashes.Goals as goal

pub loop-flash-init : goal.loop-flash-init
loop-flash-init c = (c.requires.1, omega (arith, c.requires.2), sofar _ _ _ _ _ _ _)

pub returns-in_err-flash : goal.returns-in_err-flash
returns-in_err-flash c = let a = c.args in
    let p = a.plane in
    let told : c.from_residual.result ≡ Err c.in_err-flash.field-0.0 = search rules in
    subst (λ r. ReadInto (read_flashes side p.pitch p.x p.y a.text.now a.apertures.now [] a.start) r c.loop-flash.room) (sym told)
    (turn-bad _ _ _ _ _ c.loop-flash.invariant.2 (sym c.take_turn.ensures ∙ c.in_err-flash.was))

pub overflow_sub-result : goal.overflow_sub-result
overflow_sub-result c = omega (arith, turned-line _ _ _ _ _ _ (is-flash _ (sym c.take_turn.ensures ∙ c.in_ok-flash.was ∙ ap Ok c.in-Some.is)))

pub returns-then-n-eq-SIDE : goal.returns-then-n-eq-SIDE
returns-then-n-eq-SIDE c = turn-past _ _ _ _ _ c.loop-flash.invariant.2 c.if-n-eq-SIDE.true (sym c.take_turn.ensures ∙ c.in_ok-flash.was ∙ ap Ok c.in-Some.is)

pub put_flash-requires : goal.put_flash-requires
put_flash-requires c = let l = c.loop-flash in
    let a = c.args in
    let t = turned-flash a.plane.pitch a.plane.x a.plane.y a.text.now a.apertures.now c.requires.0 l.s _ _ l.invariant.0 (omega (arith, l.invariant.1, l.invariant.2.few))
    (is-flash _ (sym c.take_turn.ensures ∙ c.in_ok-flash.was ∙ ap Ok c.in-Some.is)) in
    (t.0, omega (arith, l.invariant.2.few, c.if-n-eq-SIDE.false), omega (arith, l.invariant.2.as_long, c.requires.3))

pub loop-flash-preserved : goal.loop-flash-preserved
loop-flash-preserved c = let l = c.loop-flash in
    let a = c.args in
    let e = sym c.take_turn.ensures ∙ c.in_ok-flash.was ∙ ap Ok c.in-Some.is in
    let t = turned-flash a.plane.pitch a.plane.x a.plane.y a.text.now a.apertures.now c.requires.0 l.s _ _ l.invariant.0 (omega (arith, l.invariant.1, l.invariant.2.few)) (is-flash _ e) in
    let h : l.n < side = omega (arith, l.invariant.2.few, c.if-n-eq-SIDE.false) in
    let r : flash_room_size ≤ length l.room = omega (arith, l.invariant.2.as_long, c.requires.3) in
    (t.1, omega (arith, t.2, l.invariant.1), turn_on _ _ _ _ _ l.invariant.2 h r e c.put_flash.ensures)

pub returns : goal.returns
returns c = turn-over _ _ _ _ _ c.loop-flash.invariant.2 (sym c.take_turn.ensures ∙ c.in_ok-flash.was ∙ ap Ok c.in_default.is)
