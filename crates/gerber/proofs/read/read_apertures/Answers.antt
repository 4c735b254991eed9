-- The invariant: what was asked is what is asked from here on, behind the sizes so far.
use Rattle.std.proofs.Common.{arith}
use mathlib.Core.Path.{sym, ap, subst, ◌∙◌}
use mathlib.Core.List.{[], ◌∷◌}
use Prim.Native.Nat.{◌+◌, ◌-◌}
use lib.ListN.{length, length-append}
use Rattle.grid.specs.Limits.{side}
use Rattle.gerber.specs.Reading.{read_apertures}
use Rattle.gerber.specs.Code.{EachOnGrid}
use Rattle.gerber.proofs.GridSizes.{each-behind}
use Rattle.gerber.proofs.ApertureTurns.{apertures-stop, apertures-over, apertures-turn, aperture-on_grid, told-past}
use Rattle.gerber.proofs.read.read_apertures.Goals as goal

pub returns-in_default : goal.returns-in_default
returns-in_default c = let l = c.loop-k in
    let e = told-past c.args.plane.pitch c.args.text.now l.apertures l.k l.at l.invariant.0 (sym c.read_aperture.ensures ∙ c.in_default.is) in
    record {
      read = sym (l.invariant.1 ∙ apertures-stop c.args.plane.pitch c.args.text.now l.apertures l.k l.at l.invariant.0 e);
      held = (sym l.invariant.0, omega arith, l.invariant.2);
    }

pub loop-k-init : goal.loop-k-init
loop-k-init c = let e = sym c.requires in (
  ap length c.requires,
  ap (λ ss. read_apertures side c.args.plane.pitch c.args.text.now (record { sizes = ss; past = c.args.spot })) e,
  subst EachOnGrid e (λ k d h. absurd (omega (arith, h))),
)

pub push-requires : goal.push-requires
push-requires c = let l = c.loop-k in
    let e = told-past c.args.plane.pitch c.args.text.now l.apertures l.k l.at l.invariant.0 (sym c.read_aperture.ensures ∙ c.in-Some.is) in
    (omega (arith, l.invariant.0, c.loop-k-test.true), aperture-on_grid c.args.plane.pitch c.args.text.now l.apertures l.k l.at l.invariant.0 e)

pub loop-k-preserved : goal.loop-k-preserved
loop-k-preserved c = let l = c.loop-k in
    let e = told-past c.args.plane.pitch c.args.text.now l.apertures l.k l.at l.invariant.0 (sym c.read_aperture.ensures ∙ c.in-Some.is) in (
      omega (arith, l.invariant.0, ap length c.push.ensures, length-append l.apertures (c.in-Some.size ∷ [])),
      l.invariant.1
          ∙ apertures-turn c.args.plane.pitch c.args.text.now l.apertures l.k l.at l.invariant.0 e c.loop-k-test.true
          ∙ ap (λ ss. read_apertures (side - (l.k + 1)) c.args.plane.pitch c.args.text.now (record { sizes = ss; past = c.in-Some.next })) (sym c.push.ensures),
      subst EachOnGrid (sym c.push.ensures) (each-behind l.apertures c.in-Some.size l.invariant.2 (aperture-on_grid c.args.plane.pitch c.args.text.now l.apertures l.k l.at l.invariant.0 e)),
    )

pub returns : goal.returns
returns c = let l = c.loop-k in
    record {
      read = sym (l.invariant.1 ∙ apertures-over c.args.plane.pitch c.args.text.now l.apertures l.k l.at l.invariant.0 c.loop-k-test.false);
      held = (omega (arith, l.invariant.0), omega arith, l.invariant.2);
    }
