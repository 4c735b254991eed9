-- A bad head, or the head, the apertures and the flashes.
use Rattle.std.proofs.Common.{rules, arith}
use mathlib.Core.Path.{◌≡◌, sym, subst}
use mathlib.Core.List.{[]}
use Prim.Native.Nat.{ℕ, ◌+◌}
use Rattle.std.specs.Prelude.{None, Err}
use Rattle.grid.specs.Limits.{side}
use Rattle.gerber.specs.Reading.{read_flashes, read_file}
use Rattle.gerber.specs.Parts.{HeadRead, ReadInto}
use Rattle.gerber.proofs.ReadOutcomes.{file-bad, file-on}
use Rattle.gerber.proofs.read.read_file.Goals as goal

pub returns-in_err-spot : goal.returns-in_err-spot
returns-in_err-spot c = let a = c.args in
    let p = a.plane in
    let told : c.from_residual.result ≡ Err c.in_err-spot.field-0.0 = search rules in
    subst (λ r. ReadInto (read_file p.pitch p.x p.y a.text.now) r a.room.now) (sym told)
    (file-bad p.pitch p.x p.y a.text.now _ (subst (HeadRead a.text.now) c.in_err-spot.was c.read_head.ensures))

pub read_flashes-requires : goal.read_flashes-requires
read_flashes-requires c = let h = c.read_apertures-sizes.ensures.held in (
  h.2,
  record { line = omega (arith, h.1); used = omega arith; current = λ k e. let z : ◌≡◌ {A = ℕ} 0 1 = cc in absurd (omega arith) },
  omega (arith, h.1),
  c.requires,
)

pub returns : goal.returns
returns c = let a = c.args in
    let p = a.plane in
    let f = c.read_flashes in
    let r = c.read_apertures-sizes in
    let told =
    subst (λ n. ReadInto (read_flashes side p.pitch p.x p.y a.text.now r.new.apertures [] (record { line = 3 + n + 1; at = r.result.past; used = 0; current = None })) f.result f.new.room)
    r.ensures.held.0 f.ensures in
    file-on p.pitch p.x p.y a.text.now f.result f.new.room (subst (HeadRead a.text.now) c.in_ok-spot.was c.read_head.ensures) r.ensures.read told
