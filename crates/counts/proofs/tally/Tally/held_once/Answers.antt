-- `held_once` meets its contract. The loop's invariant: what is held before line c, and the leftmost column from `start` on that is held once is the leftmost from `c` on.
use Rattle.std.proofs.Common.{arith}
use mathlib.Core.Path.{◌≡◌, sym, ap, ◌∙◌}
use borrow.Author.Tests.{eq-eqb, ne_eqb}
use Rattle.lists.proofs.Passes.{up_from, up-here, up-on, up-end}
use Rattle.grid.proofs.Edges.{number}
use Rattle.counts.specs.Marks.{once_of}
use Rattle.counts.specs.Tally.{held_to, is_held_in}
use Rattle.counts.proofs.HeldLaws.{up-from, line-next, held_in}
use Rattle.counts.proofs.tally.Tally.held_once.Invariants.{once}
use Rattle.counts.proofs.tally.Tally.held_once.Goals as goal

pub loop-c-init : goal.loop-c-init
loop-c-init c =
    let t = c.args.self.now in
    let from_start = sym (ap number c.column_after-first.ensures) in (
      up-from (once t.rises t.falls) c.args.last.0 c.args.start.0 ∙ ap (up_from (once t.rises t.falls) c.args.last.0) from_start,
      c.requires.before_value ∙ ap (held_to t.rises t.falls) from_start,
    )

pub returns-then-held-eq1 : goal.returns-then-held-eq1
returns-then-held-eq1 c =
    let t = c.args.self.now in
    let one : is_held_in t.rises t.falls c.loop-c.c ≡ 1 = omega (arith, held_in t.rises t.falls c.loop-c.c, line-next t.rises t.falls c.loop-c.c, c.loop-c.invariant.1) in
    sym (ap once_of (c.loop-c.invariant.0 ∙ up-here _ _ _ (omega (arith, ap number c.column_after-end.ensures)) (eq-eqb _ _ one)))

pub loop-c-preserved : goal.loop-c-preserved
loop-c-preserved c =
    let t = c.args.self.now in
    let next = line-next t.rises t.falls c.loop-c.c in (
      c.loop-c.invariant.0 ∙ up-on _ _ _ (omega (arith, ap number c.column_after-end.ensures)) (ne_eqb _ _ (λ e. omega (arith, held_in t.rises t.falls c.loop-c.c, next, c.loop-c.invariant.1))),
      omega (arith, next, c.loop-c.invariant.1),
    )

pub returns : goal.returns
returns c = sym (ap once_of (c.loop-c.invariant.0 ∙ up-end _ _ _ (omega (arith, ap number c.column_after-end.ensures))))
