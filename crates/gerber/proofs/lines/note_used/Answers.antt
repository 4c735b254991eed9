-- The invariant: the sizes so far, and then those of the flashes from the k-th on, are the sizes used.
use Rattle.std.proofs.Common.{arith}
use mathlib.Core.Path.{sym, ap, subst, ◌∙◌}
use mathlib.Core.List.{[]}
use Prim.Native.Nat.{◌+◌}
use lib.ListN.{length}
use Rattle.gerber.specs.File.{size_of, added, used}
use Rattle.gerber.specs.Code.{OnGrid}
use Rattle.gerber.proofs.GridSizes.{drawn-on_grid}
use Rattle.gerber.proofs.Records.{flashes-all, flashes_from}
use Rattle.gerber.proofs.Listing.{used-next, used-over, added-most}
use Rattle.gerber.proofs.lines.note_used.Goals as goal

pub loop-k-init : goal.loop-k-init
loop-k-init c = let f = c.args.flashes in
    (omega (arith, ap length c.requires), ap (used []) (flashes-all f.records.now f.count) ∙ sym (ap (λ ss. used ss (flashes_from f.records.now 0 f.count)) c.requires))

pub note-requires : goal.note-requires
note-requires c = (omega (arith, c.args.flashes.held.few), subst OnGrid (sym c.size_of.ensures) (drawn-on_grid _ c.at.ensures.drawn))

pub loop-k-preserved : goal.loop-k-preserved
loop-k-preserved c = let f = c.args.flashes in
    let l = c.loop-k in
    let e = c.note.ensures ∙ ap (added l.table) (c.size_of.ensures ∙ ap size_of c.at.ensures.is) in (
      omega (arith, ap length c.note.ensures, added-most l.table c.size_of.result),
      l.invariant.1 ∙ used-next l.table f.records.now f.count l.k (omega arith) ∙ ap (λ ss. used ss (flashes_from f.records.now (l.k + 1) f.count)) (sym e),
    )

pub returns : goal.returns
returns c = let f = c.args.flashes in
    let l = c.loop-k in
    sym (l.invariant.1 ∙ used-over l.table f.records.now f.count l.k (omega arith))
