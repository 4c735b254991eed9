-- `size` meets its contract: after the rows before line l the count is that of their intervals, and every interval begins before the last line.
use Rattle.std.proofs.Common.{arith}
use mathlib.Core.Path.{◌≡◌, sym, ◌∙◌}
use mathlib.Core.List.{List}
use Prim.Native.Nat.{ℕ, ◌+◌}
use borrow.Author.Tests.{lt-ltb}
use Rattle.lists.proofs.Counting.{length-count}
use Rattle.method.specs.Intervals.{Interval as Span}
use Rattle.method.specs.Runs.{Listed}
use Rattle.method.proofs.Listed.{in_member, listed-lines}
use Rattle.intervals.specs.Spans.{spans}
use Rattle.intervals.specs.Tops.{ends_beyond}
use Rattle.intervals.proofs.TableLaws.{set-listed}
use Rattle.intervals.proofs.SetSizes.{set_bound}
use Rattle.intervals.proofs.RowCounts.{before, before-none, before_bound, before-all, before-next}
use Rattle.intervals.proofs.Table.size.Invariants.{each}
use Rattle.intervals.proofs.Table.size.Goals as goal

-- with row l
more : (n : ℕ) {s : List Span} → Listed n s → (l : ℕ) → before s each l + ends_beyond s l n l ≡ before s each (l + 1)
more n {s} listed l =
    sym (before-next s each n listed l l (λ i m e. sym (lt-ltb l i.right (omega (arith, listed-lines n s listed i (in_member m))))))

pub overflow_add-n : goal.overflow_add-n
overflow_add-n c = let t = c.args.self.now in
    let n = t.last.0 in
    let l = c.loop-l.l in
    omega (
      arith,
      c.loop-l.invariant,
      c.ends_beyond-n.ensures,
      more n (set-listed n t.rows) l,
      before_bound (spans t) each (l + 1),
      set_bound n t.rows t.tabled.fits,
    )

pub loop-l-init : goal.loop-l-init
loop-l-init c = sym (before-none (spans c.args.self.now) each)

pub loop-l-preserved : goal.loop-l-preserved
loop-l-preserved c = let t = c.args.self.now in
    let n = t.last.0 in
    omega (arith, c.loop-l.invariant, c.ends_beyond-n.ensures, more n (set-listed n t.rows) c.loop-l.l)

pub returns : goal.returns
returns c = let t = c.args.self.now in
    let n = t.last.0 in
    let S = spans t in
    let L = set-listed n t.rows in
    c.loop-l.invariant
    ∙ before-all S each c.loop-l.l (λ i m t. omega (arith, listed-lines n S L i (in_member m)))
    ∙ sym (length-count S)
