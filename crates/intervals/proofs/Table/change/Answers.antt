-- `change` meets its contract: the bit of an interval over the lines is as asked, and for any other nothing changes.
use Rattle.std.proofs.Common.{arith}
use mathlib.Core.Path.{◌≡◌, sym, ◌∙◌}
use mathlib.Core.Bool.{Bool, true, cond}
use Prim.Native.Nat.{ℕ, ◌-◌, ◌^◌, ◌<◌}
use lib.Dec.{leb, eqb}
use lib.ListN.{get_or, set}
use mathlib.Core.Bool.{◌&&◌}
use Rattle.method.specs.Intervals.{Interval as Span, proper}
use Rattle.grid.specs.Lines.{span_of}
use Rattle.words.specs.Words.{bits, on, Bits}
use Rattle.intervals.specs.Table.{table_of, changed}
use Rattle.intervals.specs.Spans.{spans}
use Rattle.intervals.specs.declared.Table.{Table}
use Rattle.intervals.proofs.TableLaws.{within-lines, within_none, change_row, change_none, changed-listed, left_as}
use Rattle.intervals.proofs.Table.change.Goals as goal

written : (t : Table) (i : Span) (b : Bool) (w : ℕ) → (proper i && leb i.right t.last.0) ≡ true → w < 2 ^ bits
    → Bits w (λ k. cond (eqb k (i.right - 1)) b (on (get_or t.rows i.left 0) k)) → set t.rows i.left w ≡ table_of (changed t.last.0 i b (spans t))
written t i b w h small told =
    let l = within-lines t.last.0 i h in
    change_row t.tabled i b w l.0 l.1 small told

pub returns-then-within-clause-rows : goal.returns-then-within-clause-rows
returns-then-within-clause-rows c = let a = c.args in
    written a.self.now (span_of a.i) a.present c.changed.result (sym c.within.ensures ∙ c.if-within.true) (omega arith) c.changed.ensures

pub returns-else-within-clause-rows : goal.returns-else-within-clause-rows
returns-else-within-clause-rows c = let a = c.args in
    change_none a.self.now.tabled (span_of a.i) a.present (within_none a.self.now.last.0 (span_of a.i) (sym c.within.ensures ∙ c.if-within.false))

pub invariant_of-self : goal.invariant_of-self
invariant_of-self c = let a = c.args in
    let t = a.self.now in
    let n = t.last.0 in
    let i = span_of a.i in
    record {
      tabled =
          (left_as n (changed n i a.present (spans t)) t.tabled.fits (changed-listed n i a.present (spans t))
          (written t i a.present c.changed.result (sym c.within.ensures ∙ c.if-within.true) (omega arith) c.changed.ensures)).0;
    }
