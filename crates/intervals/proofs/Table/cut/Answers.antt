-- `cut` meets its contract: of the row's word the bits before `end` stay; where there is no such row, or no line beyond `end`, nothing changes.
use Rattle.std.proofs.Common.{arith}
use mathlib.Core.Path.{◌≡◌, ap, ◌∙◌}
use mathlib.Core.Bool.{◌&&◌}
use Prim.Native.Nat.{ℕ, ◌^◌, ◌<◌}
use lib.Dec.{ltb}
use lib.ListN.{get_or, set}
use Rattle.words.specs.Words.{bits, on, Bits}
use Rattle.intervals.specs.Table.{table_of, cut_at}
use Rattle.intervals.specs.Spans.{spans}
use Rattle.intervals.specs.declared.Table.{Table}
use Rattle.intervals.proofs.Comparisons.{less, not-less}
use Rattle.intervals.proofs.TableLaws.{set-listed, left_as}
use Rattle.intervals.proofs.TableRows.{cut-none, cut-row, cut-listed}
use Rattle.intervals.proofs.Table.cut.Goals as goal
use Rattle.intervals.proofs.Table.cut.Goals.{else-lt-via-then-lt+else-lt-2, else-lt-via-else-lt}

module _ (t : Table) (l e : ℕ) where
  same : ((l < t.last.0) × (e < t.last.0) → ⊥) → t.rows ≡ table_of (cut_at t.last.0 l e (spans t))
  same h = t.tabled.whole ∙ ap table_of (cut-none t.last.0 l (spans t) (set-listed t.last.0 t.rows) e h)

  written : (w : ℕ) → l < t.last.0 → w < 2 ^ bits → Bits w (λ k. ltb k e && on (get_or t.rows l 0) k)
      → set t.rows l w ≡ table_of (cut_at t.last.0 l e (spans t))
  written w h small told = cut-row t.tabled l e w h small told

pub returns-then-lt-2-clause-rows : goal.returns-then-lt-2-clause-rows
returns-then-lt-2-clause-rows c = let a = c.args in
    written a.self.now a.left.0 a.end.0 c.below.result (less a.left.0 a.self.now.last.0 c.lt.ensures c.if-lt.true) (omega arith) c.below.ensures

pub returns-else-lt-clause-rows : goal.returns-else-lt-clause-rows
returns-else-lt-clause-rows c = let a = c.args in
    let n = a.self.now.last.0 in
    same a.self.now a.left.0 a.end.0
    (λ h.
    elim c.else-lt.branch [
      | else-lt-via-then-lt+else-lt-2 w ↦ omega (arith, h, not-less a.end.0 n w.lt-then-lt.ensures w.if-lt-2.false)
      | else-lt-via-else-lt w ↦ omega (arith, h, not-less a.left.0 n c.lt.ensures w.if-lt.false)
    ])

pub invariant_of-self : goal.invariant_of-self
invariant_of-self c = let a = c.args in
    let t = a.self.now in
    let n = t.last.0 in
    record {
      tabled =
          (left_as n (cut_at n a.left.0 a.end.0 (spans t)) t.tabled.fits (cut-listed n a.left.0 (spans t) a.end.0)
          (written t a.left.0 a.end.0 c.below.result (less a.left.0 n c.lt.ensures c.if-lt.true) (omega arith) c.below.ensures)).0;
    }
