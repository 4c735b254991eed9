-- `stepped` meets its contract: each way out is a case of the sweep's step. The first two go by the row's greatest line alone.
use Rattle.std.proofs.Common.{arith}
use mathlib.Core.Path.{◌≡◌, refl}
use mathlib.Core.List.{List}
use Prim.Native.Nat.{ℕ, ◌-◌}
use Rattle.grid.specs.Lines.{line}
use Rattle.intervals.specs.Table.{set_of}
use Rattle.intervals.specs.Spans.{spans}
use Rattle.intervals.specs.Reach.{reach}
use Rattle.intervals.specs.Tops.{tops, ends_beyond, Greatest}
use Rattle.intervals.proofs.Comparisons.{less, not-less, at-most, beyond}
use Rattle.intervals.proofs.TableLaws.{set-listed}
use Rattle.intervals.proofs.TopLines.{two-greatest}
use Rattle.intervals.proofs.SweepSteps.{below, step-found, step_twice, step-once, step_past}
use Rattle.intervals.proofs.sweep.stepped.Goals as goal

-- the row's greatest line, and the next one, whether it is looked for or not
row : (n : ℕ) (t : List ℕ) (l b greater p : ℕ) → line greater ≡ line (reach (set_of n t) l 0 b) → line p ≡ line (reach (set_of n t) l 0 (greater - 1))
    → Greatest 0 (ends_beyond (set_of n t) l b) (tops greater p)
row n t l b greater p f e = two-greatest n (set-listed n t) l b greater p f e

pub returns-then-lt : goal.returns-then-lt
returns-then-lt c =
    let a = c.args in
    let t = a.t.now in
    let n = t.last.0 in
    let q = c.furthest-greater.result.0 in
    let r = row n t.rows a.left.0 a.right.0 q (reach (spans t) a.left.0 0 (q - 1)) c.furthest-greater.ensures refl in
    step_past n (set-listed n t.rows) a.right.0 c.requires.left_lt_right c.requires.swept r (less q a.held.once.0 c.lt.ensures c.if-lt.true)

pub returns-then-lt-2 : goal.returns-then-lt-2
returns-then-lt-2 c =
    let a = c.args in
    let t = a.t.now in
    let n = t.last.0 in
    let q = c.furthest-greater.result.0 in
    let r = row n t.rows a.left.0 a.right.0 q (reach (spans t) a.left.0 0 (q - 1)) c.furthest-greater.ensures refl in
    step-once n (set-listed n t.rows) a.right.0 c.requires.left_lt_right c.requires.swept r (not-less q a.held.once.0 c.lt.ensures c.if-lt.false)
    (less q a.held.twice.0 c.lt-2.ensures c.if-lt-2.true)

pub overflow_sub-greater : goal.overflow_sub-greater
overflow_sub-greater c =
    let a = c.args in
    let n = a.t.now.last.0 in
    omega (
      arith,
      below n (set-listed n a.t.now.rows) a.right.0 c.requires.left_lt_right c.requires.swept,
      not-less c.furthest-greater.result.0 a.held.once.0 c.lt.ensures c.if-lt.false,
    )

pub returns-then-le : goal.returns-then-le
returns-then-le c =
    let a = c.args in
    let t = a.t.now in
    let n = t.last.0 in
    let q = c.furthest-greater.result.0 in
    let p = c.furthest-lesser.result.0 in
    let r = row n t.rows a.left.0 a.right.0 q p c.furthest-greater.ensures c.furthest-lesser.ensures in
    step-found n (set-listed n t.rows) a.right.0 c.requires.left_lt_right c.requires.swept r
    (not-less q a.held.twice.0 c.lt-2.ensures c.if-lt-2.false)
    (at-most a.held.once.0 p c.le.ensures c.if-le.true)

pub returns : goal.returns
returns c =
    let a = c.args in
    let t = a.t.now in
    let n = t.last.0 in
    let q = c.furthest-greater.result.0 in
    let p = c.furthest-lesser.result.0 in
    let r = row n t.rows a.left.0 a.right.0 q p c.furthest-greater.ensures c.furthest-lesser.ensures in
    step_twice n (set-listed n t.rows) a.right.0 c.requires.left_lt_right c.requires.swept r
    (not-less q a.held.twice.0 c.lt-2.ensures c.if-lt-2.false)
    (beyond a.held.once.0 p c.le.ensures c.if-le.false)
