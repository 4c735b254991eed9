-- `write_marks` meets its contract. The loop's invariant: the first marks of the columns before c are added to none.
use Rattle.std.proofs.Common.{arith}
use mathlib.Core.Path.{◌≡◌, refl, sym, ap}
use Prim.Native.Nat.{ℕ, ◌+◌, ◌-◌, ◌≤◌}
use lib.ListN.{length, take, length-append}
use Rattle.method.specs.Intervals.{Interval as Span}
use Rattle.grid.proofs.Edges.{number}
use Rattle.cover.specs.Code.{row_between, marked_in, marks_noted}
use Rattle.cover.proofs.RecordsBehind.{none-marked, as_marked, more-marked, all-marked}
use Rattle.cover.proofs.NotedMarks.{noted-none, taken_next, taken-few}
use Rattle.cover.proofs.marks.write_marks.Goals as goal

pub loop-c-init : goal.loop-c-init
loop-c-init c = let g = c.args in
    as_marked (noted-none (row_between g.last.0 g.edges.bottoms.now g.edges.ends.now) g.noted.now g.most) (none-marked g.room.now 0)

pub write_mark-n-requires : goal.write_mark-n-requires
write_mark-n-requires c = let g = c.args in
    let end : c.column_after-end.result.0 ≡ g.last.0 = ap number c.column_after-end.ensures in
    let a = c.loop-c.invariant in
    let f = taken-few (row_between g.last.0 g.edges.bottoms.now g.edges.ends.now) g.noted.now c.loop-c.c g.most in record {
      within = (c.requires.within.3 c.loop-c.c (omega arith), omega arith, omega arith, omega arith);
      lent = (omega arith, omega (arith, a.count), omega (arith, a.as_long));
    }

pub loop-c-preserved : goal.loop-c-preserved
loop-c-preserved c =
    let g = c.args in
    let end : c.column_after-end.result.0 ≡ g.last.0 = ap number c.column_after-end.ensures in
    let rows : Span → ℕ = row_between g.last.0 g.edges.bottoms.now g.edges.ends.now in
    let noted = g.noted.now in
    let a = c.loop-c.invariant in
    let next = taken_next rows noted c.loop-c.c g.most c.loop-c.n (omega (arith, a.count)) in
    let here = take g.most (marks_noted rows noted c.loop-c.c) in
    let more = take (g.most - c.loop-c.n) (marked_in rows noted c.loop-c.c) in
    let few : length here + length more ≤ c.loop-c.c + 1 = omega (arith, ap length next, length-append here more, taken-few rows noted (c.loop-c.c + 1) g.most) in
    as_marked next (more-marked (omega arith) c.requires.lent.1 a c.write_mark-n.ensures)

pub returns : goal.returns
returns c =
    let g = c.args in
    let rows : Span → ℕ = row_between g.last.0 g.edges.bottoms.now g.edges.ends.now in
    let e : c.loop-c.c ≡ g.last.0 = omega (arith, ap number c.column_after-end.ensures) in
    all-marked (as_marked (ap (λ k. take g.most (marks_noted rows g.noted.now k)) (sym e)) c.loop-c.invariant) refl

pub shape_of-room : goal.shape_of-room
shape_of-room c = c.loop-c.invariant.as_long
