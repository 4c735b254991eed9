-- `final_set_swept` meets its contract: each turn reduces rule 5's bracket and notes it; no dependent bracket ends before the right line,
-- nor at a line at which fewer than two intervals of the first set end, since a reduction makes none. Each turn takes an interval away.
use Rattle.std.proofs.Common.{arith}
use mathlib.Core.Path.{◌≡◌, refl, ap, ◌∙◌, subst⁻¹}
use mathlib.Core.List.{List}
use mathlib.Core.Option.{some}
use Prim.Native.Nat.{ℕ, ◌+◌, ◌*◌}
use Rattle.method.specs.Intervals.{Interval as Span}
use Rattle.method.specs.Reduce.{reduce}
use Rattle.method.specs.Final.{leftmost}
use Rattle.method.proofs.Facts.{reduce_no_new}
use Rattle.method.proofs.Search.{leftmost-minimal, leftmost-least}
use Rattle.grid.specs.Limits.{bracket_record}
use Rattle.grid.specs.Rooms.{written}
use Rattle.grid.proofs.Edges.{number}
use Rattle.intervals.specs.Table.{set_of, table_of}
use Rattle.intervals.specs.Search.{NoneBefore}
use Rattle.intervals.specs.Finished.{bracket_bytes}
use Rattle.intervals.specs.Sweep.{EndsAmong}
use Rattle.intervals.proofs.TableLaws.{set-listed}
use Rattle.intervals.proofs.FinishSteps.{finished-long, way_start, way_left, way_next, turn-over, turn-found, turn-fits, turn-rows, turn-less}
use Rattle.intervals.proofs.DoubledLines.{doubled_ends}
use Rattle.intervals.proofs.sweep.final_set_swept.Invariants.{OnLine}
use Rattle.intervals.proofs.sweep.final_set_swept.Goals as goal

next : {n : ℕ} {w a t b : List ℕ} {m k r : ℕ} → OnLine n w a t b m k r → {d : Span} → leftmost n (set_of n t) ≡ some d → (t2 b2 : List ℕ)
    → t2 ≡ table_of (reduce n (set_of n t) d) → b2 ≡ written b (k * bracket_record) (bracket_bytes d) → OnLine n w a t2 b2 m (k + 1) d.right
next {n} {t = t} {m = m} W {d} found t2 b2 e f =
    let s = set_of n t in
    let no-new = reduce_no_new n s d (set-listed n t) (leftmost-minimal n s found).0 in
    let left = (way_left W.way found t2 b2 e f).1 in
    record {
      way = way_next W.way found t2 b2 e f;
      before = subst⁻¹ (λ z. NoneBefore z d.right) left (λ i h. leftmost-least n s found i (no-new i h));
      among = subst⁻¹ (EndsAmong m) left (λ i h. W.among i (no-new i h));
    }

pub loop-d-init : goal.loop-d-init
loop-d-init c = let t = c.args.t.now in (
  refl,
  record {
    way = way_start t.tabled c.requires.roomy;
    before = λ d h. omega arith;
    among = doubled_ends t.last.0 (set-listed t.last.0 t.rows) c.doubled-doubled.result c.doubled-doubled.ensures;
  },
)

pub note_bracket-requires : goal.note_bracket-requires
note_bracket-requires c = let I = c.loop-d.invariant in
    turn-fits c.loop-d.t (ap number I.0) I.1.way c.bracket_from.result c.bracket_from.ensures c.in-Some.d c.in-Some.is

pub loop-d-smaller : goal.loop-d-smaller
loop-d-smaller c = let I = c.loop-d.invariant in
    turn-less c.loop-d.t (ap number I.0) I.1.way c.bracket_from.result c.bracket_from.ensures c.in-Some.d c.in-Some.is c.reduce.new.t
    c.note_bracket.new.room c.reduce.ensures.rows c.note_bracket.ensures

pub loop-d-preserved : goal.loop-d-preserved
loop-d-preserved c = let I = c.loop-d.invariant in
    let t = c.loop-d.t in
    let p = ap number I.0 in
    let B = c.bracket_from in
    let rows = turn-rows t p I.1.way B.result B.ensures c.in-Some.d c.in-Some.is c.reduce.new.t c.note_bracket.new.room c.reduce.ensures.rows c.note_bracket.ensures in (
      c.reduce.ensures.last ∙ I.0,
      next I.1 (turn-found t p I.1.way B.result B.ensures c.in-Some.d c.in-Some.is) c.reduce.new.t.rows c.note_bracket.new.room rows c.note_bracket.ensures,
    )

pub returns-clause-finished : goal.returns-clause-finished
returns-clause-finished c = let I = c.loop-d.invariant in
    turn-over c.loop-d.t (ap number I.0) I.1.way c.bracket_from.result c.bracket_from.ensures c.in_default.is

pub shape_of-room : goal.shape_of-room
shape_of-room c = finished-long c.args.t.now.rows c.requires.roomy (returns-clause-finished c)
