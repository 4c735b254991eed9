-- A turn of the marks' rule over a table: it ends where nothing is left, and else a mark is noted and its column struck.
-- Where the final set has no column held once, the set is empty; where it has one, some interval of the set holds it, and striking it leaves fewer.
-- `note_marks` and both ways to a mark use it.
use mathlib.Core.Path.{◌≡◌, refl, sym, ap, ap₂, ◌∙◌}
use mathlib.Core.List.{List, []}
use mathlib.Core.Option.{Option, none, some}
use Prim.Native.Nat.{ℕ, suc, ◌+◌, ◌*◌, ◌^◌, ◌≤◌, ◌<◌}
use native.Mathlib.Omega.{arith}
use Rattle.std.specs.Prelude.{Some, None}
use Rattle.std.specs.Prelude.{Option as Found}
use lib.ListN.{length}
use Rattle.lists.proofs.Truth.{missing}
use Rattle.method.specs.Intervals.{Interval as Span}
use Rattle.method.specs.Strike.{Marked, least, strike, marked}
use Rattle.method.specs.Final.{final}
use Rattle.method.specs.Runs.{Listed}
use Rattle.method.proofs.Listed.{listed-lines, strike-listed}
use Rattle.method.proofs.Final.{final-listed}
use Rattle.method.proofs.Once.{held_once-below, never-once-empty}
use Rattle.method.proofs.Marks.{least-found, least-holds, strike-shorter, marked_step, marked_empty, marked-length, final-short}
use Rattle.grid.specs.Limits.{side, bracket_record}
use Rattle.grid.specs.Lines.{span_of, interval_of}
use Rattle.grid.specs.declared.lines.Column.{Column}
use Rattle.grid.specs.declared.lines.Interval.{Interval}
use Rattle.grid.specs.Rooms.{written}
use Rattle.grid.proofs.Edges.{number}
use Rattle.grid.proofs.Writing.{length-written}
use Rattle.intervals.specs.Finished.{bracket_bytes}
use Rattle.intervals.specs.Table.{table_of, found_of}
use Rattle.intervals.specs.Spans.{spans}
use Rattle.intervals.specs.declared.Table.{Table}
use Rattle.intervals.proofs.TableLaws.{set-listed, left_to}
use Rattle.counts.specs.Marks.{once_of, noted_for, marks_of, next_of, Turned}

-- what a search told: the interval or the column that was found, or that there is none
pub found-told : (o : Option Span) {r : Found Interval} {i : Interval} → r ≡ found_of o → r ≡ Some i → o ≡ some (span_of i)
found-told none e k = cc
found-told (some j) {i = i} e k = let m : interval_of j ≡ i = cc in ap (λ (x : Interval). some (span_of x)) m

pub nothing-told : (o : Option Span) {r : Found Interval} → r ≡ found_of o → r ≡ None → o ≡ none
nothing-told none e k = refl
nothing-told (some j) e k = cc

pub not-once-told : (o : Option ℕ) {r : Found Column} → r ≡ once_of o → r ≡ None → o ≡ none
not-once-told none e k = refl
not-once-told (some x) e k = cc

module _ (t : Table) where
  abbrev n : ℕ
  n = t.last.0

  abbrev s : List Span
  s = spans t

  listed : Listed n s
  listed = set-listed n t.rows

  -- a column that is held once is held by an interval of the set
  pub never-nothing : {c : ℕ} → next_of t ≡ some c → least c s ≡ none → ⊥
  never-nothing e o = missing o (least-found n s listed e).1

  pub mark-fits : {c : ℕ} {i : Span} {m : ℕ} → next_of t ≡ some c → least c s ≡ some i → n * bracket_record ≤ m
      → (i.left < 2 ^ 8) × (i.right < 2 ^ 8) × (c * bracket_record + bracket_record ≤ m)
  mark-fits {c} {i} e o h =
      let w = listed-lines n s listed i (least-holds c s o).0 in
      let b = held_once-below n (final n s) e in
      let f = t.tabled.fits in
      (omega arith, omega arith, omega arith)

  -- the table without the column's intervals
  pub struck_of : (c : ℕ) (t' : Table) → t'.last ≡ t.last → t'.rows ≡ table_of (strike c s) → spans t' ≡ strike c s
  struck_of c t' l q = left_to n (strike c s) t.tabled.fits (strike-listed n s listed c) (ap number l) q

  -- the final set in a table of its own
  pub final-left : (t' : Table) → t'.last ≡ t.last → t'.rows ≡ table_of (final n s) → spans t' ≡ final n s
  final-left t' l q = left_to n (final n s) t.tabled.fits (final-listed n s listed) (ap number l) q

  pub turn_on : {c : ℕ} {i : Span} {noted noted' : List ℕ} (t' : Table) → next_of t ≡ some c → least c s ≡ some i → n * bracket_record ≤ length noted
      → t'.last ≡ t.last → t'.rows ≡ table_of (strike c s) → noted' ≡ written noted (c * bracket_record) (bracket_bytes i) → Turned t noted t' noted'
  unfolding noted_for
  turn_on {c} {i} {noted} {noted'} t' e o h l q r =
      let so = struck_of c t' l q in
      let b = held_once-below n (final n s) e in
      let step = marked_step n s listed e o in
      let rest : marks_of t' ≡ marked n (strike c s) = (λ x. marked (ap number l x) (so x)) in
      record {
        last = l;
        fewer = omega (arith, ap length so, strike-shorter n s listed e);
        one_more = ap length step ∙ ap (λ (ms : List Marked). suc (length ms)) (sym rest) ∙ omega arith;
        marking = ap (λ ms. noted_for ms noted) step ∙ ap₂ (λ (ms : List Marked) (x : List ℕ). noted_for ms x) (sym rest) (sym r);
        noted-long = ap length r ∙ length-written noted (c * bracket_record) (bracket_bytes i) (omega arith);
      }

  -- where no column is held once, nothing is left to mark
  pub marks-over : next_of t ≡ none → (room : List ℕ) → (noted_for (marks_of t) room ≡ room) × (length (marks_of t) ≡ 0)
  unfolding noted_for
  marks-over o room =
      let e : marks_of t ≡ [] = ap (marked n) (never-once-empty n s listed o) ∙ marked_empty n in
      (ap (λ ms. noted_for ms room) e, ap length e)

  -- there are as many marks as intervals of the final set
  pub marks-final : length (marks_of t) ≡ length (final n s)
  marks-final = marked-length n s listed

  pub marks-few : length (marks_of t) ≤ side
  marks-few = omega (arith, marks-final, final-short n s listed, t.tabled.fits)

-- so many marks are noted: what was to be noted is what is noted with what is left to note
pub record Noting (all : Table) (room : List ℕ) (rest : Table) (noted : List ℕ) (marks : ℕ) : Type 0 where
  pub last : rest.last ≡ all.last
  pub noted-long : length noted ≡ length room
  pub marking : noted_for (marks_of all) room ≡ noted_for (marks_of rest) noted
  pub counted : length (marks_of all) ≡ marks + length (marks_of rest)

module _ {all rest : Table} {room noted : List ℕ} {marks : ℕ} (N : Noting all room rest noted marks) where
  pub noting-few : marks ≤ side
  noting-few = omega (arith, N.counted, marks-few all)

  pub noting-over : next_of rest ≡ none → (marks ≡ length (marks_of all)) × (noted ≡ noted_for (marks_of all) room)
  noting-over o =
      let over = marks-over rest o noted in
      (omega (arith, N.counted, over.1), sym (N.marking ∙ over.0))
