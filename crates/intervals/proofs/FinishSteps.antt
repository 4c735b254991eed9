-- On the way to a final set, whichever search finds the brackets: what is asked of the table left equals what was asked of the first one.
-- Each turn reduces rule 5's bracket and notes it; both final sets go by these steps.
use mathlib.Core.Path.{◌≡◌, refl, sym, ap, ◌∙◌, subst}
use mathlib.Core.List.{List, [], ◌∷◌}
use mathlib.Core.Option.{Option, none, some}
use Prim.Native.Nat.{ℕ, ◌+◌, ◌*◌, ◌^◌, ◌≤◌, ◌<◌}
use native.Mathlib.Omega.{arith}
use lib.ListN.{length}
use Rattle.lists.specs.Lists.{gather}
use Rattle.lists.proofs.Blocks.{blocks_length}
use Rattle.method.specs.Intervals.{Interval as Span}
use Rattle.method.specs.Reduce.{reduce}
use Rattle.method.specs.Final.{leftmost, final, trace}
use Rattle.method.proofs.Facts.{reduce-listed, reduce_size}
use Rattle.method.proofs.Minimal.{minimal-dependent, dependent-proper}
use Rattle.method.proofs.Search.{leftmost-minimal}
use Rattle.method.proofs.Final.{final-done, final-step}
use Rattle.method.proofs.Trace.{trace-done, trace-step, trace-length}
use Rattle.grid.specs.Limits.{side, bracket_record}
use Rattle.grid.specs.Lines.{span_of, interval_of}
use Rattle.grid.specs.Rooms.{written}
use Rattle.grid.proofs.Writing.{written_none, written_then, length-written}
use Rattle.grid.specs.declared.lines.Interval.{Interval}
use Rattle.std.specs.Prelude.{Option as Found, None, Some}
use Rattle.intervals.specs.Table.{set_of, table_of, Tabled, found_of}
use Rattle.intervals.specs.Spans.{spans}
use Rattle.intervals.specs.declared.Table.{Table}
use Rattle.intervals.specs.Finished.{bracket_bytes, Roomy, Finished}
use Rattle.intervals.proofs.TableLaws.{set-listed, left_as}

-- what was found, read back
found_nothing : (o : Option Span) → found_of o ≡ None → o ≡ none
found_nothing none e = refl
found_nothing (some i) e = cc

found_at : (o : Option Span) (d : Interval) → found_of o ≡ Some d → o ≡ some (span_of d)
found_at none d e = cc
found_at (some i) d e = let q : interval_of i ≡ d = cc in ap some (ap span_of q)

pub none_found : (o : Option Span) (r : Found Interval) → r ≡ found_of o → r ≡ None → o ≡ none
none_found o r e f = found_nothing o (sym e ∙ f)

pub some-found : (o : Option Span) (r : Found Interval) (d : Interval) → r ≡ found_of o → r ≡ Some d → o ≡ some (span_of d)
some-found o r d e f = found_at o d (sym e ∙ f)

-- the brackets' records, one behind the other
abbrev noted : List Span → List ℕ
noted ds = gather bracket_bytes ds

noted-length : (ds : List Span) → length (noted ds) ≡ length ds * bracket_record
noted-length ds = blocks_length bracket_bytes bracket_record (λ d. refl) ds

-- a room with a record for each interval of the set holds the trace, so what it holds afterwards is as long
pub finished-long : {n : ℕ} (w : List ℕ) {a t b : List ℕ} {k : ℕ} → Roomy (set_of n w) a → Finished n (set_of n w) a k t b → length b ≡ length a
finished-long {n} w {a} R F =
    ap length F.noted
    ∙ length-written a 0 (noted (trace n (set_of n w))) (omega (arith, R, noted-length (trace n (set_of n w)), trace-length n (set_of n w) (set-listed n w)))

-- the bracket that was found: its lines are bytes, and there is room for its record
module _ {n : ℕ} {t : List ℕ} (T : Tabled n t) {d : Span} (found : leftmost n (set_of n t) ≡ some d) where
  shorter : length (reduce n (set_of n t) d) + 1 ≡ length (set_of n t)
  shorter = omega (arith, reduce_size n (set_of n t) d (set-listed n t) (leftmost-minimal n (set_of n t) found).0)

  pub found-room : (k : ℕ) (b : List ℕ) → k * bracket_record + length (set_of n t) * bracket_record ≤ length b → k * bracket_record + bracket_record ≤ length b
  found-room k b h = omega (arith, shorter, h)

  pub found-lines : (d.left < d.right) × (d.right ≤ n) × (n ≤ side)
  found-lines =
      let M = leftmost-minimal n (set_of n t) found in
      (dependent-proper (set_of n t) d (minimal-dependent (set_of n t) d M.0), M.1, T.fits)

-- from the table w and the room a the loop has come to the table t and the room b, with k brackets noted
pub record OnWay (n : ℕ) (w a t b : List ℕ) (k : ℕ) : Type 0 where
  pub table : Tabled n t
  pub set : final n (set_of n w) ≡ final n (set_of n t)
  pub counted : length (trace n (set_of n w)) ≡ k + length (trace n (set_of n t))
  pub noted : written a 0 (noted (trace n (set_of n w))) ≡ written b (k * bracket_record) (noted (trace n (set_of n t)))
  pub long : length b ≡ length a
  pub roomy : k * bracket_record + length (set_of n t) * bracket_record ≤ length b

pub way_start : {n : ℕ} {t room : List ℕ} → Tabled n t → Roomy (set_of n t) room → OnWay n t room t room 0
way_start T R = record { table = T; set = refl; counted = omega arith; noted = refl; long = refl; roomy = omega (arith, R) }

module _ {n : ℕ} {w a t b : List ℕ} {k : ℕ} (W : OnWay n w a t b k) where
  pub way_done : leftmost n (set_of n t) ≡ none → Finished n (set_of n w) a k t b
  way_done e =
      let s = set_of n t in
      let over : trace n s ≡ [] = trace-done n s e in
      record {
        set = W.table.whole ∙ ap table_of (sym (W.set ∙ final-done n s e));
        counted = omega (arith, W.counted, ap length over);
        noted = sym (W.noted ∙ ap (λ ds. written b (k * bracket_record) (noted ds)) over ∙ written_none b (k * bracket_record));
      }

  module _ {d : Span} (found : leftmost n (set_of n t) ≡ some d) where
    module _ (t2 b2 : List ℕ) (e : t2 ≡ table_of (reduce n (set_of n t) d)) (f : b2 ≡ written b (k * bracket_record) (bracket_bytes d)) where
      pub way_left : Tabled n t2 × (set_of n t2 ≡ reduce n (set_of n t) d)
      way_left = left_as n (reduce n (set_of n t) d) W.table.fits (reduce-listed n (set_of n t) d) e

      rest : trace n (set_of n t) ≡ d ∷ trace n (set_of n t2)
      rest = trace-step n (set_of n t) (set-listed n t) found ∙ ap (λ s. d ∷ trace n s) (sym way_left.1)

      pub way_less : length (set_of n t2) < length (set_of n t)
      way_less = omega (arith, ap length way_left.1, shorter W.table found)

      -- the rest of the trace is no longer than the room behind the record
      short : length (noted (trace n (set_of n t2))) ≤ length (set_of n t2) * bracket_record
      short = omega (arith, noted-length (trace n (set_of n t2)), trace-length n (set_of n t2) (set-listed n t2))

      pub way_next : OnWay n w a t2 b2 (k + 1)
      way_next =
          let next : k * bracket_record + bracket_record ≡ (k + 1) * bracket_record = omega arith in
          record {
            table = way_left.0;
            set = W.set ∙ final-step n (set_of n t) (set-listed n t) found ∙ ap (final n) (sym way_left.1);
            counted = omega (arith, W.counted, ap length rest);
            noted = W.noted
                ∙ ap (λ ds. written b (k * bracket_record) (noted ds)) rest
                ∙ sym (written_then b (k * bracket_record) (bracket_bytes d) (noted (trace n (set_of n t2))) (omega (arith, short, way_less, W.roomy)))
                ∙ ap (λ r. written r (k * bracket_record + bracket_record) (noted (trace n (set_of n t2)))) (sym f)
                ∙ ap (λ i. written b2 i (noted (trace n (set_of n t2)))) next;
            long = ap length f ∙ length-written b (k * bracket_record) (bracket_bytes d) (found-room W.table found k b W.roomy) ∙ W.long;
            roomy = omega (arith, ap length f, length-written b (k * bracket_record) (bracket_bytes d) (found-room W.table found k b W.roomy), way_less, W.roomy);
          }

-- a turn, by what the search found in a table with the same last line
module _ {n : ℕ} {w a b : List ℕ} {k : ℕ} (t : Table) (p : t.last.0 ≡ n) (W : OnWay n w a t.rows b k) (r : Found Interval)
    (e : r ≡ found_of (leftmost t.last.0 (spans t))) where
  searched : r ≡ found_of (leftmost n (set_of n t.rows))
  searched = subst (λ m. r ≡ found_of (leftmost m (set_of m t.rows))) p e

  pub turn-over : r ≡ None → Finished n (set_of n w) a k t.rows b
  turn-over f = way_done W (none_found (leftmost n (set_of n t.rows)) r searched f)

  module _ (d : Interval) (f : r ≡ Some d) where
    pub turn-found : leftmost n (set_of n t.rows) ≡ some (span_of d)
    turn-found = some-found (leftmost n (set_of n t.rows)) r d searched f

    -- its record has a place, and its lines are bytes
    pub turn-fits : (d.left.0 < 2 ^ 8) × (d.right.0 < 2 ^ 8) × (k * bracket_record + bracket_record ≤ length b)
    turn-fits = let l = found-lines W.table turn-found in
        (omega (arith, l), omega (arith, l), found-room W.table turn-found k b W.roomy)

    -- the table and the room that it leaves
    module _ (t2 : Table) (b2 : List ℕ) (g : t2.rows ≡ table_of (reduce t.last.0 (spans t) (span_of d)))
        (h : b2 ≡ written b (k * bracket_record) (bracket_bytes (span_of d))) where
      pub turn-rows : t2.rows ≡ table_of (reduce n (set_of n t.rows) (span_of d))
      turn-rows = subst (λ m. t2.rows ≡ table_of (reduce m (set_of m t.rows) (span_of d))) p g

      pub turn-less : length (set_of n t2.rows) < length (set_of n t.rows)
      turn-less = way_less W turn-found t2.rows b2 turn-rows h

      pub turn-next : OnWay n w a t2.rows b2 (k + 1)
      turn-next = way_next W turn-found t2.rows b2 turn-rows h
