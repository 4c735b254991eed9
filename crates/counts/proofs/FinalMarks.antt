-- A set and the list of its brackets, counted from nothing: what the marks' turns start from. `final_marks_counted` uses it.
use mathlib.Core.Path.{◌≡◌, ap, ◌∙◌}
use mathlib.Core.Bool.{Bool, true}
use mathlib.Core.List.{List}
use Prim.Native.Nat.{ℕ, ◌*◌, ◌≤◌, ◌<◌}
use native.Mathlib.Omega.{arith}
use lib.Dec.{eqb}
use lib.ListN.{length, get_or, replicate, length-replicate, get_or-replicate}
use Rattle.lists.specs.Lists.{count, gather}
use Rattle.lists.proofs.Keep.{count-at-most}
use Rattle.method.specs.Intervals.{Interval as Span}
use Rattle.method.specs.Final.{trace}
use Rattle.method.specs.Runs.{Listed, SameBag}
use Rattle.method.proofs.Trace.{trace-length}
use Rattle.grid.specs.Limits.{side, lines, bracket_room, bracket_record, slice_limit, bag_room}
use Rattle.grid.proofs.Writing.{length-written}
use Rattle.intervals.specs.Finished.{bracket_bytes, Finished}
use Rattle.intervals.specs.Spans.{spans}
use Rattle.intervals.specs.declared.Table.{Table}
use Rattle.intervals.proofs.TableLaws.{set-listed}
use Rattle.intervals.proofs.SetSizes.{set_bound}
use Rattle.counts.specs.Spans.{spans_in}
use Rattle.counts.specs.Tally.{beginning, ending, Changed, CanChange}
use Rattle.counts.specs.Marks.{Tallies}
use Rattle.counts.proofs.SpanLaws.{spans_split}
use Rattle.counts.proofs.TallyLaws.{going_start, next_can}
use Rattle.counts.proofs.NotedLaws.{bytes-length, noted_read}
use Rattle.counts.proofs.Turns.{set_lines, bag_lines, bag_few}

module _ (t : Table) (b : List Span) (B : b ≡ trace t.last.0 (spans t)) where
  abbrev n : ℕ
  n = t.last.0

  abbrev s : List Span
  s = spans t

  same : SameBag b (trace n s)
  same p = ap (count p) B

  zero-at : (m : ℕ) → m ≡ lines → (x : ℕ) → x < length (replicate {A = ℕ} m 0) → ◌≡◌ {A = ℕ} (get_or (replicate {A = ℕ} m 0) x 0) 0
  zero-at m e x h = get_or-replicate {A = ℕ} m x 0 0 (omega (arith, length-replicate {A = ℕ} m 0))

  listed : Listed n s
  listed = set-listed n t.rows

  narrow : n ≤ side
  narrow = t.tabled.fits

  few : length s ≤ bracket_room
  few = omega (arith, set_bound n t.rows narrow)

  few-each : (p : Span → Bool) → (count p s ≤ bracket_room) × (count p b ≤ bracket_room)
  few-each p =
      (omega (arith, few, count-at-most p s), omega (arith, few, count-at-most p b, bag_few n s b listed same))

  -- the intervals come into the counts
  module _ (m : ℕ) (e : m ≡ lines) where
    pub set_comes : CanChange true (replicate m 0) (replicate m 0) s
    set_comes =
        let long = length-replicate {A = ℕ} m 0 in
        record {
          short = λ i k. let w = set_lines n s b listed same i k in (omega (arith, narrow), omega (arith, narrow));
          begun = λ x u. omega (arith, zero-at m e x u, few-each (λ i. eqb i.left x));
          ended = λ x u. omega (arith, zero-at m e x u, few-each (λ i. eqb i.right x));
        }

    -- and the brackets, where what ends rises
    module _ {rises falls : List ℕ} (come : Changed true (replicate m 0) (replicate m 0) s rises falls) where
      rises_long : length rises ≡ lines
      rises_long = come.begun.as_long ∙ length-replicate {A = ℕ} m 0 ∙ e

      falls_long : length falls ≡ lines
      falls_long = come.ended.as_long ∙ length-replicate {A = ℕ} m 0 ∙ e

      rise-at : (x : ℕ) → x < length rises → get_or rises x 0 ≡ beginning s x
      rise-at x u = let v : x < length (replicate {A = ℕ} m 0) = omega (arith, come.begun.as_long) in omega (arith, come.begun.each x v, zero-at m e x v)

      fall-at : (x : ℕ) → x < length falls → get_or falls x 0 ≡ ending s x
      fall-at x u = let v : x < length (replicate {A = ℕ} m 0) = omega (arith, come.ended.as_long) in omega (arith, come.ended.each x v, zero-at m e x v)

      pub bag_comes : CanChange true falls rises b
      bag_comes =
          record {
            short = λ i k. let w = bag_lines n s b listed same i k in (omega (arith, falls_long, narrow), omega (arith, rises_long, narrow));
            begun = λ x u. omega (arith, fall-at x u, few-each (λ i. eqb i.right x), few-each (λ i. eqb i.left x));
            ended = λ x u. omega (arith, rise-at x u, few-each (λ i. eqb i.right x), few-each (λ i. eqb i.left x));
          }

      -- some of them, which leaves room for the others
      pub some_come : (bag : List ℕ) (k bags : ℕ) → b ≡ spans_in bag 0 bags → k ≤ bags → CanChange true falls rises (spans_in bag 0 k)
      some_come bag k bags all h = next_can (going_start true falls rises b bag_comes) (spans_in bag 0 k) (spans_in bag k bags) (all ∙ spans_split bag k bags h)

      pub all_tallied : {falls₂ rises₂ : List ℕ} → Changed true falls rises b falls₂ rises₂ → Tallies t b rises₂ falls₂
      all_tallied {falls₂} {rises₂} D =
          record {
            brackets = same;
            lined = record {
              up = λ x u. let v : x < length rises = omega (arith, D.ended.as_long) in omega (arith, D.ended.each x v, rise-at x v);
              down = λ x u. let v : x < length falls = omega (arith, D.begun.as_long) in omega (arith, D.begun.each x v, fall-at x v);
            };
            rise-wide = omega (arith, D.ended.as_long, rises_long, narrow);
            fall-wide = omega (arith, D.begun.as_long, falls_long, narrow);
          }

-- what was noted of the brackets of a table's final set, in a room that has as many records as they
module _ (t : Table) {room bag after : List ℕ} {bags : ℕ} (F : Finished t.last.0 (spans t) room bags after bag) where
  pub both-held : spans_in bag 0 bags ≡ trace t.last.0 (spans t)
  both-held = noted_read (trace t.last.0 (spans t)) room F.counted F.noted

  pub bag_fits : length (spans t) ≤ slice_limit → length room ≡ bag_room → bags * bracket_record ≤ length bag
  bag_fits few u =
      let brackets = trace t.last.0 (spans t) in
      let less = trace-length t.last.0 (spans t) (set-listed t.last.0 t.rows) in
      let y = bytes-length brackets in
      omega (arith, F.counted, ap length F.noted, length-written room 0 (gather bracket_bytes brackets) (omega arith))

-- a room of this length, whatever it holds
pub room-long : (m : ℕ) → m ≡ bag_room → length (replicate {A = ℕ} m 0) ≡ bag_room
room-long m e = length-replicate {A = ℕ} m 0 ∙ e
