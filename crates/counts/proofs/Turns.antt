-- A turn of the marks' rule by counts: set s and bag b, and counts by line that give for each column its count in s less that in b, which is its count in the final set.
-- Striking a column strikes both, and the counts of the lines where they began and ended. `note_mark` uses it.
use mathlib.Core.Path.{◌≡◌, refl, sym, ap, subst⁻¹, ◌∙◌}
use mathlib.Core.Bool.{Bool, true, false}
use mathlib.Core.List.{List, [], ◌∷◌}
use mathlib.Core.Option.{some}
use Prim.Native.Nat.{ℕ, suc, ◌+◌, ◌-◌, ◌*◌, ◌^◌, ◌≤◌, ◌<◌}
use native.Mathlib.Omega.{arith}
use lib.Dec.{eqb}
use lib.ListN.{length, get_or}
use borrow.Author.Tests.{ne_eqb}
use Rattle.lists.specs.Lists.{count, first, keep, from, up_to}
use Rattle.lists.proofs.Truth.{bcase, and_left, and_right}
use Rattle.lists.proofs.Keep.{count-zero, count_positive, count-any}
use Rattle.lists.proofs.Members.{first-same, none_any}
use Rattle.lists.proofs.Ranges.{from_in}
use Rattle.method.specs.Intervals.{Interval as Span, same, holds, member}
use Rattle.method.specs.Final.{final, trace}
use Rattle.method.specs.Runs.{Listed, SameBag}
use Rattle.method.specs.Strike.{held_once, least, strike}
use Rattle.method.proofs.Lines.{holds-lines}
use Rattle.method.proofs.Listed.{listed-lines, member_in, in_member, member-keep}
use Rattle.method.proofs.Once.{held_once-below, held_once-least}
use Rattle.method.proofs.Marks.{least-holds, strike-member}
use Rattle.method.proofs.Trace.{trace-lines, trace-length}
use Rattle.method.proofs.Bags.{bag_length}
use Rattle.method.proofs.ByCounts.{bag_count, bag_strike}
use Rattle.grid.specs.Limits.{side, bracket_record}
use Rattle.grid.specs.Rooms.{written}
use Rattle.grid.proofs.Edges.{number}
use Rattle.intervals.specs.Finished.{bracket_bytes}
use Rattle.intervals.specs.Table.{table_of, NoneBegins}
use Rattle.intervals.specs.Spans.{spans}
use Rattle.intervals.specs.declared.Table.{Table}
use Rattle.intervals.proofs.TableLaws.{set-listed}
use Rattle.intervals.proofs.SetSizes.{set_bound}
use Rattle.counts.specs.Rows.{Holding}
use Rattle.counts.specs.Marks.{next_of, Tallies, Turned}
use Rattle.counts.proofs.MarkTurns.{struck_of, turn_on}
use Rattle.counts.specs.Tally.{beginning, ending, Changed, CanChange, Lined, held_to, is_held_in, Steps, Since, Onward}
use Rattle.counts.proofs.RowLaws.{least-holding}
use Rattle.counts.proofs.HeldLaws.{held_none, held-is, has-steps, held_same, steps_fewer, skip_none}

-- a list is what is left of it and what is struck
pub count-split : (c : ℕ) (p : Span → Bool) (s : List Span) → count p s ≡ count p (strike c s) + count p (keep (holds c) s)
unfolding strike
count-split c p [] = refl
count-split c p (i ∷ s) = bcase (holds c i) (λ t. rw t (omega (arith, count-split c p s))) (λ t. rw t (omega (arith, count-split c p s)))

module _ (n : ℕ) (s b : List Span) (listed : Listed n s) (bag : SameBag b (trace n s)) where
  pub set_lines : (i : Span) → member i s ≡ true → (i.left < i.right) × (i.right ≤ n)
  set_lines = listed-lines n s listed

  pub bag_lines : (i : Span) → member i b ≡ true → (i.left < i.right) × (i.right ≤ n)
  bag_lines i t =
      let k = count-any (same i) (trace n s) (omega (arith, count_positive (same i) b t, bag (same i))) in
      trace-lines n s listed (member_in i (trace n s) k)

  pub bag_few : length b ≤ length s
  bag_few = omega (arith, bag_length b (trace n s) bag, trace-length n s listed)

  -- the column that the counts give
  module _ {rises falls : List ℕ} (L : Lined s b rises falls) (wide : (n ≤ length rises) × (n ≤ length falls)) where
    pub steps : length s < 2 ^ 14 → Steps n rises falls
    steps few =
        has-steps L (λ i m. (set_lines i (in_member m)).0) (λ i m. (bag_lines i (in_member m)).0) (λ x. count (holds x) (final n s)) (bag_count n s b listed bag)
        n wide (few, omega (arith, bag_few))

    pub held-final : (x : ℕ) → x < n → is_held_in rises falls x ≡ count (holds x) (final n s)
    held-final x h =
        held-is L (λ i m. (set_lines i (in_member m)).0) (λ i m. (bag_lines i (in_member m)).0) (λ x. count (holds x) (final n s)) (bag_count n s b listed bag)
        x (omega arith) (omega arith)

    pub once-counted : first (λ x. eqb (is_held_in rises falls x) 1) (up_to n) ≡ held_once n (final n s)
    unfolding held_once
    once-counted =
        first-same (λ x. eqb (is_held_in rises falls x) 1) (λ x. eqb (count (holds x) (final n s)) 1) (up_to n)
        (λ x m. let r = from_in 0 n m in ap (λ k. eqb k 1) (held-final x (omega arith)))

-- what is struck of a list is of the list
of_struck : (c : ℕ) (s : List Span) (i : Span) → member i (keep (holds c) s) ≡ true → member i s ≡ true
of_struck c s i m = and_left (member i s) (holds c i) (sym (member-keep i (holds c) s) ∙ m)

-- before a line at which none of a list has begun
quiet : (s : List Span) (f : ℕ) → ((j : Span) → member j s ≡ true → (f ≤ j.left) × (j.left < j.right)) → (x : ℕ) → x < f → (beginning s x ≡ 0) × (ending s x ≡ 0)
quiet s f h x u = (
  count-zero (λ i. eqb i.left x) s (none_any (λ i. eqb i.left x) s (λ i m. ne_eqb i.left x (λ e. omega (arith, h i (in_member m))))),
  count-zero (λ i. eqb i.right x) s (none_any (λ i. eqb i.right x) s (λ i m. ne_eqb i.right x (λ e. omega (arith, h i (in_member m))))),
)

-- a column struck from the set
module _ {s b : List Span} {rises falls : List ℕ} (L : Lined s b rises falls) (c : ℕ) where
  pub set_can : ((i : Span) → member i s ≡ true → (i.left < length rises) × (i.right < length falls)) → CanChange false rises falls (keep (holds c) s)
  set_can h =
      record {
        short = λ i m. h i (of_struck c s i m);
        begun = λ x u. omega (arith, L.up x u, count-split c (λ i. eqb i.left x) s);
        ended = λ x u. omega (arith, L.down x u, count-split c (λ i. eqb i.right x) s);
      }

  pub set-gone : {rises₁ falls₁ : List ℕ} → Changed false rises falls (keep (holds c) s) rises₁ falls₁ → Lined (strike c s) b rises₁ falls₁
  set-gone C =
      record {
        up = λ x u.
            let v : x < length rises = omega (arith, C.begun.as_long) in
            omega (arith, L.up x v, C.begun.each x v, count-split c (λ i. eqb i.left x) s);
        down = λ x u.
            let v : x < length falls = omega (arith, C.ended.as_long) in
            omega (arith, L.down x v, C.ended.each x v, count-split c (λ i. eqb i.right x) s);
      }

-- from the bag it is the same, with rises and falls exchanged
pub exchanged : {s b : List Span} {rises falls : List ℕ} → Lined s b rises falls → Lined b s falls rises
exchanged L = record { up = λ x u. omega (arith, L.down x u); down = λ x u. omega (arith, L.up x u) }

module _ {t : Table} {b : List Span} {rises falls : List ℕ} (T : Tallies t b rises falls) where
  abbrev n : ℕ
  n = t.last.0

  abbrev s : List Span
  s = spans t

  listed : Listed n s
  listed = set-listed n t.rows

  narrow : n ≤ side
  narrow = t.tabled.fits

  wide : (n ≤ length rises) × (n ≤ length falls)
  wide = (omega (arith, T.rise-wide), omega (arith, T.fall-wide))

  pub counts_step : Steps n rises falls
  counts_step = steps n s b listed T.brackets T.lined wide (omega (arith, set_bound n t.rows narrow))

  held_of : (x : ℕ) → x < n → is_held_in rises falls x ≡ count (holds x) (final n s)
  held_of = held-final n s b listed T.brackets T.lined wide

  -- the column that the counts give is the rule's
  pub is_rule : {l h : ℕ} → Onward n rises falls l h → first (λ x. eqb (is_held_in rises falls x) 1) (from l (n - l)) ≡ held_once n (final n s)
  is_rule {l} O =
      sym (skip_none (λ x. eqb (is_held_in rises falls x) 1) n l O.within (λ x u. ne_eqb (is_held_in rises falls x) 1 (O.none-once x u)))
      ∙ once-counted n s b listed T.brackets T.lined wide

  -- a strike only takes intervals away
  pub still : (c : ℕ) (t' : Table) → t'.last ≡ t.last → t'.rows ≡ table_of (strike c s) → {p : ℕ} → NoneBegins s p → NoneBegins (spans t') p
  still c t' l S since i m = since i (strike-member c s i (sym (ap (member i) (struck_of t c t' l S)) ∙ m)).0

  module _ {c : ℕ} (once : next_of t ≡ some c) where
    module _ {i : Span} (o : least c s ≡ some i) where
      pub below : c < n
      below = held_once-below n (final n s) once

      pub set-holding : Holding n s i.left c
      set-holding = least-holding n s listed c below o (holds-lines c i (least-holds c s o).1).0

      pub set_asks : CanChange false rises falls (keep (holds c) s)
      set_asks = set_can T.lined c (λ j m. let w = set_lines n s b listed T.brackets j m in (omega (arith, T.rise-wide), omega (arith, T.fall-wide)))

      module _ {rises₁ falls₁ : List ℕ} (C : Changed false rises falls (keep (holds c) s) rises₁ falls₁) where
        -- whatever column is struck from the bag
        pub bag_asks : (d : ℕ) → CanChange false falls₁ rises₁ (keep (holds d) b)
        bag_asks d =
            set_can (exchanged (set-gone T.lined c C)) d
            (λ j m.
            let w = bag_lines n s b listed T.brackets j m in
            (omega (arith, T.fall-wide, C.ended.as_long), omega (arith, T.rise-wide, C.begun.as_long)))

        module _ (t' : Table) (l : t'.last ≡ t.last) (S : t'.rows ≡ table_of (strike c s)) where
          pub still-tallied : {b' : List Span} {rises₂ falls₂ : List ℕ} → b' ≡ strike c b → Changed false falls₁ rises₁ (keep (holds c) b) falls₂ rises₂ → Tallies t' b' rises₂ falls₂
          still-tallied {b'} {rises₂} {falls₂} B D =
              let so = struck_of t c t' l S in
              let e : t'.last.0 ≡ n = ap number l in
              let rises_long : length rises₂ ≡ length rises = D.ended.as_long ∙ C.begun.as_long in
              let falls_long : length falls₂ ≡ length falls = D.begun.as_long ∙ C.ended.as_long in
              let brackets : trace t'.last.0 (spans t') ≡ trace n (strike c s) = (λ x. trace (e x) (so x)) in
              record {
                brackets = λ p. ap (count p) B ∙ bag_strike n s b listed T.brackets c p ∙ ap (count p) (sym brackets);
                lined =
                    subst⁻¹ (λ z. Lined z b' rises₂ falls₂) so
                    (subst⁻¹ (λ z. Lined (strike c s) z rises₂ falls₂) B (exchanged (set-gone (exchanged (set-gone T.lined c C)) c D)));
                rise-wide = omega (arith, T.rise-wide);
                fall-wide = omega (arith, T.fall-wide);
              }

          -- a strike of set, bag and counts is a turn of the marks' rule: the counts are of the set and the bag that are left, and as long as they were
          pub turned : {noted noted' : List ℕ} {b' : List Span} {rises₂ falls₂ : List ℕ} → n * bracket_record ≤ length noted
              → noted' ≡ written noted (c * bracket_record) (bracket_bytes i) → b' ≡ strike c b → Changed false falls₁ rises₁ (keep (holds c) b) falls₂ rises₂
              → Tallies t' b' rises₂ falls₂ × Turned t noted t' noted' × (length rises₂ ≡ length rises) × (length falls₂ ≡ length falls)
          turned h w B D = (still-tallied B D, turn_on t t' once o h l S w, D.ended.as_long ∙ C.begun.as_long, D.begun.as_long ∙ C.ended.as_long)

        -- before the first line that was struck the counts are as they were
        module _ {f : ℕ} (F : Since i.left (keep (holds c) b) f) {falls₂ rises₂ : List ℕ} (D : Changed false falls₁ rises₁ (keep (holds c) b) falls₂ rises₂) where
          set-quiet : (x : ℕ) → x < f → (beginning (keep (holds c) s) x ≡ 0) × (ending (keep (holds c) s) x ≡ 0)
          set-quiet =
              quiet (keep (holds c) s) f
              (λ j m.
              let k = member-keep j (holds c) s in
              let x = sym k ∙ m in
              let w = set_lines n s b listed T.brackets j (of_struck c s j m) in
              (omega (arith, F.given, set-holding.none_before j (of_struck c s j m) (and_right (member j s) (holds c j) x)), w.0))

          bag_quiet : (x : ℕ) → x < f → (beginning (keep (holds c) b) x ≡ 0) × (ending (keep (holds c) b) x ≡ 0)
          bag_quiet = quiet (keep (holds c) b) f (λ j m. (F.begun j m, (bag_lines n s b listed T.brackets j (of_struck c b j m)).0))

          pub early : f ≤ c
          early = omega (arith, F.given, set-holding.early)

          as_before : (x : ℕ) → x < f → (get_or rises₂ x 0 ≡ get_or rises x 0) × (get_or falls₂ x 0 ≡ get_or falls x 0)
          as_before x h =
              let p = set-quiet x h in
              let q = bag_quiet x h in
              let a = early in
              let u = below in
              let v : x < length rises = omega (arith, T.rise-wide) in
              let w : x < length falls = omega (arith, T.fall-wide) in
              let v₁ : x < length rises₁ = omega (arith, C.begun.as_long) in
              let w₁ : x < length falls₁ = omega (arith, C.ended.as_long) in
              (omega (arith, C.begun.each x v, D.ended.each x v₁), omega (arith, C.ended.each x w, D.begun.each x w₁))

          -- so the next column is looked for from there
          pub onward : {m h : ℕ} → m ≡ n → h ≡ held_to rises₂ falls₂ f → Onward m rises₂ falls₂ f h
          onward q e =
              let u = below in
              let a = early in
              record {
                within = omega arith;
                before = e;
                none-once = λ x l o.
                    held_once-least n (final n s) once x (omega arith)
                    (sym (held_of x (omega arith)) ∙ sym (held_same rises falls rises₂ falls₂ (suc x) (λ y k. as_before y (omega arith))) ∙ o);
              }

-- a column that was struck is not held, so that what is held before a line can be counted back from there
pub back_asks : (t : Table) {t' : Table} {b : List Span} {rises falls : List ℕ} {c f : ℕ} → t'.last ≡ t.last → t'.rows ≡ table_of (strike c (spans t)) → Tallies t' b rises falls → c < t.last.0 → f ≤ c
    → Steps (c + 1) rises falls × (is_held_in rises falls c ≡ 0) × (f ≤ c) × (c + 1 < 2 ^ 64)
back_asks t {t'} {b} {c = c} l S T u h =
    let e : t'.last.0 ≡ t.last.0 = ap number l in
    let none = count-zero (holds c) (strike c (spans t)) (none_any (holds c) (strike c (spans t)) (λ j m. (strike-member c (spans t) j (in_member m)).1)) in (
      steps_fewer (counts_step T) (c + 1) (omega arith),
      omega (arith, held_of T c (omega arith), bag_count t'.last.0 (spans t') b (set-listed t'.last.0 t'.rows) T.brackets c, ap (count (holds c)) (struck_of t c t' l S)),
      h,
      omega (arith, t.tabled.fits),
    )

-- at first it is looked for from the first column on
pub onward-start : (n : ℕ) (rises falls : List ℕ) → Onward n rises falls 0 0
onward-start n rises falls = record { within = omega arith; before = held_none rises falls; none-once = λ x u e. omega arith }
