-- Flashes row by row of the table: a row from one end to the next, the rows one after the other, and what is written on the way.
-- The rows in order are the set in order; whatever the rest gives, all gives. `write_row` and `write_flashes` use it.
use mathlib.Core.Path.{◌≡◌, sym, ap, subst, ◌∙◌}
use mathlib.Core.Bool.{true}
use mathlib.Core.List.Memᴰ
use mathlib.Core.List.{List, [], ◌∷◌, ◌++◌, map}
use mathlib.Core.Logic.{by_cases}
use mathlib.Core.Option.{Option, none, some}
use Prim.Native.Nat.{ℕ, zero, suc, ◌+◌, ◌-◌, ◌≤◌, ◌<◌}
use native.Mathlib.Numerals.{add-one}
use native.Mathlib.Omega.{arith}
use native.Mathlib.Decide.{dec_lt}
use lib.ListN.{length, length-append}
use Rattle.lists.specs.Lists.{keep, gather, from}
use Rattle.lists.proofs.Truth.{bcase}
use Rattle.lists.proofs.Members.{In}
use Rattle.lists.proofs.Ranges.{keep-gather, map-append, map_in}
use Rattle.lists.proofs.Keep.{kept}
use Rattle.method.specs.Intervals.{Interval, span, beginning_at, member}
use Rattle.method.specs.Runs.{Listed}
use Rattle.grid.specs.Squares.{Rectangle}
use Rattle.intervals.specs.Table.{next_end}
use Rattle.intervals.proofs.TableRows.{next_here, next-on, next-over}
use Rattle.cover.specs.Code.{from_line, Drawn, Ready, Added}
use Rattle.cover.specs.declared.flashes.Flashed.{Flashed}
use Rattle.cover.proofs.FlashBounds.{flashed-small}
use Rattle.cover.proofs.RecordsBehind.{as_added, none-added, more_added}

-- a row, from one end to the next
module _ (n : ℕ) (s : List Interval) (l : ℕ) where
  -- the intervals of the row that end beyond line p
  abbrev pub beyond : ℕ → List Interval
  beyond p = keep (λ i. member i s) (map (λ r. span l r) (from (suc p) (n - p)))

  -- the same, by the next of its ends
  abbrev rest_at : Option ℕ → List Interval
  rest_at none = []
  rest_at (some e) = span l e ∷ beyond e

  beyond-over : (p : ℕ) → n ≤ p → beyond p ≡ rest_at (next_end n s l p)
  beyond-over p u = let e : n - p ≡ 0 = omega arith in rw (e, next-over n s l p u)

  beyond-left : (k p : ℕ) → n ≤ p + k → beyond p ≡ rest_at (next_end n s l p)
  beyond-left zero p u = beyond-over p (omega arith)
  beyond-left (suc k) p u =
      by_cases (dec_lt p n)
      (λ h.
      let e : n - p ≡ suc (n - suc p) = omega arith in
      bcase (member (span l (suc p)) s)
      (λ t. rw (next_here n s l p h (rw (add-one p) t) ∙ ap some (add-one p), e, t))
      (λ f. rw (next-on n s l p h (rw (add-one p) f) ∙ ap (next_end n s l) (add-one p), e, f) (beyond-left k (suc p) (omega arith))))
      (λ h. beyond-over p (omega arith))

  -- one interval, and what is left after it; none
  pub row-next : (p : ℕ) {e : ℕ} → next_end n s l p ≡ some e → beyond p ≡ span l e ∷ beyond e
  row-next p q = beyond-left n p (omega arith) ∙ ap rest_at q

  pub row-over : (p : ℕ) → next_end n s l p ≡ none → beyond p ≡ []
  row-over p q = beyond-left n p (omega arith) ∙ ap rest_at q

-- the rows from line l on
module _ (n : ℕ) (s : List Interval) where
  abbrev pub rows_from : ℕ → List Interval
  rows_from l = gather (from_line n s) (from l (n - l))

  pub rows_start : Listed n s → s ≡ rows_from 0
  rows_start listed = let e : n ≡ n - 0 = omega arith in listed ∙ keep-gather (λ i. member i s) (beginning_at n) (from 0 n) ∙ ap (λ k. gather (from_line n s) (from 0 k)) e

  rows_next : (l : ℕ) → l < n → rows_from l ≡ from_line n s l ++ rows_from (l + 1)
  rows_next l h =
      let e : n - l ≡ suc (n - (l + 1)) = omega arith in
      ap (λ k. gather (from_line n s) (from l k)) e ∙ ap (λ k. from_line n s l ++ gather (from_line n s) (from k (n - (l + 1)))) (sym (add-one l))

  pub rows-over : (l : ℕ) → n ≤ l → rows_from l ≡ []
  rows-over l h = let e : n - l ≡ 0 = omega arith in rw e

  module _ (rule : Interval → Rectangle) where
    pub flashes-next : (l : ℕ) → l < n → map rule (rows_from l) ≡ map rule (from_line n s l) ++ map rule (rows_from (l + 1))
    flashes-next l h = ap (map rule) (rows_next l h) ∙ map-append rule (from_line n s l) (rows_from (l + 1))

    pub row-drawn : ((i : Interval) → member i s ≡ true → Drawn (rule i)) → (l : ℕ) (q : Rectangle) → In q (map rule (from_line n s l)) → Drawn q
    row-drawn drawn l q m = let r = map_in rule (from_line n s l) m in subst Drawn (sym r.2) (drawn r.0 (kept (λ i. member i s) (beginning_at n l) r.1).1)

pub one-drawn : {p : Rectangle} → Drawn p → (q : Rectangle) → In q (p ∷ []) → Drawn q
one-drawn d q m = subst Drawn (sym (Memᴰ.eq_of_singleton m)) d

-- on the way: whatever is put behind what is done so far as the rest is all, put behind what was done at first; and there is room for the rest
pub record Going (all rest : List Rectangle) (f₀ : List ℕ) (d₀ : Flashed) (f : List ℕ) (d : Flashed) : Type 0 where
  pub on : (d' : Flashed) (f' : List ℕ) → Added rest f d d' f' → Added all f₀ d₀ d' f'
  pub ready : Ready rest d f

pub going_start : {all : List Rectangle} {f : List ℕ} {d : Flashed} → Ready all d f → Going all all f d f d
going_start r = record { on = λ d' f' A. A; ready = r }

module _ {all rest : List Rectangle} {f₀ f : List ℕ} {d₀ d : Flashed} (G : Going all rest f₀ d₀ f d) where
  pub going_over : rest ≡ [] → Added all f₀ d₀ d f
  going_over e = G.on d f (as_added e (none-added f d))

  module _ (ps qs : List Rectangle) (e : rest ≡ ps ++ qs) where
    pub going_ready : Ready ps d f
    going_ready = record { short = omega (arith, G.ready.short, ap length e, length-append ps qs); small = G.ready.small; lent = G.ready.lent }

    pub going_next : {d' : Flashed} {f' : List ℕ} → ((q : Rectangle) → In q ps → Drawn q) → Added ps f d d' f' → Going all qs f₀ d₀ f' d'
    going_next drawn A = record {
      on = λ d'' f'' B. G.on d'' f'' (as_added e (more_added (omega (arith, G.ready.short, ap length e, length-append ps qs)) G.ready.lent A B));
      ready = record {
        short = omega (arith, G.ready.short, ap length e, length-append ps qs, A.count);
        small = omega (arith, G.ready.small, A.count, A.area, flashed-small ps drawn);
        lent = omega (arith, G.ready.lent, A.as_long);
      };
    }

-- a row on the way, beyond line p
pub record GoingRow (n : ℕ) (s : List Interval) (l : ℕ) (rule : Interval → Rectangle) (p : ℕ) (f₀ : List ℕ) (d₀ : Flashed) (f : List ℕ) (d : Flashed) : Type 0 where
  pub going : Going (map rule (from_line n s l)) (map rule (beyond n s l p)) f₀ d₀ f d

module _ {n : ℕ} {s : List Interval} {l : ℕ} {rule : Interval → Rectangle} {p : ℕ} {f₀ f : List ℕ} {d₀ d : Flashed} (G : GoingRow n s l rule p f₀ d₀ f d) where
  pub row_over : next_end n s l p ≡ none → Added (map rule (from_line n s l)) f₀ d₀ d f
  row_over q = going_over G.going (ap (map rule) (row-over n s l p q))

  module _ {e : ℕ} (q : next_end n s l p ≡ some e) where
    pub row_ready : Ready (rule (span l e) ∷ []) d f
    row_ready = going_ready G.going (rule (span l e) ∷ []) (map rule (beyond n s l e)) (ap (map rule) (row-next n s l p q))

    pub row_smaller : length (beyond n s l e) < length (beyond n s l p)
    row_smaller = omega (arith, ap length (row-next n s l p q))

    pub row_turn : Drawn (rule (span l e)) → {f' : List ℕ} {d' : Flashed} → Added (rule (span l e) ∷ []) f d d' f' → GoingRow n s l rule e f₀ d₀ f' d'
    row_turn drawn A = record { going = going_next G.going (rule (span l e) ∷ []) (map rule (beyond n s l e)) (ap (map rule) (row-next n s l p q)) (one-drawn drawn) A }

-- all rows on the way, from line l on
pub record GoingRows (n : ℕ) (s : List Interval) (rule : Interval → Rectangle) (l : ℕ) (f₀ : List ℕ) (d₀ : Flashed) (f : List ℕ) (d : Flashed) : Type 0 where
  pub going : Going (map rule s) (map rule (rows_from n s l)) f₀ d₀ f d

pub rows_begun : (n : ℕ) (s : List Interval) (rule : Interval → Rectangle) {f : List ℕ} {d : Flashed} → Listed n s → Ready (map rule s) d f → GoingRows n s rule 0 f d f d
rows_begun n s rule {f} {d} listed r = record { going = subst (λ z. Going (map rule s) z f d f d) (ap (map rule) (rows_start n s listed)) (going_start r) }

module _ {n : ℕ} {s : List Interval} {rule : Interval → Rectangle} {l : ℕ} {f₀ f : List ℕ} {d₀ d : Flashed} (G : GoingRows n s rule l f₀ d₀ f d) where
  pub rows_over : n ≤ l → Added (map rule s) f₀ d₀ d f
  rows_over u = going_over G.going (ap (map rule) (rows-over n s l u))

  module _ (u : l < n) where
    pub rows_ready : Ready (map rule (from_line n s l)) d f
    rows_ready = going_ready G.going (map rule (from_line n s l)) (map rule (rows_from n s (l + 1))) (flashes-next n s rule l u)

    pub rows_turn : ((i : Interval) → member i s ≡ true → Drawn (rule i)) → {f' : List ℕ} {d' : Flashed} → Added (map rule (from_line n s l)) f d d' f'
        → GoingRows n s rule (l + 1) f₀ d₀ f' d'
    rows_turn drawn A = record {
      going = going_next G.going (map rule (from_line n s l)) (map rule (rows_from n s (l + 1))) (flashes-next n s rule l u) (row-drawn n s rule drawn l) A;
    }
