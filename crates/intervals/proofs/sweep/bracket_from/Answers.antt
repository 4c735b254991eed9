-- `bracket_from` meets its contract: no dependent bracket ends before line `right`, and none that ends there begins at line l or after.
-- What a sweep finds is rule 5's bracket; a sweep that finds nothing lets the right line go on to the next at which one may end.
use Rattle.std.proofs.Common.{arith}
use mathlib.Core.Path.{◌≡◌, refl, sym, ap, ◌∙◌, subst}
use mathlib.Core.List.{List}
use mathlib.Core.Option.{some, map}
use Prim.Native.Nat.{ℕ, ◌+◌, ◌-◌, ◌≤◌, ◌<◌}
use Rattle.lists.specs.Lists.{first, from, down}
use Rattle.lists.proofs.Searches.{down-here}
use Rattle.method.specs.Intervals.{Interval as Span, span}
use Rattle.method.specs.Dependent.{dependent}
use Rattle.method.specs.Final.{leftmost}
use Rattle.method.specs.Runs.{Listed}
use Rattle.method.proofs.Minimal.{dependent-within}
use Rattle.method.proofs.Search.{ended-leftmost}
use Rattle.std.specs.Prelude.{Option as Found, None}
use Rattle.intervals.specs.declared.sweep.Held.{Held}
use Rattle.intervals.specs.Table.{found_of}
use Rattle.intervals.specs.Spans.{spans}
use Rattle.intervals.specs.Search.{NoneBefore}
use Rattle.intervals.specs.Sweep.{Told, EndsAmong, shortest}
use Rattle.intervals.specs.declared.Table.{Table}
use Rattle.grid.specs.Code.{or_end}
use Rattle.words.specs.Words.{bits, on}
use Rattle.intervals.proofs.TableLaws.{right_lines, set-listed}
use Rattle.intervals.proofs.SweepSteps.{lowest, swept_start}
use Rattle.intervals.proofs.SweepSearch.{swept_leftmost, swept_on}
use Rattle.intervals.proofs.DoubledLines.{next-beyond, none_between}
use Rattle.intervals.proofs.sweep.bracket_from.Invariants.{Turn}
use Rattle.intervals.proofs.sweep.bracket_from.Goals as goal

module _ (n : ℕ) {s : List Span} (listed : Listed n s) (b : ℕ) where
  turn-start : Turn s b b (lowest b b)
  turn-start = record { low = omega arith; swept = swept_start n listed b; left = refl }

  module _ {l : ℕ} {h : Held} (T : Turn s b l h) where
    -- what the step to the line before tells
    module _ (z : 0 < l) (r : Found Held) (told : Told s (l - 1) b r) where
      turn-found : NoneBefore s b → r ≡ None → leftmost n s ≡ some (span (l - 1) b)
      unfolding shortest
      turn-found before e =
          let hit = subst (Told s (l - 1) b) e told in
          swept_leftmost s n b before (omega (arith, T.low)) (dependent-within n s (span (l - 1) b) listed hit)
          (ap (map (λ k. span k b)) (T.left ∙ down-here (λ k. dependent s (span k b)) l z hit))

    -- down at line 0 without one
    turn-over : NoneBefore s b → l ≤ 0 → NoneBefore s (b + 1)
    unfolding shortest
    turn-over before z =
        let e : l ≡ 0 = omega arith in
        swept_on s n b before (ap (map (λ k. span k b)) (T.left ∙ ap (λ y. first (λ k. dependent s (span k b)) (down y)) e))

  -- past the last line no bracket is left
  none_left : n ≤ b → NoneBefore s (b + 1) → None ≡ found_of (leftmost n s)
  none_left h before =
      ap found_of (sym (ended-leftmost n s (λ d t. omega (arith, before d t, dependent-within n s d listed t))))

-- no bracket ends up to the next line at which one may
module _ (t : Table) (doubled b k l : ℕ) {h : Held} (T : Turn (spans t) b l h) (before : NoneBefore (spans t) b) (among : EndsAmong doubled (spans t))
    (found : k ≡ or_end bits (first (on doubled) (from b (bits - b)))) where
  over : l ≤ 0 → NoneBefore (spans t) (k + 1)
  over z = none_between doubled b k found (spans t) among (turn-over t.last.0 (set-listed t.last.0 t.rows) b T before z)

  nearer : k < t.last.0 → b ≤ k
  nearer h = let fits = t.tabled.fits in next-beyond doubled b k found (omega (arith, right_lines))

pub loop-l-init : goal.loop-l-init
loop-l-init c = let t = c.args.t.now in
    turn-start t.last.0 (set-listed t.last.0 t.rows) c.search.right

pub returns-in_default : goal.returns-in_default
returns-in_default c = let t = c.args.t.now in
    ap found_of
    (sym
    (turn-found t.last.0 (set-listed t.last.0 t.rows) c.search.right c.loop-l.invariant c.loop-l-test.true c.stepped.result c.stepped.ensures
    c.search.invariant c.in_default.is))

pub search-smaller : goal.search-smaller
search-smaller c = let a = c.args in
    let k = c.next_on-bit.result in
    omega (
      arith,
      nearer a.t.now a.doubled c.search.right k c.loop-l.l c.loop-l.invariant c.search.invariant c.requires.ends_among c.next_on-bit.ensures (omega arith),
    )

pub search-preserved : goal.search-preserved
search-preserved c = let a = c.args in
    over a.t.now a.doubled c.search.right c.next_on-bit.result c.loop-l.l c.loop-l.invariant c.search.invariant c.requires.ends_among c.next_on-bit.ensures
    (omega arith)

pub returns-then-t-bit : goal.returns-then-t-bit
returns-then-t-bit c = let a = c.args in
    let t = a.t.now in
    none_left t.last.0 (set-listed t.last.0 t.rows) c.next_on-bit.result c.if-t-bit.true
    (over t a.doubled c.search.right c.next_on-bit.result c.loop-l.l c.loop-l.invariant c.search.invariant c.requires.ends_among c.next_on-bit.ensures
    (omega arith))
