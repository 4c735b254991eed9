-- The final set: listed, within the set and making it up, the same over more lines, and unfolded step by step.
-- Each is an induction along its run.
use mathlib.Core.Path.{◌≡◌, sym, ap, subst, ◌∙◌}
use mathlib.Core.Bool.{true, not, ◌&&◌, ◌||◌}
use mathlib.Core.List.{List}
use mathlib.Core.Option.{none, some}
use Prim.Native.Nat.{ℕ, ◌+◌, ◌-◌, ◌≤◌}
use native.Mathlib.Omega.{arith}
use lib.ListN.{length}
use Rattle.lists.specs.Lists.{first, gather, from}
use Rattle.lists.proofs.Truth.{ocase}
use Rattle.lists.proofs.Members.{first-append-some}
use Rattle.lists.proofs.Ranges.{from-append, gather_append}
use Rattle.method.specs.Intervals.{Interval, holds, inside, member}
use Rattle.method.specs.Dependent.{minimal}
use Rattle.method.specs.Reduce.{outermost, meets, reduce}
use Rattle.method.specs.Final.{ending_at, by_right, leftmost, reduced, final}
use Rattle.method.specs.Runs.{Listed, Run, stay, step, Ended}
use Rattle.method.proofs.Facts.{reduce-listed, reduce_generates, reduce-within}
use Rattle.method.proofs.Lines.{inside-lines, inside-inside, inside_self}
use Rattle.method.proofs.Listed.{listed-lines, select-wider, listed-wider}
use Rattle.method.proofs.Search.{leftmost-minimal, leftmost-ended, ended-leftmost}
use Rattle.method.proofs.AnyOrder.{run-listed, reduces_run, reduced-done, traced_reduces, reduced-ended, final-run, final-ended, any_order}

-- along any run: what is left lies inside the set, and makes it up column by column
pub run-within : {n k : ℕ} {s t : List Interval} → Run n s k t → (i : Interval) → member i t ≡ true → (j : Interval) × (member j s ≡ true) × (inside j i ≡ true)
run-within stay i m = (i, m, inside_self i)
run-within {n} (step {s} d least r) i m =
    let a = run-within r i m in
    let b = reduce-within n s d a.0 a.1 in
    (b.0, b.1, inside-inside b.0 a.0 i b.2 a.2)

pub run_generates : {n k : ℕ} {s t : List Interval} → Listed n s → Run n s k t → (i : Interval) (c : ℕ) → member i s ≡ true → holds c i ≡ true
    → (j : Interval) × (member j t ≡ true) × (holds c j ≡ true) × (inside i j ≡ true)
run_generates listed stay i c m h = (i, m, h, inside_self i)
run_generates {n} listed (step {s} d least r) i c m h =
    let a = reduce_generates n s d listed least i c m h in
    let b = run_generates (reduce-listed n s d) r a.0 c a.1 a.2 in
    (b.0, b.1, b.2, inside-inside i a.0 b.0 a.3 b.3)

-- nothing is left to do
pub final-done : (n : ℕ) (s : List Interval) → leftmost n s ≡ none → final n s ≡ s
unfolding final
final-done n s e = reduced-done n (length s) s e

pub ended-final : (n : ℕ) (s : List Interval) → Ended s → final n s ≡ s
ended-final n s h = final-done n s (ended-leftmost n s h)

module _ (n : ℕ) (s : List Interval) (listed : Listed n s) where
  pub final-listed : Listed n (final n s)
  final-listed = run-listed listed (final-run n s)

  -- every interval of the final set lies inside one of the set
  pub final-within : (i : Interval) → member i (final n s) ≡ true → (j : Interval) × (member j s ≡ true) × (inside j i ≡ true)
  final-within = run-within (final-run n s)

  -- each interval of the set is made up, column by column, of intervals of the final set that lie inside it
  pub final_generates : (i : Interval) (c : ℕ) → member i s ≡ true → holds c i ≡ true
      → (j : Interval) × (member j (final n s) ≡ true) × (holds c j ≡ true) × (inside i j ≡ true)
  final_generates = run_generates listed (final-run n s)

  -- any minimal bracket may be reduced first
  pub final-reduce : (d : Interval) → minimal s d ≡ true → final n s ≡ final n (reduce n s d)
  final-reduce d t =
      let l = reduce-listed n s d in
      sym (any_order n s listed (step d t (final-run n (reduce n s d))) (final-ended n (reduce n s d) l)).0

  -- and rule 5's is one
  pub final-step : {d : Interval} → leftmost n s ≡ some d → final n s ≡ final n (reduce n s d)
  final-step {d} e = final-reduce d (leftmost-minimal n s e).0

  -- more steps than intervals change nothing
  pub reduced-final : (k : ℕ) → length s ≤ k → reduced n k s ≡ final n s
  reduced-final k h = (any_order n s listed (reduces_run (traced_reduces n k s)) (reduced-ended n k s listed h)).0

-- over more lines nothing changes
module _ (n m : ℕ) (s : List Interval) (more : n ≤ m) (listed : Listed n s) where
  pub reduce-wider : (d : Interval) → reduce n s d ≡ reduce m s d
  unfolding reduce
  reduce-wider d =
      sym
      (select-wider n m (λ i. (member i s && not (member i (outermost s d))) || member i (meets (outermost s d))) more
      (λ i t.
      let r = reduce-within m s d i t in
      let a = inside-lines r.0 i r.2 in
      let b = listed-lines n s listed r.0 r.1 in
      omega arith))

  pub leftmost-wider : leftmost n s ≡ leftmost m s
  unfolding leftmost
  leftmost-wider =
      ocase (leftmost n s)
      (λ e. e ∙ sym (ended-leftmost m s (leftmost-ended n s listed e)))
      (λ d e.
      let q : m ≡ n + (m - n) = omega arith in
      e
      ∙ sym
      (ap (first (minimal s)) (ap (λ (k : ℕ). by_right k) q ∙ ap (gather ending_at) (from-append 1 n (m - n)) ∙ gather_append ending_at (from 1 n) (from (1 + n) (m - n)))
      ∙ first-append-some (minimal s) (by_right n) (gather ending_at (from (1 + n) (m - n))) e))

pub run_wider : {n k : ℕ} {s t : List Interval} (m : ℕ) → n ≤ m → Listed n s → Run n s k t → Run m s k t
run_wider m more listed stay = stay
run_wider {n} m more listed (step {s} {t} {k} d least r) =
    step d least (subst (λ x. Run m x k t) (reduce-wider n m s more listed d) (run_wider m more (reduce-listed n s d) r))

-- the final set over n lines is that over any greater number
pub final-wider : (n m : ℕ) (s : List Interval) → n ≤ m → Listed n s → final n s ≡ final m s
final-wider n m s more listed =
    (any_order m s (listed-wider n m s more listed) (run_wider m more listed (final-run n s)) (final-ended n s listed)).0
