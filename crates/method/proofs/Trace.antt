-- The trace, the brackets that rule 5 reduces: unfolded step by step, its length, its lines, and its counts.
-- Each reduction takes one interval away, and one from the count of each column of its bracket; so lengths and counts follow along any run.
use mathlib.Core.Path.{◌≡◌, refl, sym, ap, subst, ◌∙◌}
use mathlib.Core.List.Memᴰ
use mathlib.Core.List.{List, [], ◌∷◌}
use mathlib.Core.Logic.{⊎_elim}
use mathlib.Core.Option.{none, some}
use Prim.Native.Nat.{ℕ, zero, suc, ◌+◌, ◌≤◌, ◌<◌}
use native.Mathlib.Omega.{arith}
use lib.ListN.{length}
use Rattle.lists.specs.Lists.{count}
use Rattle.lists.proofs.Truth.{ocase}
use Rattle.lists.proofs.Members.{In}
use Rattle.method.specs.Intervals.{Interval, holds}
use Rattle.method.specs.Reduce.{reduce}
use Rattle.method.specs.Final.{leftmost, final, traced, trace}
use Rattle.method.specs.Runs.{Listed, Reduces, over, next, Ended}
use Rattle.method.proofs.Minimal.{dependent-proper, dependent-within, minimal-dependent}
use Rattle.method.proofs.Facts.{reduce-listed, reduce_size, reduce-count}
use Rattle.method.proofs.Search.{leftmost-minimal, ended-leftmost}
use Rattle.method.proofs.AnyOrder.{run_size, traced-step, traced-done, trace_reduces, final-run}

-- no bracket, or rule 5's first
pub trace-done : (n : ℕ) (s : List Interval) → leftmost n s ≡ none → trace n s ≡ []
unfolding trace
trace-done n s e = traced-done n (length s) s e

pub ended-trace : (n : ℕ) (s : List Interval) → Ended s → trace n s ≡ []
ended-trace n s h = trace-done n s (ended-leftmost n s h)

module _ (n : ℕ) (s : List Interval) (listed : Listed n s) where
  pub trace-step : {d : Interval} → leftmost n s ≡ some d → trace n s ≡ d ∷ trace n (reduce n s d)
  unfolding trace
  trace-step {d} e =
      ap (λ (k : ℕ). traced n k s) (sym (reduce_size n s d listed (leftmost-minimal n s e).0)) ∙ traced-step n (length (reduce n s d)) s e

  pub trace-length : length (trace n s) + length (final n s) ≡ length s
  trace-length = run_size listed (final-run n s)

-- more steps than intervals change nothing
pub traced-trace : (n k : ℕ) (s : List Interval) → Listed n s → length s ≤ k → traced n k s ≡ trace n s
unfolding traced trace
traced-trace n zero [] listed h = refl
traced-trace n zero (i ∷ s) listed h = absurd (omega arith)
traced-trace n (suc k) s listed h =
    ocase (leftmost n s)
    (λ e. traced-done n (suc k) s e ∙ sym (trace-done n s e))
    (λ d e.
    let z = reduce_size n s d listed (leftmost-minimal n s e).0 in
    traced-step n k s e ∙ ap (d ∷◌) (traced-trace n k (reduce n s d) (reduce-listed n s d) (omega arith)) ∙ sym (trace-step n s listed e))

-- the brackets of a run run between the set's lines
pub reduces_lines : {n : ℕ} {s t ds : List Interval} → Listed n s → Reduces n s ds t → {e : Interval} → In e ds → (e.left < e.right) × (e.right ≤ n)
reduces_lines listed over k = absurd (Memᴰ.not-nil k)
reduces_lines {n} listed (next {s} d m r) {e} k =
    ⊎_elim
    (λ q.
    let u = minimal-dependent s d m in
    subst (λ (i : Interval). (i.left < i.right) × (i.right ≤ n)) (sym q) (dependent-proper s d u, dependent-within n s d listed u))
    (reduces_lines (reduce-listed n s d) r)
    (Memᴰ.cases_cons k)

-- a column has lost as many intervals as brackets hold it
pub reduces_count : {n : ℕ} {s t ds : List Interval} → Listed n s → Reduces n s ds t → (x : ℕ) → count (holds x) t + count (holds x) ds ≡ count (holds x) s
reduces_count listed over x = omega arith
reduces_count {n} listed (next {s} d m r) x = omega (arith, reduces_count (reduce-listed n s d) r x, reduce-count n s d listed m x)

module _ (n : ℕ) (s : List Interval) (listed : Listed n s) where
  pub trace-lines : {e : Interval} → In e (trace n s) → (e.left < e.right) × (e.right ≤ n)
  trace-lines = reduces_lines listed (trace_reduces n s)

  -- the count of a column in the final set is its count in the set, less the brackets that hold it
  pub trace-count : (x : ℕ) → count (holds x) (final n s) + count (holds x) (trace n s) ≡ count (holds x) s
  trace-count = reduces_count listed (trace_reduces n s)
