-- Any order (000, section IV): every run that cannot go on ends in the final set, having reduced the same brackets equally often.
-- Two different minimal brackets lead to two sets that meet again after one more step each; each step takes one interval away, so the induction is on the size.
use mathlib.Core.Path.{◌≡◌, refl, sym, ap, subst, ◌∙◌}
use mathlib.Core.Bool.{true, false≢true}
use mathlib.Core.List.{List, [], ◌∷◌}
use Prim.Native.Nat.{ℕ, zero, suc, ◌+◌, ◌≤◌, ◌<◌}
use native.Mathlib.Omega.{arith}
use mathlib.Core.Logic.{by_cases}
use mathlib.Core.Option.{none, some}
use lib.ListN.{length}
use Rattle.lists.proofs.Truth.{ocase}
use Rattle.lists.proofs.Keep.{empty}
use Rattle.method.specs.Intervals.{Interval}
use Rattle.method.specs.Dependent.{dependent}
use Rattle.method.specs.Reduce.{reduce}
use Rattle.method.specs.Final.{leftmost, reduced, final, traced, trace}
use Rattle.method.specs.Runs.{Listed, Run, stay, step, Reduces, over, next, SameBag, Ended}
use Rattle.method.proofs.Sets.{bit}
use Rattle.method.proofs.Facts.{reduce-listed, reduce_size, reduce-keeps, reduce_commute}
use Rattle.method.proofs.Lines.{lines_hold, interval_discrete}
use Rattle.method.proofs.Minimal.{dependent-proper, dependent-held, minimal-dependent, minimal-inside}
use Rattle.method.proofs.Search.{leftmost-minimal, leftmost-ended}

-- every set with a dependent bracket has a step
pub has-step : (n : ℕ) (s : List Interval) (d : Interval) → dependent s d ≡ true → (e : Interval) × Run n s 1 (reduce n s e)
has-step n s d t = let r = minimal-inside s d t in (r.0, step r.0 r.1 stay)

pub run-listed : {n k : ℕ} {s t : List Interval} → Listed n s → Run n s k t → Listed n t
run-listed listed stay = listed
run-listed {n} listed (step {s} d m r) = run-listed (reduce-listed n s d) r

-- each step takes one interval away
pub run_size : {n k : ℕ} {s t : List Interval} → Listed n s → Run n s k t → k + length t ≡ length s
run_size listed stay = omega arith
run_size {n} listed (step {s} d m r) = omega (arith, run_size (reduce-listed n s d) r, reduce_size n s d listed m)

-- a run and its brackets
pub reduces_run : {n : ℕ} {s t ds : List Interval} → Reduces n s ds t → Run n s (length ds) t
reduces_run over = stay
reduces_run (next d m r) = step d m (reduces_run r)

pub run_reduces : {n k : ℕ} {s t : List Interval} → Run n s k t → (ds : List Interval) × Reduces n s ds t × (length ds ≡ k)
run_reduces stay = ([], over, refl)
run_reduces (step d m r) = let q = run_reduces r in (d ∷ q.0, next d m q.1, ap suc q.2)

pub ended-empty : Ended []
ended-empty d t =
    let p = dependent-proper [] d t in
    false≢true (dependent-held [] d t d.left (lines_hold d.left d (omega arith) p)).1

-- one reduction of rule 5's
module _ (n k : ℕ) (s : List Interval) {d : Interval} (e : leftmost n s ≡ some d) where
  pub reduced-step : reduced n (suc k) s ≡ reduced n k (reduce n s d)
  unfolding reduced
  reduced-step = rw (e, reduced)

  pub traced-step : traced n (suc k) s ≡ d ∷ traced n k (reduce n s d)
  unfolding traced
  traced-step = rw (e, traced)

-- and none
pub reduced-done : (n k : ℕ) (s : List Interval) → leftmost n s ≡ none → reduced n k s ≡ s
unfolding reduced
reduced-done n zero s e = refl
reduced-done n (suc k) s e = rw (e, reduced)

pub traced-done : (n k : ℕ) (s : List Interval) → leftmost n s ≡ none → traced n k s ≡ []
unfolding traced
traced-done n zero s e = refl
traced-done n (suc k) s e = rw (e, traced)

-- rule 5's reductions are a run
pub traced_reduces : (n k : ℕ) (s : List Interval) → Reduces n s (traced n k s) (reduced n k s)
unfolding traced reduced
traced_reduces n zero s = over
traced_reduces n (suc k) s =
    ocase (leftmost n s)
    (λ e. rw (reduced-done n (suc k) s e, traced-done n (suc k) s e) over)
    (λ d e. rw (reduced-step n k s e, traced-step n k s e) (next d (leftmost-minimal n s e).0 (traced_reduces n k (reduce n s d))))

-- and with as many as intervals it cannot go on
pub reduced-ended : (n k : ℕ) (s : List Interval) → Listed n s → length s ≤ k → Ended (reduced n k s)
unfolding reduced
reduced-ended n zero s listed h = subst Ended (sym (empty s (omega arith))) ended-empty
reduced-ended n (suc k) s listed h =
    ocase (leftmost n s)
    (λ e. rw (reduced-done n (suc k) s e) (leftmost-ended n s listed e))
    (λ d e.
    let z = reduce_size n s d listed (leftmost-minimal n s e).0 in
    rw (reduced-step n k s e) (reduced-ended n k (reduce n s d) (reduce-listed n s d) (omega arith)))

-- the final set is reached by the brackets of the trace
pub trace_reduces : (n : ℕ) (s : List Interval) → Reduces n s (trace n s) (final n s)
unfolding trace final
trace_reduces n s = traced_reduces n (length s) s

pub final-run : (n : ℕ) (s : List Interval) → Run n s (length (trace n s)) (final n s)
final-run n s = reduces_run (trace_reduces n s)

pub final-ended : (n : ℕ) (s : List Interval) → Listed n s → Ended (final n s)
unfolding final
final-ended n s listed = reduced-ended n (length s) s listed (omega arith)

-- two runs from one set that cannot go on end in one set and have reduced the same brackets
pub one_end : {n : ℕ} {s t u ds es : List Interval} (m : ℕ) → Listed n s → length s < m → Reduces n s ds t → Ended t → Reduces n s es u → Ended u
    → (t ≡ u) × SameBag ds es
one_end zero listed h p et q eu = absurd (omega arith)
one_end (suc m) listed h over et over eu = (refl, λ c. refl)
one_end {s} (suc m) listed h over et (next e b q) eu = absurd (et e (minimal-dependent s e b))
one_end {s} (suc m) listed h (next d a p) et over eu = absurd (eu d (minimal-dependent s d a))
one_end {n} {s} (suc m) listed h (next d a p) et (next {t = u} {ds = es} e b q) eu =
    let za = reduce_size n s d listed a in
    let zb = reduce_size n s e listed b in
    by_cases (interval_discrete d e)
    (λ z.
    let i = one_end {s = reduce n s d} m (reduce-listed n s d) (omega arith) p et (subst (λ x. Reduces n (reduce n s x) es u) (sym z) q) eu in
    (i.0, λ c. omega (arith, i.1 c, ap (λ x. bit (c x)) z)))
    (λ z.
    let v = reduce n (reduce n s d) e in
    let w = trace_reduces n v in
    let f = final-ended n v (reduce-listed n (reduce n s d) e) in
    let i = one_end {s = reduce n s d} m (reduce-listed n s d) (omega arith) p et (next e (reduce-keeps n s d listed a e b z) w) f in
    let j =
    one_end {s = reduce n s e} m (reduce-listed n s e) (omega arith) q eu
    (next d (reduce-keeps n s e listed b d a (λ y. z (sym y))) (subst (λ x. Reduces n x (trace n v) (final n v)) (reduce_commute n s d listed a e b z) w))
    f in
    (i.0 ∙ sym j.0, λ c. omega (arith, i.1 c, j.1 c)))

module _ (n : ℕ) (s : List Interval) (listed : Listed n s) where
  -- every run that cannot go on ends in the final set and reduces the brackets of the trace, each as often
  pub any_reduces : {t ds : List Interval} → Reduces n s ds t → Ended t → (t ≡ final n s) × SameBag ds (trace n s)
  any_reduces run ended = one_end (suc (length s)) listed (omega arith) run ended (trace_reduces n s) (final-ended n s listed)

  -- any order: it ends there after as many steps as there are intervals fewer
  pub any_order : {k : ℕ} {t : List Interval} → Run n s k t → Ended t → (t ≡ final n s) × (k + length t ≡ length s)
  any_order run ended = ((any_reduces (run_reduces run).1 ended).0, run_size listed run)
