-- Brackets as bags: any two runs that cannot go on reduce the same brackets equally often, and any minimal bracket may be the first of them.
-- `one_end` carries the brackets along; R-8's promise of a set, and marks from counts alone, stand on this.
use mathlib.Core.Path.{◌≡◌, sym, ap, subst, ◌∙◌}
use mathlib.Core.Bool.{true}
use mathlib.Core.List.{List, ◌∷◌}
use Prim.Native.Nat.{ℕ, suc, ◌+◌}
use native.Mathlib.Omega.{arith}
use native.Mathlib.Nat.{zero-add, suc-add}
use lib.ListN.{length}
use Rattle.lists.proofs.Counting.{length-count}
use Rattle.method.specs.Intervals.{Interval}
use Rattle.method.specs.Dependent.{minimal}
use Rattle.method.specs.Reduce.{reduce}
use Rattle.method.specs.Final.{final, trace}
use Rattle.method.specs.Runs.{Listed, Run, stay, step, Reduces, next, SameBag, Ended, Stuck, AnyOrder}
use Rattle.method.proofs.Minimal.{minimal-inside}
use Rattle.method.proofs.Facts.{reduce-listed}
use Rattle.method.proofs.AnyOrder.{run-listed, run_size, trace_reduces, final-run, final-ended, one_end, any_reduces, any_order}
use Rattle.method.proofs.Trace.{trace-length}

-- a bag has a length
pub bag_length : (ds es : List Interval) → SameBag ds es → length ds ≡ length es
bag_length ds es h = length-count ds ∙ h (λ i. true) ∙ sym (length-count es)

-- any two runs that cannot go on, and in the same number of steps
pub same_bag : {n : ℕ} {s t u ds es : List Interval} → Listed n s → Reduces n s ds t → Ended t → Reduces n s es u → Ended u → SameBag ds es
same_bag {s} listed p et q eu = (one_end (suc (length s)) listed (omega arith) p et q eu).1

module _ (n : ℕ) (s : List Interval) (listed : Listed n s) where
  -- any minimal bracket may be reduced first
  pub bag_reduce : (d : Interval) → minimal s d ≡ true → SameBag (trace n s) (d ∷ trace n (reduce n s d))
  bag_reduce d m c =
      sym ((any_reduces n s listed (next d m (trace_reduces n (reduce n s d))) (final-ended n (reduce n s d) (reduce-listed n s d))).1 c)

-- a set without a minimal bracket has no dependent one
pub stuck_ended : (t : List Interval) → Stuck t → Ended t
stuck_ended t h d u = let r = minimal-inside t d u in h r.0 r.1

pub run-append : {n k j : ℕ} {s t u : List Interval} → Run n s k t → Run n t j u → Run n s (k + j) u
run-append {j} stay q = rw (zero-add j) q
run-append {j} (step {k} d m r) q = rw (suc-add k j) (step d m (run-append r q))

module _ (n : ℕ) (s : List Interval) (listed : Listed n s) where
  -- a run that cannot go on has made as many steps as rule 5
  pub run-trace : {k : ℕ} {t : List Interval} → Run n s k t → Ended t → (t ≡ final n s) × (k ≡ length (trace n s))
  run-trace run ended = let r = any_order n s listed run ended in (r.0, omega (arith, r.1, ap length r.0, trace-length n s listed))

  -- any run goes on as rule 5 does from where it is
  pub run_on : {k : ℕ} {t : List Interval} → Run n s k t → (j : ℕ) × Run n t j (final n s) × (k + j ≡ length (trace n s))
  run_on {t} run =
      let r = run-trace (run-append run (final-run n t)) (final-ended n t (run-listed listed run)) in
      (length (trace n t), subst (Run n t (length (trace n t))) r.0 (final-run n t), r.1)

-- document 02, R-8, of any set
pub any_order_holds : (n : ℕ) (s : List Interval) → Listed n s → AnyOrder n s
any_order_holds n s listed =
    record {
      one_end = λ k t run stuck. run-trace n s listed run (stuck_ended t stuck);
      goes_on = λ k t run. run_on n s listed run;
      short = λ k t run. omega (arith, run_size listed run);
      ended = final-ended n s listed;
    }
