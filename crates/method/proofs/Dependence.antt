-- Rules 2 and 3 as they run, on a listed set, say what the theory's Dep and Minimal say by counts of boxes.
-- The counts are those of Counts; no bracket but the bracket itself is then both inside it and dependent.
use mathlib.Core.Path.{◌≡◌, ap}
use mathlib.Core.Bool.{true}
use mathlib.Core.List.{List}
use Prim.Native.Nat.{ℕ}
use native.Mathlib.Omega.{arith}
use Rattle.method.specs.Intervals.{Interval, span}
use Rattle.method.specs.Dependent.{dependent, minimal}
use Rattle.method.specs.Runs.{Listed}
use Rattle.method.proofs.Sets.{has, Dep, Minimal}
use Rattle.method.proofs.Lines.{holds-lines, lines_hold, inside-lines, lines-inside, interval_path}
use Rattle.method.proofs.Minimal.{dependent-proper, dependent-twice, dependent_if, minimal-dependent, minimal_smallest, minimal_if}
use Rattle.method.proofs.Counts.{covered-box}

module _ (n : ℕ) (s : List Interval) (listed : Listed n s) (d : Interval) where
  pub dependent_by_counts : dependent s d ≡ true → Dep (has s) d.left d.right
  dependent_by_counts t =
      record {
        proper = dependent-proper s d t;
        twice = λ x u v. omega (arith, dependent-twice s d t x (lines_hold x d u v), covered-box n s listed d.left d.right x);
      }

  pub dependent_by_test : Dep (has s) d.left d.right → dependent s d ≡ true
  dependent_by_test D =
      dependent_if s d D.proper
      (λ c h. let b = holds-lines c d h in omega (arith, D.twice c b.0 b.1, covered-box n s listed d.left d.right c))

module _ (n : ℕ) (s : List Interval) (listed : Listed n s) (d : Interval) where
  pub minimal_by_counts : minimal s d ≡ true → Minimal (has s) d.left d.right
  minimal_by_counts t =
      record {
        dep = dependent_by_counts n s listed d (minimal-dependent s d t);
        smallest = λ a b u v D.
            let q = minimal_smallest s d t (span a b) (lines-inside d (span a b) u v) (dependent_by_test n s listed (span a b) D) in
            (ap (λ i. i.left) q, ap (λ i. i.right) q);
      }

  pub minimal_by_test : Minimal (has s) d.left d.right → minimal s d ≡ true
  minimal_by_test M =
      minimal_if s d (dependent_by_test n s listed d M.dep)
      (λ e i t.
      let b = inside-lines d e i in
      let q = M.smallest e.left e.right b.0 b.1 (dependent_by_counts n s listed e t) in
      interval_path e d q.0 q.1)
