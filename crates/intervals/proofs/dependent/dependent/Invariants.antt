-- `dependent` meets its contract: the two lines are the greatest of the bracket's rows before line l, and every column before l is held twice.
-- With row l the lines beyond l are the intervals that hold column l: no later row holds it.
use mathlib.Core.List.{List}
use Prim.Native.Nat.{ℕ, ◌≤◌, ◌<◌}
use Rattle.method.specs.Intervals.{Interval as Span, span}
use Rattle.method.specs.Dependent.{covered_inside}
use Rattle.method.proofs.Sets.{has, K}
use Rattle.intervals.specs.declared.dependent.Tops.{Tops}
use Rattle.intervals.specs.Spans.{spans}
use Rattle.intervals.specs.Tops.{Greatest}
use Rattle.intervals.proofs.dependent.dependent.Given as goal

-- t has the two greatest lines of the rows a to l - 1 of the bracket (a, b), and the columns before l are held twice
pub record Turn (s : List Span) (a b l : ℕ) (t : Tops) : Type 0 where
  pub low : a ≤ l
  pub greatest : Greatest a (λ x. K (has s) a l x b) t
  pub twice : (x : ℕ) → a ≤ x → x < l → 2 ≤ covered_inside s (span a b) x

abbrev pub invariant-loop-l : goal.invariant-loop-l
invariant-loop-l l = Turn (spans l.t) l.initial.l l.l-end l.l l.tops
