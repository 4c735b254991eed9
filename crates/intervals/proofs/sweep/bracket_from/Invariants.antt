-- `bracket_from` meets its contract: no dependent bracket ends before line `right`, and none that ends there begins at line l or after.
-- What a sweep finds is rule 5's bracket; a sweep that finds nothing lets the right line go on to the next at which one may end.
use mathlib.Core.Path.{◌≡◌}
use mathlib.Core.List.{List}
use Prim.Native.Nat.{ℕ, ◌-◌, ◌≤◌}
use Rattle.lists.specs.Lists.{first, down}
use Rattle.method.specs.Intervals.{Interval as Span, span}
use Rattle.method.specs.Dependent.{dependent}
use Rattle.intervals.specs.declared.sweep.Held.{Held}
use Rattle.intervals.specs.Spans.{spans}
use Rattle.intervals.specs.Search.{NoneBefore}
use Rattle.intervals.specs.Sweep.{Swept}
use Rattle.intervals.proofs.sweep.bracket_from.Given as goal

-- the sweep for line b has come down to line l
pub record Turn (s : List Span) (b l : ℕ) (h : Held) : Type 0 where
  pub low : l ≤ b
  pub swept : Swept s l b h
  pub left : first (λ k. dependent s (span k b)) (down b) ≡ first (λ k. dependent s (span k b)) (down l)

abbrev pub invariant-loop-l : goal.invariant-loop-l
invariant-loop-l l = Turn (spans l.t) l.right l.l l.held

abbrev pub invariant-search : goal.invariant-search
invariant-search l = NoneBefore (spans l.t) l.right

abbrev pub decreases-search : goal.decreases-search
decreases-search l = l.t.last.0 - l.right
