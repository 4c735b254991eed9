-- `bracket_from` meets its contract: before each right line no dependent bracket ends, so the first left line downwards gives a minimal one.
use mathlib.Core.Path.{◌≡◌}
use mathlib.Core.List.{List}
use Prim.Native.Nat.{ℕ, suc, ◌-◌}
use Rattle.method.specs.Intervals.{Interval as Span}
use Rattle.method.proofs.Search.{downward}
use Rattle.intervals.specs.Spans.{spans}
use Rattle.intervals.specs.Search.{NoneBefore}
use Rattle.intervals.proofs.bracket.bracket_from.Given as goal

-- of the left lines before line r those from l on give nothing
abbrev pub Passed : List Span → ℕ → ℕ → Type 0
Passed s r l = downward s r r ≡ downward s r l

abbrev pub invariant-loop-left : goal.invariant-loop-left
invariant-loop-left l = Passed (spans l.t) l.right l.left

abbrev pub invariant-search : goal.invariant-search
invariant-search l = NoneBefore (spans l.t) l.right

abbrev pub decreases-search : goal.decreases-search
decreases-search l = suc l.t.last.0 - l.right
