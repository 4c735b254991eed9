-- `ends_beyond` meets its contract: the ends counted and those that are left are all of them.
use mathlib.Core.Path.{◌≡◌}
use Prim.Native.Nat.{ℕ, ◌+◌}
use Rattle.intervals.specs.Spans.{spans}
use Rattle.intervals.specs.Tops.{ends_beyond}
use Rattle.intervals.proofs.Table.ends_beyond.Given as goal

abbrev pub invariant-loop-next : goal.invariant-loop-next
invariant-loop-next l = let rest : ℕ → ℕ = ends_beyond (spans l.self) l.left.0 l.self.last.0 in
    l.n + rest l.end.0 ≡ rest l.initial.end.0

abbrev pub decreases-loop-next : goal.decreases-loop-next
decreases-loop-next l = ends_beyond (spans l.self) l.left.0 l.self.last.0 l.end.0
