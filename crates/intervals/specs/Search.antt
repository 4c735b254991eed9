-- Where a bracket search may begin: what `bracket_from` asks of its caller.
use Rattle.std.specs.Prelude.{◌≡◌, true, List, ℕ, ◌≤◌}
use Rattle.method.specs.Intervals.{Interval as Span}
use Rattle.method.specs.Dependent.{dependent}

-- no dependent bracket of s ends before line r
abbrev pub NoneBefore : List Span → ℕ → Type 0
NoneBefore s r = (d : Span) → dependent s d ≡ true → r ≤ d.right
