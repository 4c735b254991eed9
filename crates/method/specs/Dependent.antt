-- Dependent and minimal brackets (rules 2 and 3).
use Rattle.std.specs.Prelude.{Bool, not, ◌&&◌, List, ℕ, leb}
use Rattle.lists.specs.Lists.{all, any, count}
use Rattle.method.specs.Intervals.{Interval, proper, holds, inside, same, columns, every}

-- how many intervals of s lie wholly inside the bracket d and hold column c
unfoldable pub covered_inside : List Interval → Interval → ℕ → ℕ
covered_inside s d c = count (λ i. inside d i && holds c i) s

-- "dependent in a set if each of its columns lies in at least two of the set's intervals that lie wholly inside the bracket"
unfoldable pub dependent : List Interval → Interval → Bool
dependent s d = proper d && all (λ c. leb 2 (covered_inside s d c)) (columns d)

-- "minimal if no smaller bracket inside it is dependent"
unfoldable pub minimal : List Interval → Interval → Bool
minimal s d = dependent s d && not (any (λ e. inside d e && not (same d e) && dependent s e) (every d.right))
