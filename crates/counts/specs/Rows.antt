-- Serves the code's passes over a set alone: its intervals row by row.
use Rattle.std.specs.Prelude.{◌≡◌, true, List, map, ℕ, ◌+◌, ◌-◌, ◌≤◌, ◌<◌}
use Rattle.lists.specs.Lists.{keep, from}
use Rattle.method.specs.Intervals.{Interval as Span, span, holds, member}

-- the intervals of s from line l that end beyond line p and not beyond line n, by right line
unfoldable pub row_beyond : ℕ → List Span → ℕ → ℕ → List Span
row_beyond n s l p = map (λ r. span l r) (keep (λ r. member (span l r) s) (from (p + 1) (n - p)))

-- a column c before line n, and a line l up to its left edge: no interval of s that holds the column begins before line l
pub record Holding (n : ℕ) (s : List Span) (l c : ℕ) : Type 0 where
  pub early : l ≤ c
  pub below : c < n
  pub none_before : (j : Span) → member j s ≡ true → holds c j ≡ true → l ≤ j.left
