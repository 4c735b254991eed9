-- For an inner function only (`furthest`): how far the intervals from one line reach.
use Rattle.std.specs.Prelude.{cond, ◌&&◌, List, ℕ, zero, suc, ltb}
use Rattle.method.specs.Intervals.{Interval as Span, span, member}

-- the greatest line beyond p and not beyond the last at which an interval of s from line l ends; p where none does
unfoldable pub reach : List Span → ℕ → ℕ → ℕ → ℕ
reach s l p zero = p
reach s l p (suc r) = cond (ltb p (suc r) && member (span l (suc r)) s) (suc r) (reach s l p r)
