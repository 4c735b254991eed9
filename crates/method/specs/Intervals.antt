-- Intervals and sets of them (document 01, 'From copper to spans').
-- A set over the lines 0 to n is the list of its intervals in order, by left line and then by right line, each once: equal sets are equal lists.
use Rattle.std.specs.Prelude.{Bool, ◌&&◌, List, map, ℕ, suc, ◌-◌, min, max, leb, ltb, eqb}
use Rattle.lists.specs.Lists.{keep, any, gather, from, up_to}

-- "An interval (L, R) runs from line L to line R, L < R, and holds columns L to R - 1."
pub record Interval : Type 0 where
  pub left : ℕ
  pub right : ℕ

abbrev pub span : ℕ → ℕ → Interval
span l r = record { left = l; right = r }

-- the interval is one: L < R
abbrev pub proper : Interval → Bool
proper i = ltb i.left i.right

-- column c is one of the interval's
abbrev pub holds : ℕ → Interval → Bool
holds c i = leb i.left c && ltb c i.right

-- i lies wholly inside d
abbrev pub inside : Interval → Interval → Bool
inside d i = leb d.left i.left && leb i.right d.right

abbrev pub same : Interval → Interval → Bool
same i j = eqb i.left j.left && eqb i.right j.right

-- "the meet of two intervals is the interval from the greater left line to the lesser right line, if that is not empty"
abbrev pub meet : Interval → Interval → Interval
meet i j = span (max i.left j.left) (min i.right j.right)

-- the columns of an interval, L to R - 1
abbrev pub columns : Interval → List ℕ
columns i = from i.left (i.right - i.left)

-- the intervals of the lines 0 to n that begin at line l, by right line
abbrev pub beginning_at : ℕ → ℕ → List Interval
beginning_at n l = map (λ r. span l r) (from (suc l) (n - l))

-- every interval over the lines 0 to n, by left line, then by right line
abbrev pub every : ℕ → List Interval
every n = gather (beginning_at n) (up_to n)

-- the set of all intervals over the lines 0 to n that pass a test
abbrev pub select : ℕ → (Interval → Bool) → List Interval
select n p = keep p (every n)

abbrev pub member : Interval → List Interval → Bool
member i s = any (same i) s
