-- Serves inner functions alone: two lines, the greatest of several, known by how many of these lie beyond any line.
use Rattle.std.specs.Prelude.{◌≡◌, ◌&&◌, List, ℕ, ◌+◌, ◌≤◌, ◌<◌, ltb, leb, eqb}
use Rattle.lists.specs.Lists.{count}
use Rattle.method.specs.Intervals.{Interval as Span}
use Rattle.grid.specs.Lines.{line}
use Rattle.intervals.specs.declared.dependent.Tops.{Tops}

abbrev pub tops : ℕ → ℕ → Tops
tops g m = record { greater = line g; lesser = line m }

-- how many intervals of s from line l end beyond line x and not beyond line b
unfoldable pub ends_beyond : List Span → ℕ → ℕ → ℕ → ℕ
ends_beyond s l b x = count (λ i. eqb i.left l && ltb x i.right && leb i.right b) s

-- t has the two greatest, repeats counted, of lines of which f x lie beyond line x, for lines from a on; a where there is none
pub record Greatest (a : ℕ) (f : ℕ → ℕ) (t : Tops) : Type 0 where
  pub low : a ≤ t.lesser.0
  pub ordered : t.lesser.0 ≤ t.greater.0
  pub one : (x : ℕ) → a ≤ x → x < t.greater.0 → 1 ≤ f x
  pub none : (x : ℕ) → t.greater.0 ≤ x → f x ≡ 0
  pub two : (x : ℕ) → a ≤ x → x < t.lesser.0 → 2 ≤ f x
  pub single : (x : ℕ) → t.lesser.0 ≤ x → f x ≤ 1

-- whatever lines t has the two greatest of, u has those of these and of the right lines up to b of the intervals from line l
abbrev pub WithRow : List Span → ℕ → ℕ → Tops → Tops → Type 0
WithRow s l b t u = (a : ℕ) (f : ℕ → ℕ) → Greatest a f t → Greatest a (λ x. f x + ends_beyond s l b x) u
