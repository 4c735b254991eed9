-- Serves the engine alone: what its sweep over left lines keeps, and what it finds.
use Rattle.std.specs.Prelude.{◌≡◌, true, false, List, ℕ, ◌+◌, ◌-◌, ◌≤◌, ◌<◌}
use Rattle.std.specs.Prelude.{Option as Found, None, Some}
use Rattle.std.proofs.Math.Option.{Option, map}
use Rattle.lists.specs.Lists.{first, down}
use Rattle.method.specs.Intervals.{Interval as Span, span}
use Rattle.method.specs.Dependent.{covered_inside, dependent}
use Rattle.words.specs.Words.{on}
use Rattle.intervals.specs.declared.sweep.Held.{Held}

-- p is the least line from which every column up to line b is held at least k times by intervals of s inside (l, b):
-- the column before line p is not
pub record LeastHeld (s : List Span) (k l b p : ℕ) : Type 0 where
  pub upto : p ≤ b
  pub held : (c : ℕ) → p ≤ c → c < b → k ≤ covered_inside s (span l b) c
  pub least : (c : ℕ) → c + 1 ≡ p → covered_inside s (span l b) c < k

-- what the sweep for line b keeps when it has come down to line l
pub record Swept (s : List Span) (l b : ℕ) (h : Held) : Type 0 where
  pub twice : LeastHeld s 2 l b h.twice.0
  pub once : LeastHeld s 1 l b h.once.0

-- what a step to line l tells: the bracket (l, b) is dependent, or it is not and the sweep goes on
abbrev pub Told : List Span → ℕ → ℕ → Found Held → Type 0
Told s l b None = dependent s (span l b) ≡ true
Told s l b (Some h) = (dependent s (span l b) ≡ false) × Swept s l b h

-- the shortest dependent bracket that ends at line b: the one with the greatest left line
unfoldable pub shortest : List Span → ℕ → Option Span
shortest s b = map (λ l. span l b) (first (λ l. dependent s (span l b)) (down b))

-- every dependent bracket of s ends at one of the lines, which a word has as bits: bit r - 1 for line r
abbrev pub EndsAmong : ℕ → List Span → Type 0
EndsAmong lines s = (d : Span) → dependent s d ≡ true → on lines (d.right - 1) ≡ true
