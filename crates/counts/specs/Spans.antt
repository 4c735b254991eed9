-- Serves the code's lists alone: intervals in a room, a record of two bytes each.
use Rattle.std.specs.Prelude.{◌≡◌, List, map, ℕ, ◌+◌, ◌-◌, ◌*◌, length, get_or}
use Rattle.lists.specs.Lists.{from}
use Rattle.method.specs.Intervals.{Interval as Span, span}
use Rattle.grid.specs.Limits.{bracket_record}

-- the k-th interval: left line, right line
abbrev pub span_in : List ℕ → ℕ → Span
span_in room k = span (get_or room (k * bracket_record) 0) (get_or room (k * bracket_record + 1) 0)

-- those from the k-th on, up to the n-th and without it
unfoldable pub spans_in : List ℕ → ℕ → ℕ → List Span
spans_in room k n = map (span_in room) (from k (n - k))

-- record j is record k now, and every other one as it was
pub record Moved (room : List ℕ) (k j : ℕ) (room' : List ℕ) : Type 0 where
  pub as_long : length room' ≡ length room
  pub there : span_in room' j ≡ span_in room k
  pub elsewhere : (x : ℕ) → (x ≡ j → ⊥) → span_in room' x ≡ span_in room x
