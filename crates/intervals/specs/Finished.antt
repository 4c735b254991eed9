-- What a final set leaves, whichever way its brackets are searched for: the table of rule 5's final set, and the brackets that rule 5 reduces, in order.
use Rattle.std.specs.Prelude.{◌≡◌, List, [], ◌∷◌, map, ℕ, ◌*◌, ◌≤◌, length, get_or}
use Rattle.lists.specs.Lists.{gather, up_to}
use Rattle.method.specs.Intervals.{Interval as Span, span}
use Rattle.method.specs.Final.{final, trace}
use Rattle.grid.specs.Limits.{bracket_record}
use Rattle.grid.specs.Rooms.{written, record_in}
use Rattle.intervals.specs.Table.{table_of}

-- a bracket's record: left line, right line; and the bracket that a record says
abbrev pub bracket_bytes : Span → List ℕ
bracket_bytes d = d.left ∷ d.right ∷ []

abbrev pub bracket_of : List ℕ → Span
bracket_of r = span (get_or r 0 0) (get_or r 1 0)

-- the first n brackets of a room
unfoldable pub brackets_in : ℕ → List ℕ → List Span
brackets_in n room = map (λ k. bracket_of (record_in bracket_record room k)) (up_to n)

-- a room with a record for each interval of the set: each reduction takes one away
abbrev pub Roomy : List Span → List ℕ → Type 0
Roomy s room = length s * bracket_record ≤ length room

pub record Finished (n : ℕ) (s : List Span) (room : List ℕ) (reductions : ℕ) (after room_after : List ℕ) : Type 0 where
  pub set : after ≡ table_of (final n s)
  pub counted : reductions ≡ length (trace n s)
  pub noted : room_after ≡ written room 0 (gather bracket_bytes (trace n s))
