-- `printed` tried by evaluation: document 01's plus prints its five lines; the cup at allowance 1 and the ring print their refusals.
-- The outcomes and records are those of document 01's areas.
use mathlib.Core.Path.{◌≡◌, refl}
use mathlib.Core.List.{List, [], ◌∷◌, ◌++◌}
use Prim.Native.Nat.{ℕ}
use Rattle.cover.specs.declared.entry.Outcome.{Outcome}
use Rattle.text.specs.Decimal.{digits, decimal}
use Rattle.text.specs.Line.{line, record_lines}
use Rattle.printed.specs.Printed.{printed}

-- answer, place, flash count, mark count, copper number, flashed area
abbrev outcome : ℕ → ℕ → ℕ → ℕ → ℕ → ℕ → ℕ → Outcome
outcome n x y f m k a = record { answer = n; place_x = x; place_y = y; flashes = f; marks = m; copper = k; flashed = a }

-- "cover 2 5 6", "flash 0 2 1 1", "flash 1 1 0 2", "mark 0 1", "mark 1 0", with a tab for each space
abbrev pub five_lines : List ℕ
five_lines =
    (99 ∷ 111 ∷ 118 ∷ 101 ∷ 114 ∷ 9 ∷ 50 ∷ 9 ∷ 53 ∷ 9 ∷ 54 ∷ 10 ∷ [])
    ++ (102 ∷ 108 ∷ 97 ∷ 115 ∷ 104 ∷ 9 ∷ 48 ∷ 9 ∷ 50 ∷ 9 ∷ 49 ∷ 9 ∷ 49 ∷ 10 ∷ [])
    ++ (102 ∷ 108 ∷ 97 ∷ 115 ∷ 104 ∷ 9 ∷ 49 ∷ 9 ∷ 49 ∷ 9 ∷ 48 ∷ 9 ∷ 50 ∷ 10 ∷ [])
    ++ (109 ∷ 97 ∷ 114 ∷ 107 ∷ 9 ∷ 48 ∷ 9 ∷ 49 ∷ 10 ∷ [])
    ++ (109 ∷ 97 ∷ 114 ∷ 107 ∷ 9 ∷ 49 ∷ 9 ∷ 48 ∷ 10 ∷ [])

-- the rooms hold sevens past their records, which no line shows
pub plus-printed : printed (outcome 0 0 0 2 2 5 6) (0 ∷ 2 ∷ 1 ∷ 1 ∷ 1 ∷ 1 ∷ 0 ∷ 2 ∷ 7 ∷ 7 ∷ 7 ∷ 7 ∷ []) (0 ∷ 1 ∷ 1 ∷ 0 ∷ 7 ∷ 7 ∷ []) ≡ five_lines
unfolding printed line record_lines decimal digits
plus-printed = refl

-- "refused 9 0 0", "mark 0 1", "mark 1 0"
pub short-printed : printed (outcome 9 0 0 0 2 0 0) (7 ∷ 7 ∷ 7 ∷ 7 ∷ []) (0 ∷ 1 ∷ 1 ∷ 0 ∷ 7 ∷ 7 ∷ [])
    ≡ (114 ∷ 101 ∷ 102 ∷ 117 ∷ 115 ∷ 101 ∷ 100 ∷ 9 ∷ 57 ∷ 9 ∷ 48 ∷ 9 ∷ 48 ∷ 10 ∷ [])
    ++ (109 ∷ 97 ∷ 114 ∷ 107 ∷ 9 ∷ 48 ∷ 9 ∷ 49 ∷ 10 ∷ [])
    ++ (109 ∷ 97 ∷ 114 ∷ 107 ∷ 9 ∷ 49 ∷ 9 ∷ 48 ∷ 10 ∷ [])
unfolding printed line record_lines decimal digits
short-printed = refl

-- "refused 8 1 1"
pub broken_printed : printed (outcome 8 1 1 0 0 0 0) (7 ∷ 7 ∷ 7 ∷ 7 ∷ []) (7 ∷ 7 ∷ [])
    ≡ 114 ∷ 101 ∷ 102 ∷ 117 ∷ 115 ∷ 101 ∷ 100 ∷ 9 ∷ 56 ∷ 9 ∷ 49 ∷ 9 ∷ 49 ∷ 10 ∷ []
unfolding printed line record_lines decimal digits
broken_printed = refl
