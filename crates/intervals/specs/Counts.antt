-- For inner functions only: the intervals that hold a column, by rows.
use Rattle.std.specs.Prelude.{cond, ℕ, ◌+◌, ltb}

-- an interval over the lines 0 to n that holds column c begins before this line
abbrev pub begun_before : ℕ → ℕ → ℕ
begun_before n c = cond (ltb c n) (c + 1) 0
