-- A column is the one at a line's right or left: a line that is its left edge, or its right edge, gives it.
-- By arithmetic on the one number that each holds; `columns` and the theorem that contracts determine their outcome use it.
use mathlib.Core.Path.{◌≡◌, ap}
use Prim.Native.Nat.{ℕ, ◌-◌}
use native.Mathlib.Omega.{arith}
use Rattle.grid.specs.Lines.{column, left_line, right_line}
use Rattle.grid.specs.declared.lines.Column.{Column}
use Rattle.grid.specs.declared.lines.Line.{Line}

abbrev pub number : Line → ℕ
number l = l.0

pub of_left : (c : Column) (l : Line) → left_line c ≡ l → c ≡ column l.0
of_left c l e = ap column (ap number e)

pub of_right : (c : Column) (l : Line) → right_line c ≡ l → c ≡ column (l.0 - 1)
of_right c l e = let m : c.0 ≡ l.0 - 1 = omega (arith, ap number e) in ap column m
