-- The lines of the rows, one after the other: one turn of judging them, and one turn of copying their squares.
-- Each opens the definition at the next row, once; the loops' proofs cite nothing else.
use Rattle.std.proofs.Common.{Err, None, Ok, Option, Result, Some}
use Rattle.grid.specs.declared.answers.Refusal.TheVariants.{BadLine}
use Rattle.grid.specs.declared.answers.Refusal.{Refusal}
use mathlib.Core.Path.{◌≡◌, refl, sym, ap, ◌∙◌}
use mathlib.Core.Bool.{Bool, true, false, cond}
use mathlib.Core.List.{List, map}
use Prim.Native.Nat.{ℕ, zero, suc, ◌+◌, ◌-◌, ◌*◌, ◌≤◌, ◌<◌}
use native.Mathlib.Omega.{arith}
use native.Mathlib.Nat.{zero-mul, suc-mul}
use lib.Dec.{eqb}
use lib.ListN.{length, take, drop, length-append}
use borrow.Author.Tests.{eq-eqb}
use Rattle.text.specs.Words.{square}
use Rattle.grid.specs.Rooms.{written}
use Rattle.grid.proofs.Writing.{written_none, written-first}
use Rattle.text.proofs.Passes.{passes-inside}
use Rattle.job.specs.JobText.{row_head, row_line}
use Rattle.job.specs.Reading.{squares_at, row_at, then_rows, rows_from, raster_from}
use Rattle.job.proofs.Lengths.{length-row}
use Rattle.job.proofs.Row.{Rowed, whole_rowed}

module _ (t : List ℕ) (w line s : ℕ) where
  pub rows_next : (r : ℕ) → rows_from t w (suc r) line s ≡ then_rows (row_at t s w r) line (λ next. rows_from t w r (line + 1) next)
  unfolding rows_from
  rows_next r = refl

  pub rows_none : rows_from t w 0 line s ≡ cond (eqb s (length t)) (Ok tt) (Err (BadLine line))
  unfolding rows_from
  rows_none = refl

  module _ (left : ℕ) (h : 0 < left) where
    more : rows_from t w left line s ≡ then_rows (row_at t s w (left - 1)) line (λ next. rows_from t w (left - 1) (line + 1) next)
    more = let e : left ≡ suc (left - 1) = omega arith in ap (λ (x : ℕ). rows_from t w x line s) e ∙ rows_next (left - 1)

    pub rows-turn : {next : ℕ} → row_at t s w (left - 1) ≡ Some next → rows_from t w left line s ≡ rows_from t w (left - 1) (line + 1) next
    rows-turn e = more ∙ ap (λ (x : Option ℕ). then_rows x line (λ next. rows_from t w (left - 1) (line + 1) next)) e

    pub rows-bad : row_at t s w (left - 1) ≡ None → rows_from t w left line s ≡ Err (BadLine line)
    rows-bad e = more ∙ ap (λ (x : Option ℕ). then_rows x line (λ next. rows_from t w (left - 1) (line + 1) next)) e

  module _ (left : ℕ) (h : left ≤ 0) where
    pub rows-done : rows_from t w left line s ≡ cond (eqb s (length t)) (Ok tt) (Err (BadLine line))
    rows-done = let e : left ≡ 0 = omega arith in ap (λ (x : ℕ). rows_from t w x line s) e ∙ rows_none

    pub rows-ended : s ≡ length t → rows_from t w left line s ≡ Ok tt
    rows-ended e = rows-done ∙ rw (eq-eqb s (length t) e)

-- the line of a row takes a byte at least, and ends inside the text
pub row-moves : (t : List ℕ) (s w r : ℕ) {next : ℕ} → row_at t s w r ≡ Some next → (s < next) × (next ≤ length t)
row-moves t s w r e =
    let p = whole_rowed t s w r e in
    let squares : List ℕ = squares_at t (s + length (row_head r)) w in
    (omega (arith, p.line.past, length-row r squares), passes-inside t s (row_line r squares) (omega (arith, length-row r squares)) p.line)

-- Rows that all stand as ruled: the first of them stands, and the others stand past it, whatever line the first is counted as.
ruled-then : (x : Option ℕ) (line : ℕ) (rest : ℕ → Result (Unit {0}) Refusal) → then_rows x line rest ≡ Ok tt → (next : ℕ) × (x ≡ Some next) × (rest next ≡ Ok tt)
ruled-then (Some next) line rest e = (next, refl, e)
ruled-then None line rest e = absurd cc

pub ruled-cond : (b : Bool) (line : ℕ) → ◌≡◌ {A = Result (Unit {0}) Refusal} (cond b (Ok tt) (Err (BadLine line))) (Ok tt) → b ≡ true
ruled-cond true line e = refl
ruled-cond false line e = absurd cc

any-line : (t : List ℕ) (w r m n s : ℕ) → rows_from t w r m s ≡ Ok tt → rows_from t w r n s ≡ Ok tt
unfolding rows_from
any-line t w zero m n s e = rw (ruled-cond (eqb s (length t)) m e)
any-line t w (suc r) m n s e =
    let f = ruled-then (row_at t s w r) m (λ next. rows_from t w r (m + 1) next) e in
    ap (λ (x : Option ℕ). then_rows x n (λ next. rows_from t w r (n + 1) next)) f.1 ∙ any-line t w r (m + 1) (n + 1) f.0 f.2

-- the spot past the line of row r
abbrev pub past_row : ℕ → ℕ → ℕ → ℕ
past_row s w r = s + (length (row_head r) + w + 1)

module _ (t : List ℕ) (w r n s : ℕ) (e : rows_from t w (suc r) n s ≡ Ok tt) where
  first-row : (next : ℕ) × (row_at t s w r ≡ Some next) × (rows_from t w r (n + 1) next ≡ Ok tt)
  unfolding rows_from
  first-row = ruled-then (row_at t s w r) n (λ next. rows_from t w r (n + 1) next) e

  pub row-there : Rowed t s w r (squares_at t (s + length (row_head r)) w) (past_row s w r)
  row-there =
      let f = first-row in
      let p = whole_rowed t s w r f.1 in
      let q : f.0 ≡ past_row s w r = omega (arith, p.line.past, length-row r (squares_at t (s + length (row_head r)) w), p.wide) in
      rw q at p

  pub rows-there : rows_from t w r n (past_row s w r) ≡ Ok tt
  rows-there =
      let f = first-row in
      let p = whole_rowed t s w r f.1 in
      let q : f.0 ≡ past_row s w r = omega (arith, p.line.past, length-row r (squares_at t (s + length (row_head r)) w), p.wide) in
      any-line t w r (n + 1) n (past_row s w r) (rw q at f.2)

  -- its squares lie in the text
  pub row_inside : past_row s w r ≤ length t
  row_inside =
      let p = row-there in
      passes-inside t s (row_line r (squares_at t (s + length (row_head r)) w)) (omega (arith, length-row r (squares_at t (s + length (row_head r)) w))) p.line

pub length-raster : (t : List ℕ) (w r n s : ℕ) → rows_from t w r n s ≡ Ok tt → length (raster_from t w r s) ≡ r * w
unfolding raster_from
length-raster t w zero n s e = sym (zero-mul w)
length-raster t w (suc r) n s e =
    length-append (raster_from t w r (past_row s w r)) (squares_at t (s + length (row_head r)) w)
    ∙ omega (arith, length-raster t w r n (past_row s w r) (rows-there t w r n s e), (row-there t w r n s e).wide, suc-mul r w)

-- a turn of copying: the squares of the first row go where the rows below end
pub copy_next : (t room : List ℕ) (w r n s : ℕ) → rows_from t w (suc r) n s ≡ Ok tt → suc r * w ≤ length room
    → written room 0 (raster_from t w (suc r) s) ≡ written (written room (r * w) (squares_at t (s + length (row_head r)) w)) 0 (raster_from t w r (past_row s w r))
unfolding raster_from
copy_next t room w r n s e h =
    let below : List ℕ = raster_from t w r (past_row s w r) in
    let squares : List ℕ = squares_at t (s + length (row_head r)) w in
    let l : 0 + length below ≡ r * w = omega (arith, length-raster t w r n (past_row s w r) (rows-there t w r n s e)) in
    sym
    (ap (λ (i : ℕ). written (written room i squares) 0 below) (sym l)
    ∙ written-first room 0 below squares (omega (arith, suc-mul r w, (row-there t w r n s e).wide)))

module _ (t room : List ℕ) (w left s : ℕ) where
  module _ (h : 0 < left) (e : rows_from t w left 2 s ≡ Ok tt) where
    same : left ≡ suc (left - 1)
    same = omega arith

    ruled : rows_from t w (suc (left - 1)) 2 s ≡ Ok tt
    ruled = rw same at e

    pub ruled-turn : rows_from t w (left - 1) 2 (past_row s w (left - 1)) ≡ Ok tt
    ruled-turn = rows-there t w (left - 1) 2 s ruled

    pub inside-turn : past_row s w (left - 1) ≤ length t
    inside-turn = row_inside t w (left - 1) 2 s ruled

    pub copy_turn : left * w ≤ length room
        → written room 0 (raster_from t w left s) ≡ written (written room ((left - 1) * w) (squares_at t (s + length (row_head (left - 1))) w)) 0 (raster_from t w (left - 1) (past_row s w (left - 1)))
    copy_turn f = ap (λ (x : ℕ). written room 0 (raster_from t w x s)) same ∙ copy_next t room w (left - 1) 2 s ruled (rw same at f)

  pub copy_done : left ≤ 0 → written room 0 (raster_from t w left s) ≡ room
  unfolding raster_from
  copy_done h = let e : left ≡ 0 = omega arith in ap (λ (x : ℕ). written room 0 (raster_from t w x s)) e ∙ written_none room 0

-- a row fits where all rows fit
pub row_fits : (w left : ℕ) → 0 < left → (left - 1) * w + w ≡ left * w
row_fits w left h = let e : left ≡ suc (left - 1) = omega arith in sym (ap (λ (x : ℕ). x * w) e ∙ suc-mul (left - 1) w)

-- the part of the text that is copied, by the length of the head as it was counted
pub part-squares : (t : List ℕ) (w at n head : ℕ) → n ≡ head → map square (take (at + n + w - (at + n)) (drop (at + n) t)) ≡ squares_at t (at + head) w
part-squares t w at n head e =
    let f : at + n + w - (at + n) ≡ w = omega arith in
    ap (λ (x : ℕ). map square (take x (drop (at + n) t))) f ∙ ap (λ (x : ℕ). squares_at t (at + x) w) e
