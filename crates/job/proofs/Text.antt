-- The lines of the rows, one after the other: one turn of writing them.
-- Each opens the definition at the next row, once; the loop's proof cites nothing else.
use mathlib.Core.Path.{◌≡◌, refl, sym, ap, ◌∙◌}
use mathlib.Core.List.{List, [], ◌++◌}
use Prim.Native.Nat.{ℕ, suc, ◌+◌, ◌-◌, ◌*◌, ◌≤◌, ◌<◌}
use native.Mathlib.Omega.{arith}
use native.Mathlib.Nat.{mul-le-mul_right, mul_comm}
use lib.ListN.{length, take, drop, length-append}
use Rattle.grid.specs.Rooms.{written, Written}
use Rattle.grid.proofs.Writing.{written_then}
use Rattle.job.specs.JobText.{row_line, row_of, row_lines}
use Rattle.job.proofs.Rows.{row_fits}

pub lines_next : (w : ℕ) (raster : List ℕ) (r : ℕ) → row_lines w raster (suc r) ≡ row_line r (row_of w raster r) ++ row_lines w raster r
unfolding row_lines
lines_next w raster r = refl

pub lines_none : (w : ℕ) (raster : List ℕ) → row_lines w raster 0 ≡ []
unfolding row_lines
lines_none w raster = refl

module _ (w : ℕ) (raster : List ℕ) (left : ℕ) where
  pub lines-done : left ≤ 0 → row_lines w raster left ≡ []
  lines-done h = let e : left ≡ 0 = omega arith in ap (row_lines w raster) e ∙ lines_none w raster

  module _ (h : 0 < left) where
    pub lines-turn : row_lines w raster left ≡ row_line (left - 1) (row_of w raster (left - 1)) ++ row_lines w raster (left - 1)
    lines-turn = let e : left ≡ suc (left - 1) = omega arith in ap (row_lines w raster) e ∙ lines_next w raster (left - 1)

    pub length-turn : length (row_lines w raster left) ≡ length (row_line (left - 1) (row_of w raster (left - 1))) + length (row_lines w raster (left - 1))
    length-turn = ap length lines-turn ∙ length-append (row_line (left - 1) (row_of w raster (left - 1))) (row_lines w raster (left - 1))

    -- a row lies in the raster
    pub row_inside : {n : ℕ} → left ≤ n → length raster ≡ w * n → (left - 1) * w + w ≤ length raster
    row_inside {n} l e = omega (arith, row_fits w left h, mul-le-mul_right w l, mul_comm w n)

    -- the row's line was written: what is left are the lines below it
    pub write_turn : {room after : List ℕ} {at next : ℕ} → at + length (row_lines w raster left) ≤ length room
        → Written room at (row_line (left - 1) (row_of w raster (left - 1))) next after
        → written room at (row_lines w raster left) ≡ written after next (row_lines w raster (left - 1))
    write_turn {room} {after} {at} {next} fits p =
        let line : List ℕ = row_line (left - 1) (row_of w raster (left - 1)) in
        let below : List ℕ = row_lines w raster (left - 1) in
        ap (written room at) lines-turn
        ∙ sym (written_then room at line below (omega (arith, length-turn)))
        ∙ ap (λ (r : List ℕ). written r (at + length line) below) (sym p.left)
        ∙ ap (λ (i : ℕ). written after i below) (sym p.past)

-- the part of the raster that is written
pub part-row : (w : ℕ) (raster : List ℕ) (r : ℕ) → take (r * w + w - r * w) (drop (r * w) raster) ≡ row_of w raster r
part-row w raster r = let e : r * w + w - r * w ≡ w = omega arith in ap (λ (n : ℕ). take n (drop (r * w) raster)) e
