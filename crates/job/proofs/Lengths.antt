-- How long the lines and the text of a job are, and that no job's text is longer than the room that is asked for it.
-- Sums of the lengths of their parts; a lesser width, height or allowance has no more digits and squares. The number of bytes stands here alone.
-- The writer's room, the reader's spots and the longest job use it.
use mathlib.Core.Path.{◌≡◌, refl, ◌∙◌}
use mathlib.Core.List.{List, [], ◌∷◌, ◌++◌, map}
use mathlib.Core.Logic.{by_cases}
use Prim.Native.Nat.{ℕ, zero, suc, ◌+◌, ◌*◌, ◌≤◌, ◌<◌}
use native.Mathlib.Omega.{arith}
use native.Mathlib.Nat.{le_refl, mul-le-mul_right, mul_comm, suc-mul}
use native.Mathlib.Decide.{dec_le}
use lib.ListN.{length, drop, length-append, length-take, length-drop}
use Rattle.grid.specs.Limits.{side, allowance_limit}
use Rattle.text.specs.Words.{tab, feed, glyph}
use Rattle.text.specs.Decimal.{decimal, digits}
use Rattle.text.specs.Line.{field_room}
use Rattle.std.proofs.lemmas.List.{length-map}
use Rattle.text.proofs.Lengths.{digits_grow, line-none, line-more}
use Rattle.job.specs.JobText.{shape_word, shape_line, row_head, row_line, row_of, row_lines, job_text, IsJob, rows_length, text_length, text_room}

pub length-head : (r : ℕ) → length (row_head r) ≡ 5 + length (decimal r)
unfolding row_head
length-head r = omega (arith, length-append (decimal r) (tab ∷ []))

pub length-row : (r : ℕ) (squares : List ℕ) → length (row_line r squares) ≡ length (row_head r) + length squares + 1
unfolding row_line
length-row r squares =
    omega (arith, length-append (row_head r) (map glyph squares ++ (feed ∷ [])), length-append (map glyph squares) (feed ∷ []), length-map squares glyph)

pub length_shape : (w h k : ℕ) → length (shape_line w h k) ≡ length shape_word + field_room w + field_room h + field_room k + 1
length_shape w h k = omega (arith, line-more shape_word w (h ∷ k ∷ []), line-more shape_word h (k ∷ []), line-more shape_word k [], line-none shape_word)

-- a row of a full raster is as long as the width
pub length-row_of : (w h : ℕ) (raster : List ℕ) (r : ℕ) → length raster ≡ w * h → r < h → length (row_of w raster r) ≡ w
length-row_of w h raster r e l =
    let fits : suc r * w ≤ h * w = mul-le-mul_right w l in
    omega (arith, length-take w (drop (r * w) raster), length-drop (r * w) raster, suc-mul r w, mul_comm w h)

-- the rows' lines, from row r - 1 down
pub length-rows : (w h : ℕ) (raster : List ℕ) (r : ℕ) → length raster ≡ w * h → r ≤ h → length (row_lines w raster r) ≡ rows_length w r
unfolding row_lines rows_length
length-rows w h raster zero e l = refl
length-rows w h raster (suc r) e l =
    omega (
      arith,
      length-append (row_line r (row_of w raster r)) (row_lines w raster r),
      length-row r (row_of w raster r),
      length-row_of w h raster r e l,
      length-head r,
      length-rows w h raster r e (omega arith),
    )

-- the length of a job's text, by its numbers alone
pub length-text : (w h k : ℕ) (raster : List ℕ) → IsJob w h k raster → length (job_text w h k raster) ≡ text_length w h k
unfolding job_text text_length
length-text w h k raster j =
    length-append (shape_line w h k) (row_lines w raster h) ∙ omega (arith, length_shape w h k, length-rows w h raster h j.full (le_refl h))

-- wider rows and more of them are longer
wider : (w w' h : ℕ) → w ≤ w' → rows_length w h ≤ rows_length w' h
unfolding rows_length
wider w w' zero l = omega arith
wider w w' (suc r) l = omega (arith, wider w w' r l)

higher : (w h h' : ℕ) → h ≤ h' → rows_length w h ≤ rows_length w h'
unfolding rows_length
higher w h zero l = let e : h ≡ 0 = omega arith in rw e (omega arith)
higher w h (suc h') l =
    by_cases (dec_le h h')
    (λ s. omega (arith, higher w h h' s))
    (λ s. let e : h ≡ suc h' = omega arith in rw e (le_refl (rows_length w (suc h'))))

-- no job's text is longer than the room that is asked for it
pub longest : (w h k : ℕ) (raster : List ℕ) → IsJob w h k raster → length (job_text w h k raster) ≤ text_room
unfolding text_length
longest w h k raster j =
    omega (
      arith,
      length-text w h k raster j,
      digits_grow side w j.narrow,
      digits_grow side h j.low,
      digits_grow allowance_limit k j.allowed,
      wider w side h j.narrow,
      higher side h side j.low,
    )

-- "The longest job has 4,613 bytes."
pub longest-text : text_room ≡ 4613
unfolding text_length rows_length decimal digits
longest-text = refl

-- the same, for the check of the code's number
pub most : text_length side side allowance_limit ≡ 4613
most = longest-text
