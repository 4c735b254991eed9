-- A refusal and its answer: no refusal is done, and the answer tells which refusal it is. So what a function answers that is refused by a `?` determines its result.
-- By cases of the refusal; each function's theorem that its contract determines its outcome uses it.
use mathlib.Core.Path.{◌≡◌, refl, sym, ap, ◌∙◌}
use mathlib.Core.Bool.{cond}
use native.Mathlib.Omega.{arith}
use lib.Dec.{eqb}
use Rattle.std.specs.Prelude.{Result, Ok, Err}
use Rattle.grid.specs.Lines.{column, row}
use Rattle.grid.specs.Answers.{size_out, raster_length, flash_room_short, mark_room_short, text_room_short, allowance_out, bad_byte, broken_column, answer_of, answered}
use Rattle.grid.specs.Answers.{allowance_short, text_long, bad_line, raster_room_short, pitch_out, centre_out, file_room_short, bad_list_line, list_long, version_unknown}
use Rattle.grid.specs.declared.answers.Answer.{Answer}
use Rattle.grid.specs.declared.answers.Refusal.{Refusal}
use Rattle.grid.specs.declared.answers.Refusal.TheVariants.{SizeOut, RasterLength, FlashRoomShort, MarkRoomShort, TextRoomShort, AllowanceOut, BadByte, BrokenColumn}
use Rattle.grid.specs.declared.answers.Refusal.TheVariants.{AllowanceShort, TextLong, BadLine, RasterRoomShort, PitchOut, CentreOut, FileRoomShort, BadListLine, ListLong, VersionUnknown, BadFileLine}

-- a refusal is never done
pub refuses : (r : Refusal) → (answer_of r).number ≡ 0 → ⊥
refuses r e = grind arith

-- the refusal of an answer
told : Answer → Refusal
told a =
    cond (eqb a.number size_out) SizeOut (
    cond (eqb a.number raster_length) RasterLength (
    cond (eqb a.number flash_room_short) FlashRoomShort (
    cond (eqb a.number mark_room_short) MarkRoomShort (
    cond (eqb a.number text_room_short) TextRoomShort (
    cond (eqb a.number allowance_out) AllowanceOut (
    cond (eqb a.number bad_byte) (BadByte (column a.x) (row a.y)) (
    cond (eqb a.number broken_column) (BrokenColumn (column a.x) (row a.y)) (
    cond (eqb a.number allowance_short) AllowanceShort (
    cond (eqb a.number text_long) TextLong (
    cond (eqb a.number bad_line) (BadLine a.x) (
    cond (eqb a.number raster_room_short) RasterRoomShort (
    cond (eqb a.number pitch_out) PitchOut (
    cond (eqb a.number centre_out) CentreOut (
    cond (eqb a.number file_room_short) FileRoomShort (
    cond (eqb a.number bad_list_line) (BadListLine a.x) (
    cond (eqb a.number list_long) ListLong (
    cond (eqb a.number version_unknown) VersionUnknown (
    BadFileLine a.x))))))))))))))))))

told-answer : (r : Refusal) → told (answer_of r) ≡ r
unfolding told
told-answer r = grind arith

pub answer-tells : (r s : Refusal) → answer_of r ≡ answer_of s → r ≡ s
answer-tells r s e = sym (told-answer r) ∙ ap told e ∙ told-answer s

-- an answer tells a result, where what is returned on passing is told
pub answered-tells : {T : Type 0} (x y : Result T Refusal) → answered x ≡ answered y → ((t u : T) → x ≡ Ok t → y ≡ Ok u → t ≡ u) → x ≡ y
answered-tells (Ok t) (Ok u) e h = ap Ok (h t u refl refl)
answered-tells (Ok t) (Err s) e h = absurd (refuses s (sym (ap (λ (a : Answer). a.number) e)))
answered-tells (Err r) (Ok u) e h = absurd (refuses r (ap (λ (a : Answer). a.number) e))
answered-tells (Err r) (Err s) e h = ap Err (answer-tells r s e)

-- so it does where nothing is
pub passed-tells : (x y : Result (Unit {0}) Refusal) → answered x ≡ answered y → x ≡ y
passed-tells x y e = answered-tells x y e (λ t u p q. refl)
