-- What was given, printed: the file or the refusal, and that there is room for either.
use mathlib.Core.Path.{◌≡◌, refl, sym, ap, subst, ◌∙◌}
use mathlib.Core.List.{List, [], ◌∷◌}
use Prim.Native.Nat.{ℕ, ◌-◌, ◌*◌, ◌^◌, ◌≤◌, ◌<◌}
use native.Mathlib.Omega.{arith}
use native.Mathlib.Nat.{mul-le-mul_right}
use mathlib.Core.Bool.{true}
use lib.IntN.{ℤ}
use mir.Syntax.{w64}
use mir.Val.{SFits, of_z, to_z}
use mir.Facts.{to_z-of_z}
use lib.ListN.{length, take, replicate, length-replicate}
use borrow.Author.Tests.{eq-eqb, ne_eqb}
use Rattle.grid.specs.Limits.{side, flash_record, flash_room_size, mark_room_size, file_room_size}
use Rattle.text.specs.Decimal.{digits, decimal}
use Rattle.text.specs.Line as Line
use Rattle.text.proofs.Lengths.{digits_grow, line-none, line-more, record_lines-most}
use Rattle.printed.specs.Printed.{flash_word, flash_lines, flash_line_room, print_room, refusal_line}
use Rattle.printed.proofs.Forms.{print_alone}
use Rattle.gerber.specs.File.{bytes}
use Rattle.gerber.specs.Writing.{Given, write_gives}
use Rattle.gerberfile.specs.Program.{refused_text, given_text, file_text, read_back_text}
use Rattle.gerber.specs.declared.read.ReadOutcome.{ReadOutcome}
use Rattle.gerberfile.proofs.Few.{few}

-- the room for a file is enough for any print
pub print_fits : print_room ≤ file_room_size
unfolding decimal digits
print_fits = omega arith

longest : length (decimal (2 ^ 64 - 1)) ≡ 20
unfolding decimal digits
longest = refl

pub wrong_fits : (n : ℕ) → n < 2 ^ 64 → length (Line.line (bytes "wrong") (n ∷ [])) ≤ file_room_size
wrong_fits n h = omega (arith, line-more (bytes "wrong") n [], line-none (bytes "wrong"), digits_grow (2 ^ 64 - 1) n (omega arith), longest)

-- the lines of as many flashes as a file can have
flash_room : side * flash_line_room ≤ file_room_size
unfolding decimal digits
flash_room = omega arith

pub flashes-fit : (n : ℕ) (f : List ℕ) → n ≤ side → Line.within (2 ^ 8 - 1) f ≡ true → length (flash_lines n f) ≤ file_room_size
flashes-fit n f few bytes = omega (arith, record_lines-most flash_word flash_record (2 ^ 8 - 1) n f bytes, mul-le-mul_right flash_line_room few, flash_room)

-- a refusal's line is its print
pub refused-line : (n x y : ℕ) → (n ≡ 0 → ⊥) → refusal_line (record { number = n; x = x; y = y }) ≡ refused_text n x y 0 []
refused-line n x y e = sym (print_alone (record { answer = n; place_x = x; place_y = y; flashes = 0; marks = 0; copper = 0; flashed = 0 }) [] [] e refl)

module _ (o : ReadOutcome) (f : List ℕ) where
  pub back-flashes : o.answer ≡ 0 → flash_lines o.flashes f ≡ read_back_text o f
  back-flashes z = rw (eq-eqb o.answer 0 z)

  pub back-refused : (o.answer ≡ 0 → ⊥) → refusal_line (record { number = o.answer; x = o.place_x; y = o.place_y }) ≡ read_back_text o f
  back-refused n = refused-line o.answer o.place_x o.place_y n ∙ sym (rw (ne_eqb o.answer 0 n))

module _ (g : Given) where
  given-file : g.outcome.answer ≡ 0 → given_text g ≡ take g.outcome.length g.file_after
  given-file z = rw (eq-eqb g.outcome.answer 0 z)

  given-refused : (g.outcome.answer ≡ 0 → ⊥) → given_text g ≡ refused_text g.outcome.answer g.outcome.place_x g.outcome.place_y g.outcome.marks g.marks_after
  given-refused n = rw (ne_eqb g.outcome.answer 0 n)

abbrev zeros : ℕ → List ℕ
zeros n = replicate n 0

long : (n : ℕ) → length (zeros n) ≡ n
long n = length-replicate n 0

-- a call in rooms with no record in them; its origin is two numbers of 64 bits
module _ (w h k : ℕ) (raster : List ℕ) (version pitch : ℕ) (x y : ℤ) (fx : SFits w64 x) (fy : SFits w64 y) {g : Given}
    (called : g ≡ write_gives w h k raster version pitch (to_z w64 (of_z w64 x)) (to_z w64 (of_z w64 y)) (zeros flash_room_size) (zeros mark_room_size) (zeros file_room_size)) where
  e : g ≡ write_gives w h k raster version pitch x y (zeros flash_room_size) (zeros mark_room_size) (zeros file_room_size)
  e = called ∙ (λ i. write_gives w h k raster version pitch (to_z-of_z fx i) (to_z-of_z fy i) (zeros flash_room_size) (zeros mark_room_size) (zeros file_room_size))

  bounds : (g.outcome.marks ≤ side) × (g.outcome.length ≤ length (zeros file_room_size))
  bounds =
      subst (λ (c : Given). (c.outcome.marks ≤ side) × (c.outcome.length ≤ length (zeros file_room_size))) (sym e)
      (few w h k raster version pitch x y (zeros flash_room_size) (zeros mark_room_size) (zeros file_room_size)
      (omega (arith, long flash_room_size)) (omega (arith, long mark_room_size)))

  pub few-marks : g.outcome.marks ≤ side
  few-marks = bounds.0

  pub short-file : g.outcome.length ≤ file_room_size
  short-file = omega (arith, bounds.1, long file_room_size)

  pub file-text : g.outcome.answer ≡ 0 → take g.outcome.length g.file_after ≡ file_text w h k raster version pitch x y
  file-text z = sym (given-file g z) ∙ ap given_text e

  pub refused-text : (g.outcome.answer ≡ 0 → ⊥) → refused_text g.outcome.answer g.outcome.place_x g.outcome.place_y g.outcome.marks g.marks_after ≡ file_text w h k raster version pitch x y
  refused-text n = sym (given-refused g n) ∙ ap given_text e
