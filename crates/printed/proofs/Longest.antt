-- The longest print: no printed form of an outcome has more than `print_room` bytes, and one has as many.
-- Each line is at most as long as its room says, and there are at most as many of a kind as the grid has columns.
-- `print_outcome` asks for that room, so it never meets its end.
use mathlib.Core.Path.{◌≡◌, refl, ap}
use mathlib.Core.Bool.{true}
use mathlib.Core.List.{List, [], ◌∷◌, ◌++◌}
use mathlib.Core.Logic.{by_cases}
use Prim.Native.Nat.{ℕ, ◌+◌, ◌-◌, ◌*◌, ◌^◌, ◌≤◌, ◌<◌}
use native.Mathlib.Omega.{arith}
use native.Mathlib.Decide.{ℕ_discrete}
use native.Mathlib.Nat.{mul-le-mul_right}
use lib.ListN.{length, replicate, length-append}
use Rattle.grid.specs.Limits.{side, flash_record, mark_record}
use Rattle.grid.specs.Answers.{done, allowance_short}
use Rattle.grid.specs.declared.answers.Answer.{Answer}
use Rattle.cover.specs.declared.entry.Outcome.{Outcome}
use Rattle.text.specs.Decimal.{decimal, digits}
use Rattle.text.specs.Line.{line, record_lines, field_room, within}
use Rattle.text.proofs.Lengths.{digits_grow, line-none, line-more, record_lines-most}
use Rattle.printed.proofs.Forms.{print_cover, print_refused, marks-short, marks-none}
use Rattle.printed.specs.Printed.{cover_word, flash_word, mark_word, refused_word, cover_line, refusal_line, refused_line}
use Rattle.printed.specs.Printed.{flash_lines, mark_lines, marks_after, printed, cover_line_room, flash_line_room, mark_line_room, print_room}

abbrev pub Bytes : List ℕ → Type 0
Bytes f = within (2 ^ 8 - 1) f ≡ true

-- the numbers of an outcome as the program holds them
pub record Numbers (o : Outcome) : Type 0 where
  pub answer : o.answer < 2 ^ 64
  pub x : o.place_x < 2 ^ 64
  pub y : o.place_y < 2 ^ 64
  pub copper : o.copper < 2 ^ 64
  pub flashed : o.flashed < 2 ^ 64

-- a number of 64 bits has at most twenty digits
pub wide : (n : ℕ) → n < 2 ^ 64 → length (decimal n) ≤ length (decimal (2 ^ 64 - 1))
wide n h = digits_grow (2 ^ 64 - 1) n (omega arith)

abbrev pub refusal_room : ℕ
refusal_room = length refused_word + 3 * field_room (2 ^ 64 - 1) + 1

pub refusal-line-most : (a : Answer) → a.number < 2 ^ 64 → a.x < 2 ^ 64 → a.y < 2 ^ 64 → length (refusal_line a) ≤ refusal_room
refusal-line-most a n x y =
    omega (
      arith,
      line-more refused_word a.number (a.x ∷ a.y ∷ []),
      line-more refused_word a.x (a.y ∷ []),
      line-more refused_word a.y [],
      line-none refused_word,
      wide a.number n,
      wide a.x x,
      wide a.y y,
    )

-- a refusal's line has room where the `cover` line and the flashes' lines have
pub refusal-shorter : refusal_room ≤ cover_line_room + side * flash_line_room
unfolding decimal digits
refusal-shorter = omega arith

pub refusal_most : (a : Answer) → a.number < 2 ^ 64 → a.x < 2 ^ 64 → a.y < 2 ^ 64 → length (refusal_line a) ≤ print_room
refusal_most a n x y = omega (arith, refusal-line-most a n x y, refusal-shorter)

-- the same of any three numbers, in whatever order the line has them
pub three_most : (n x y : ℕ) → n < 2 ^ 64 → x < 2 ^ 64 → y < 2 ^ 64 → length (line refused_word (n ∷ x ∷ y ∷ [])) ≤ print_room
three_most n x y = refusal_most (record { number = n; x = x; y = y })

module _ (o : Outcome) (numbers : Numbers o) where
  cover-line-most : o.flashes ≤ side → length (cover_line o) ≤ cover_line_room
  cover-line-most few =
      omega (
        arith,
        line-more cover_word o.flashes (o.copper ∷ o.flashed ∷ []),
        line-more cover_word o.copper (o.flashed ∷ []),
        line-more cover_word o.flashed [],
        line-none cover_word,
        digits_grow side o.flashes few,
        wide o.copper numbers.copper,
        wide o.flashed numbers.flashed,
      )

  module _ (f m : List ℕ) (few-flashes : o.flashes ≤ side) (few-marks : o.marks ≤ side) (flash-bytes : Bytes f) (mark-bytes : Bytes m) where
    flashes-most : length (flash_lines o.flashes f) ≤ side * flash_line_room
    flashes-most = omega (arith, record_lines-most flash_word flash_record (2 ^ 8 - 1) o.flashes f flash-bytes, mul-le-mul_right flash_line_room few-flashes)

    marks-most : length (mark_lines o.marks m) ≤ side * mark_line_room
    marks-most = omega (arith, record_lines-most mark_word mark_record (2 ^ 8 - 1) o.marks m mark-bytes, mul-le-mul_right mark_line_room few-marks)

    cover-most : o.answer ≡ done.number → length (printed o f m) ≤ print_room
    cover-most e =
        omega (
          arith,
          ap length (print_cover o m f e),
          length-append (cover_line o) (flash_lines o.flashes f ++ mark_lines o.marks m),
          length-append (flash_lines o.flashes f) (mark_lines o.marks m),
          cover-line-most few-flashes,
          flashes-most,
          marks-most,
        )

    after-most : length (marks_after o m) ≤ side * mark_line_room
    after-most =
        by_cases (ℕ_discrete o.answer allowance_short)
        (λ e. omega (arith, ap length (marks-short o m e), marks-most))
        (λ n. omega (arith, ap length (marks-none o m n)))

    refused-line-most : length (refused_line o) ≤ refusal_room
    refused-line-most = refusal-line-most (record { number = o.answer; x = o.place_x; y = o.place_y }) numbers.answer numbers.x numbers.y

    -- no print is longer
    pub print_most : length (printed o f m) ≤ print_room
    print_most =
        by_cases (ℕ_discrete o.answer done.number) cover-most
        (λ n. omega (arith, ap length (print_refused o m f n), length-append (refused_line o) (marks_after o m), refused-line-most, refusal-shorter, after-most))

-- and one is as long
pub print_reached : (o : Outcome) × (f : List ℕ) × (m : List ℕ) × (o.flashes ≤ side) × (o.marks ≤ side) × (o.copper < 2 ^ 64) × (o.flashed < 2 ^ 64) × (length (printed o f m) ≡ print_room)
unfolding printed line record_lines decimal digits
print_reached = (
  record { answer = 0; place_x = 0; place_y = 0; flashes = side; marks = side; copper = 2 ^ 64 - 1; flashed = 2 ^ 64 - 1 },
  replicate (side * flash_record) 255,
  replicate (side * mark_record) 255,
  omega arith,
  omega arith,
  omega arith,
  omega arith,
  refl,
)
