-- The line of a verdict or a refusal, case by case, and that it has room where the `refused` line has; so the print room of the cover is enough.
-- Each case opens the definition once; a number of 64 bits has at most twenty digits. `put_verdict` and `print_checked` use it.
use mathlib.Core.Path.{◌≡◌, ap}
use mathlib.Core.Bool.{true}
use mathlib.Core.List.{List, [], ◌∷◌}
use mathlib.Core.Logic.{by_cases}
use Prim.Native.Nat.{ℕ, ◌+◌, ◌-◌, ◌*◌, ◌^◌, ◌≤◌, ◌<◌}
use native.Mathlib.Decide.{ℕ_discrete}
use native.Mathlib.Nat.{mul-le-mul_right}
use native.Mathlib.Omega.{arith}
use lib.ListN.{length, get_or}
use mir.Syntax.{w8}
use mir.Val.{Fits}
use borrow.Author.Tests.{eq-eqb, ne_eqb}
use Rattle.grid.specs.Limits.{side, mark_record}
use Rattle.text.specs.Line.{line, within}
use Rattle.text.proofs.Lengths.{line-none, line-more, record_lines-most, bytes-within}
use Rattle.printed.specs.Printed.{refused_word, mark_word, mark_lines, mark_line_room, print_room}
use Rattle.printed.proofs.Longest.{wide, refusal_room, refusal-line-most, refusal-shorter}
use Rattle.grid.specs.declared.answers.Answer.{Answer}
use Rattle.listcheck.specs.Checked.{bad, bare}
use Rattle.listcheck.specs.declared.entry.Checked.{Checked}
use Rattle.checklist.specs.Program.{sound_word, bad_word, bare_word, verdict_line}

module _ (c : Checked) where
  pub line_refused : (c.answer ≡ 0 → ⊥) → verdict_line c ≡ line refused_word (c.answer ∷ c.place_x ∷ c.place_y ∷ [])
  unfolding verdict_line
  line_refused n = rw (ne_eqb c.answer 0 n)

  module _ (done : c.answer ≡ 0) where
    pub line-bad : c.verdict ≡ bad → verdict_line c ≡ line bad_word (c.place_x ∷ [])
    unfolding verdict_line
    line-bad e = rw (eq-eqb c.answer 0 done, eq-eqb c.verdict bad e)

    pub line-bare : (c.verdict ≡ bad → ⊥) → c.verdict ≡ bare → verdict_line c ≡ line bare_word (c.place_x ∷ c.place_y ∷ [])
    unfolding verdict_line
    line-bare n e = rw (eq-eqb c.answer 0 done, ne_eqb c.verdict bad n, eq-eqb c.verdict bare e)

    pub line-sound : (c.verdict ≡ bad → ⊥) → (c.verdict ≡ bare → ⊥) → verdict_line c ≡ line sound_word (c.above ∷ [])
    unfolding verdict_line
    line-sound n k = rw (eq-eqb c.answer 0 done, ne_eqb c.verdict bad n, ne_eqb c.verdict bare k)

-- the numbers as the program holds them
pub record Numbers (c : Checked) : Type 0 where
  pub answer : c.answer < 2 ^ 64
  pub x : c.place_x < 2 ^ 64
  pub y : c.place_y < 2 ^ 64
  pub above : c.above < 2 ^ 64

module _ (c : Checked) (numbers : Numbers c) where
  verdict_most : length (verdict_line c) ≤ refusal_room
  verdict_most =
      by_cases (ℕ_discrete c.answer 0)
      (λ d.
      by_cases (ℕ_discrete c.verdict bad)
      (λ e. omega (arith, ap length (line-bad c d e), line-more bad_word c.place_x [], line-none bad_word, wide c.place_x numbers.x))
      (λ n.
      by_cases (ℕ_discrete c.verdict bare)
      (λ e.
      omega (
        arith,
        ap length (line-bare c d n e),
        line-more bare_word c.place_x (c.place_y ∷ []),
        line-more bare_word c.place_y [],
        line-none bare_word,
        wide c.place_x numbers.x,
        wide c.place_y numbers.y,
      ))
      (λ k. omega (arith, ap length (line-sound c d n k), line-more sound_word c.above [], line-none sound_word, wide c.above numbers.above))))
      (λ n.
      let a : Answer = record { number = c.answer; x = c.place_x; y = c.place_y } in
      omega (arith, ap length (line_refused c n), refusal-line-most a numbers.answer numbers.x numbers.y))

  -- the verdict's line and the marks' lines fit into the print room
  pub checked-most : (m : List ℕ) → c.marks ≤ side → within (2 ^ 8 - 1) m ≡ true → length (verdict_line c) + length (mark_lines c.marks m) ≤ print_room
  checked-most m few bytes =
      omega (arith, verdict_most, refusal-shorter, record_lines-most mark_word mark_record (2 ^ 8 - 1) c.marks m bytes, mul-le-mul_right mark_line_room few)

  -- so they fit into a room of that size
  pub checked-fits : (m out : List ℕ) → ((i : ℕ) → Fits w8 (get_or m i 0)) → (c.marks ≤ side) × (c.marks * mark_record ≤ length m) × (print_room ≤ length out)
      → 0 + length (verdict_line c) + length (mark_lines c.marks m) ≤ length out
  checked-fits m out bytes p = omega (arith, checked-most m p.0 (bytes-within m (λ i. (bytes i).fits)), p.2)
