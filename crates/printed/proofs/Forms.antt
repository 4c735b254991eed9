-- The forms of a print: a cover, or a refusal, with marks after it where the allowance was short.
-- The tests of `printed`, each with its case. The bound on the length and `print_outcome` go by these.
use mathlib.Core.Path.{◌≡◌, ap, subst, ◌∙◌}
use mathlib.Core.List.{List, [], ◌++◌, append-nil}
use mathlib.Core.Logic.{by_cases}
use native.Mathlib.Decide.{ℕ_discrete}
use Prim.Native.Nat.{ℕ, ◌+◌, ◌≤◌}
use native.Mathlib.Omega.{arith}
use lib.ListN.{length, drop, length-append}
use Rattle.grid.specs.Rooms.{written, Written}
use borrow.Author.Tests.{eq-eqb, ne_eqb}
use Rattle.grid.specs.Answers.{done, allowance_short}
use Rattle.cover.specs.declared.entry.Outcome.{Outcome}
use Rattle.text.specs.Line.{record_lines}
use Rattle.printed.specs.Printed.{cover_line, refused_line, flash_lines, mark_lines, marks_after, printed}

module _ (o : Outcome) (m : List ℕ) where
  pub print_cover : (f : List ℕ) → o.answer ≡ done.number → printed o f m ≡ cover_line o ++ (flash_lines o.flashes f ++ mark_lines o.marks m)
  unfolding printed
  print_cover f e = rw (eq-eqb o.answer done.number e)

  pub print_refused : (f : List ℕ) → (o.answer ≡ done.number → ⊥) → printed o f m ≡ refused_line o ++ marks_after o m
  unfolding printed
  print_refused f n = rw (ne_eqb o.answer done.number n)

  pub marks-short : o.answer ≡ allowance_short → marks_after o m ≡ mark_lines o.marks m
  marks-short e = rw (eq-eqb o.answer allowance_short e)

  pub marks-none : (o.answer ≡ allowance_short → ⊥) → marks_after o m ≡ []
  marks-none n = rw (ne_eqb o.answer allowance_short n)

  -- with no marks it is a refusal's line alone
  pub print_alone : (f : List ℕ) → (o.answer ≡ done.number → ⊥) → o.marks ≡ 0 → printed o f m ≡ refused_line o
  unfolding printed record_lines
  print_alone f n e =
      print_refused f n
      ∙ by_cases (ℕ_discrete o.answer allowance_short)
      (λ s. ap (refused_line o ++◌) (marks-short s ∙ ap (λ k. mark_lines k m) e) ∙ append-nil (refused_line o))
      (λ s. ap (refused_line o ++◌) (marks-none s) ∙ append-nil (refused_line o))

-- what was written is an equal text; it stands in the room
pub as_text : {room after a b : List ℕ} {n : ℕ} → a ≡ b → Written room 0 a n after → Written room 0 b n after
as_text {room} {after} {n = n} e w = subst (λ (t : List ℕ). Written room 0 t n after) e w

pub within : {room after bytes : List ℕ} {n : ℕ} → Written room 0 bytes n after → n ≤ length after
unfolding written
within {room} {bytes = bytes} w = omega (arith, w.past, ap length w.left, length-append bytes (drop (0 + length bytes) room))
