-- Noted marks column by column, the first of them taken: those of the columns before c, and one column more.
-- A column gives one mark or none, so there are no more marks than columns. `write_mark` and `write_marks` use it.
use mathlib.Core.Path.{◌≡◌, sym, ap, ◌∙◌}
use mathlib.Core.List.{List, [], ◌∷◌, ◌++◌, append-nil}
use Prim.Native.Nat.{ℕ, zero, suc, ◌+◌, ◌-◌, ◌≤◌}
use native.Mathlib.Omega.{arith}
use lib.ListN.{length, take, length-append, length-take}
use lib.Seq.{take-nil}
use Rattle.lists.specs.Lists.{gather, from, up_to}
use Rattle.lists.proofs.Truth.{bcase}
use Rattle.lists.proofs.Ranges.{from-append, gather_append}
use Rattle.method.specs.Intervals.{Interval, proper}
use Rattle.grid.specs.Squares.{Square}
use Rattle.counts.specs.Spans.{span_in}
use Rattle.cover.specs.Code.{marked_in, marks_noted}

take_none : (n : ℕ) (xs : List Square) → n ≡ 0 → take n xs ≡ []
take_none n xs e = rw e

take-append : (n : ℕ) (xs ys : List Square) → take n (xs ++ ys) ≡ take n xs ++ take (n - length xs) ys
take-append n [] ys = let e : n - 0 ≡ n = omega arith in rw (e, take-nil n)
take-append zero (x ∷ xs) ys = sym (take_none (0 - suc (length xs)) ys (omega arith))
take-append (suc n) (x ∷ xs) ys = let e : suc n - suc (length xs) ≡ n - length xs = omega arith in rw e (ap (x ∷◌) (take-append n xs ys))

module _ (rows : Interval → ℕ) (noted : List ℕ) where
  -- no more marks to be taken
  pub no_more : (c most n : ℕ) → most ≤ n → take (most - n) (marked_in rows noted c) ≡ []
  no_more c most n l = take_none (most - n) (marked_in rows noted c) (omega arith)

  pub noted-none : (most : ℕ) → take most (marks_noted rows noted 0) ≡ []
  unfolding marks_noted
  noted-none most = take-nil most

  noted-next : (c : ℕ) → marks_noted rows noted (c + 1) ≡ marks_noted rows noted c ++ marked_in rows noted c
  unfolding marks_noted
  noted-next c =
      let e : 0 + c ≡ c = omega arith in
      ap (gather (marked_in rows noted)) (from-append 0 c 1)
      ∙ gather_append (marked_in rows noted) (up_to c) (from (0 + c) 1)
      ∙ ap (λ z. gather (marked_in rows noted) (up_to c) ++ z) (append-nil (marked_in rows noted (0 + c)) ∙ ap (marked_in rows noted) e)

  -- one column more, where n are taken
  pub taken_next : (c most n : ℕ) → n ≡ length (take most (marks_noted rows noted c))
      → take most (marks_noted rows noted (c + 1)) ≡ take most (marks_noted rows noted c) ++ take (most - n) (marked_in rows noted c)
  taken_next c most n e =
      let f : most - length (marks_noted rows noted c) ≡ most - n = omega (arith, length-take most (marks_noted rows noted c)) in
      ap (take most) (noted-next c)
      ∙ take-append most (marks_noted rows noted c) (marked_in rows noted c)
      ∙ ap (λ k. take most (marks_noted rows noted c) ++ take k (marked_in rows noted c)) f

  one-column : (c : ℕ) → length (marked_in rows noted c) ≤ 1
  one-column c = bcase (proper (span_in noted c)) (λ e. rw e (omega arith)) (λ e. rw e (omega arith))

  noted-few : (c : ℕ) → length (marks_noted rows noted c) ≤ c
  unfolding marks_noted
  noted-few zero = omega arith
  noted-few (suc c) =
      let e : suc c ≡ c + 1 = omega arith in
      omega (
        arith,
        noted-few c,
        one-column c,
        ap (λ k. length (marks_noted rows noted k)) e,
        ap length (noted-next c),
        length-append (marks_noted rows noted c) (marked_in rows noted c),
      )

  -- no more are taken than there are columns
  pub taken-few : (c most : ℕ) → length (take most (marks_noted rows noted c)) ≤ c
  taken-few c most = omega (arith, length-take most (marks_noted rows noted c), noted-few c)
