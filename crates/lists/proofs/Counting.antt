-- How a count adds up over lists that are joined or mapped, and the one number of a range that equals v.
-- Inductions on the list or on the length of the range. The counts of boxes and the jumps of a staircase use them.
use mathlib.Core.Path.{◌≡◌, refl, ap, ◌∙◌}
use mathlib.Core.Logic.{by_cases}
use mathlib.Core.Bool.{Bool, true, cond}
use mathlib.Core.List.{List, [], ◌∷◌, ◌++◌, map}
use Prim.Native.Nat.{ℕ, zero, suc, ◌+◌, ◌≤◌, ◌<◌}
use native.Mathlib.Omega.{arith}
use native.Mathlib.Decide.{ℕ_discrete}
use lib.Dec.{eqb}
use lib.ListN.{length}
use borrow.Author.Tests.{eq-eqb, ne_eqb}
use Rattle.lists.specs.Lists.{keep, count, from}
use Rattle.lists.proofs.Keep.{keep-none}
use Rattle.lists.proofs.Ranges.{from_in}

module _ {ℓ} {A : Type ℓ} where
  pub count-append : (p : A → Bool) (xs ys : List A) → count p (xs ++ ys) ≡ count p xs + count p ys
  count-append p [] ys = omega arith
  count-append p (x ∷ xs) ys = omega (arith, count-append p xs ys)

  pub count_map {κ} : {B : Type κ} (p : B → Bool) (f : A → B) (xs : List A) → count p (map f xs) ≡ count (λ x. p (f x)) xs
  count_map p f [] = refl
  count_map p f (x ∷ xs) = ap (λ z. cond (p (f x)) 1 0 + z) (count_map p f xs)

  pub length-count : (xs : List A) → length xs ≡ count (λ x. true) xs
  length-count [] = refl
  length-count (x ∷ xs) = omega (arith, length-count xs)

pub keep_one : (v a n : ℕ) → a ≤ v → v < a + n → keep (λ x. eqb x v) (from a n) ≡ v ∷ []
keep_one v a zero l u = absurd (omega arith)
keep_one v a (suc n) l u =
    by_cases (ℕ_discrete a v)
    (λ e.
    rw (eq-eqb a v e)
    (ap (λ z. z ∷ keep (λ x. eqb x v) (from (suc a) n)) e
    ∙ ap (λ z. v ∷ z) (keep-none (λ x. eqb x v) (from (suc a) n) (λ x m. let b = from_in (suc a) n m in ne_eqb x v (omega arith)))))
    (λ e. rw (ne_eqb a v e) (keep_one v (suc a) n (omega arith) (omega arith)))
