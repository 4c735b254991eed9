-- A number for each element, summed up over a list, beside a count; and pairs that pass, counted by either side (double counting).
-- Inductions on the list. How often rectangles hold the squares of a grid is such a sum.
use mathlib.Core.Path.{◌≡◌, refl, sym, ap, ap₂, subst, ◌∙◌}
use mathlib.Core.Bool.{Bool, true, cond}
use mathlib.Core.List.Memᴰ
use mathlib.Core.List.{List, [], ◌∷◌}
use Prim.Native.Nat.{ℕ, zero, suc, ◌+◌, ◌≤◌, ◌<◌}
use native.Mathlib.Omega.{arith}
use lib.ListN.{length, get_or}
use Rattle.lists.specs.Lists.{count}
use Rattle.lists.proofs.Truth.{bcase, fails}
use Rattle.lists.proofs.Members.{In, any_of, none_any}
use Rattle.lists.proofs.Keep.{count-zero, count_positive}
use Rattle.lists.proofs.Pairs.{in_at}
use Rattle.lists.proofs.Positions.{at_in}

module _ {ℓ} {A : Type ℓ} where
  abbrev pub total : (A → ℕ) → List A → ℕ
  total g [] = 0
  total g (x ∷ xs) = g x + total g xs

  pub total-same : (f g : A → ℕ) (xs : List A) → ((x : A) → In x xs → f x ≡ g x) → total f xs ≡ total g xs
  total-same f g [] h = refl
  total-same f g (x ∷ xs) h = ap₂ ◌+◌ (h x (Memᴰ.head refl)) (total-same f g xs (λ y m. h y (Memᴰ.tail m)))

  total-zero : (xs : List A) → total (λ x. 0) xs ≡ 0
  total-zero [] = refl
  total-zero (x ∷ xs) = omega (arith, total-zero xs)

  total-more : (p : A → Bool) (g : A → ℕ) (xs : List A) → total (λ x. cond (p x) 1 0 + g x) xs ≡ count p xs + total g xs
  total-more p g [] = refl
  total-more p g (x ∷ xs) = omega (arith, total-more p g xs)

  -- each element gives at least 1 where it passes: the count is at most the sum, and equal exactly where each gives 1 or 0 as it passes or not
  module _ (p : A → Bool) (g : A → ℕ) where
    pub count-below : (xs : List A) → ((x : A) → In x xs → cond (p x) 1 0 ≤ g x) → count p xs ≤ total g xs
    count-below [] h = omega arith
    count-below (x ∷ xs) h = omega (arith, h x (Memᴰ.head refl), count-below xs (λ y m. h y (Memᴰ.tail m)))

    pub equal_count : (xs : List A) → ((x : A) → In x xs → cond (p x) 1 0 ≡ g x) → count p xs ≡ total g xs
    equal_count [] h = refl
    equal_count (x ∷ xs) h = omega (arith, h x (Memᴰ.head refl), equal_count xs (λ y m. h y (Memᴰ.tail m)))

    pub count_equal : {x : A} {xs : List A} → ((y : A) → In y xs → cond (p y) 1 0 ≤ g y) → count p xs ≡ total g xs → In x xs → cond (p x) 1 0 ≡ g x
    count_equal h q (Memᴰ.head {x = z} {xs = zs} e) =
        let here : cond (p z) 1 0 ≡ g z = omega (arith, h z (Memᴰ.head refl), count-below zs (λ y m. h y (Memᴰ.tail m))) in
        subst (λ y. cond (p y) 1 0 ≡ g y) (sym e) here
    count_equal h q (Memᴰ.tail {x = z} {xs = zs} m) =
        let rest = count-below zs (λ y k. h y (Memᴰ.tail k)) in
        count_equal (λ y k. h y (Memᴰ.tail k)) (omega (arith, h z (Memᴰ.head refl))) m

  -- two places that pass
  pub count-two : (p : A → Bool) (xs : List A) (d : A) (j k : ℕ) → j < k → k < length xs → p (get_or xs j d) ≡ true → p (get_or xs k d) ≡ true → 2 ≤ count p xs
  count-two p [] d j k l u s t = absurd (omega arith)
  count-two p (x ∷ xs) d j zero l u s t = absurd (omega arith)
  count-two p (x ∷ xs) d zero (suc k) l u s t = rw s (omega (arith, count_positive p xs (any_of p (in_at xs d k (omega arith)) t)))
  count-two p (x ∷ xs) d (suc j) (suc k) l u s t = omega (arith, count-two p xs d j k (omega arith) (omega arith) s t)

  -- no two places pass
  pub count-one : (p : A → Bool) (xs : List A) (d : A) → ((j k : ℕ) → j < k → k < length xs → p (get_or xs j d) ≡ true → p (get_or xs k d) ≡ true → ⊥) → count p xs ≤ 1
  count-one p [] d h = omega arith
  count-one p (x ∷ xs) d h =
      bcase (p x)
      (λ u.
      let later = none_any p xs (λ y m. let k = at_in d m in fails (p y) (λ t. h 0 (suc k.0) (omega arith) (omega arith) u (ap p k.2 ∙ t))) in
      rw u (omega (arith, count-zero p xs later)))
      (λ u. rw u (omega (arith, count-one p xs d (λ j k l m. h (suc j) (suc k) (omega arith) (omega arith)))))

pub count_swap {ℓ κ} : {A : Type ℓ} {B : Type κ} (p : A → B → Bool) (xs : List A) (ys : List B)
    → total (λ x. count (p x) ys) xs ≡ total (λ y. count (λ x. p x y) xs) ys
count_swap p [] ys = sym (total-zero ys)
count_swap p (x ∷ xs) ys = omega (arith, count_swap p xs ys, total-more (p x) (λ y. count (λ z. p z y) xs) ys)
