-- What `keep` keeps and `count` counts.
-- Inductions on the list, each with the two cases of the test at its head.
use mathlib.Core.Path.{◌≡◌, refl, sym, ap, ◌∙◌}
use mathlib.Core.Bool.{Bool, true, false, not, ◌&&◌, false≢true}
use mathlib.Core.List.Memᴰ
use mathlib.Core.List.{List, [], ◌∷◌, ◌++◌}
use mathlib.Core.Logic.{⊎_elim}
use Prim.Native.Nat.{◌+◌, ◌≤◌, ◌<◌}
use native.Mathlib.Omega.{arith}
use lib.ListN.{length}
use Rattle.lists.specs.Lists.{keep, count, any, first}
use Rattle.lists.proofs.Truth.{bcase}
use Rattle.lists.proofs.Members.{In}

module _ {ℓ} {A : Type ℓ} where
  pub keep_same : (p q : A → Bool) (xs : List A) → ((x : A) → In x xs → p x ≡ q x) → keep p xs ≡ keep q xs
  keep_same p q [] h = refl
  keep_same p q (x ∷ xs) h = rw (h x (Memᴰ.head refl), keep_same p q xs (λ y m. h y (Memᴰ.tail m)))

  pub keep-keep : (p q : A → Bool) (xs : List A) → keep q (keep p xs) ≡ keep (λ x. p x && q x) xs
  keep-keep p q [] = refl
  keep-keep p q (x ∷ xs) = bcase (p x) (λ u. rw (u, keep-keep p q xs)) (λ u. rw u (keep-keep p q xs))

  pub keep_all : (p : A → Bool) (xs : List A) → ((x : A) → In x xs → p x ≡ true) → keep p xs ≡ xs
  keep_all p [] h = refl
  keep_all p (x ∷ xs) h = rw (h x (Memᴰ.head refl)) (ap (x ∷◌) (keep_all p xs (λ y m. h y (Memᴰ.tail m))))

  pub keep-none : (p : A → Bool) (xs : List A) → ((x : A) → In x xs → p x ≡ false) → keep p xs ≡ []
  keep-none p [] h = refl
  keep-none p (x ∷ xs) h = rw (h x (Memᴰ.head refl)) (keep-none p xs (λ y m. h y (Memᴰ.tail m)))

  pub keep_append : (p : A → Bool) (xs ys : List A) → keep p (xs ++ ys) ≡ keep p xs ++ keep p ys
  keep_append p [] ys = refl
  keep_append p (x ∷ xs) ys = bcase (p x) (λ u. rw (u, keep_append p xs ys)) (λ u. rw u (keep_append p xs ys))

  pub any-keep : (p q : A → Bool) (xs : List A) → any q (keep p xs) ≡ any (λ x. p x && q x) xs
  any-keep p q [] = refl
  any-keep p q (x ∷ xs) = bcase (p x) (λ u. rw (u, any-keep p q xs)) (λ u. rw u (any-keep p q xs))

  pub first-keep : (p q : A → Bool) (xs : List A) → first q (keep p xs) ≡ first (λ x. p x && q x) xs
  first-keep p q [] = refl
  first-keep p q (x ∷ xs) = bcase (p x) (λ u. rw (u, first-keep p q xs)) (λ u. rw u (first-keep p q xs))

  -- what is kept is there and passes
  pub kept : (p : A → Bool) {x : A} (xs : List A) → In x (keep p xs) → In x xs × (p x ≡ true)
  kept p [] m = absurd (Memᴰ.not-nil m)
  kept p {x} (y ∷ ys) m =
      bcase (p y)
      (λ u.
      ⊎_elim
      (λ e. (Memᴰ.head e, ap p e ∙ u))
      (λ k. let r = kept p ys k in (Memᴰ.tail r.0, r.1))
      (Memᴰ.cases_cons (rw u at m)))
      (λ u. let r = kept p ys (rw u at m) in (Memᴰ.tail r.0, r.1))

  pub keeps : (p : A → Bool) {x : A} {xs : List A} → In x xs → p x ≡ true → In x (keep p xs)
  keeps p (Memᴰ.head e) t = rw (sym (ap p e) ∙ t) (Memᴰ.head e)
  keeps p (Memᴰ.tail {x = y} m) t = bcase (p y) (λ u. rw u (Memᴰ.tail (keeps p m t))) (λ u. rw u (keeps p m t))

  pub count-keep : (p q : A → Bool) (xs : List A) → count q (keep p xs) ≡ count (λ x. p x && q x) xs
  count-keep p q [] = refl
  count-keep p q (x ∷ xs) = bcase (p x) (λ u. rw (u, count-keep p q xs)) (λ u. rw u (count-keep p q xs ∙ omega arith))

  pub count_same : (p q : A → Bool) (xs : List A) → ((x : A) → In x xs → p x ≡ q x) → count p xs ≡ count q xs
  count_same p q [] h = refl
  count_same p q (x ∷ xs) h = rw (h x (Memᴰ.head refl), count_same p q xs (λ y m. h y (Memᴰ.tail m)))

  -- what is kept, and what is not
  pub count-length : (p : A → Bool) (xs : List A) → length (keep p xs) ≡ count p xs
  count-length p [] = refl
  count-length p (x ∷ xs) = bcase (p x) (λ u. rw u (omega (arith, count-length p xs))) (λ u. rw u (omega (arith, count-length p xs)))

  pub count-rest : (p : A → Bool) (xs : List A) → length (keep (λ x. not (p x)) xs) + count p xs ≡ length xs
  count-rest p [] = refl
  count-rest p (x ∷ xs) = bcase (p x) (λ u. rw u (omega (arith, count-rest p xs))) (λ u. rw u (omega (arith, count-rest p xs)))

  pub count-zero : (p : A → Bool) (xs : List A) → any p xs ≡ false → count p xs ≡ 0
  count-zero p [] e = refl
  count-zero p (x ∷ xs) e = bcase (p x) (λ u. absurd (false≢true (sym (rw u at e)))) (λ u. rw u (omega (arith, count-zero p xs (rw u at e))))

  pub count_positive : (p : A → Bool) (xs : List A) → any p xs ≡ true → 1 ≤ count p xs
  count_positive p [] e = absurd (false≢true e)
  count_positive p (x ∷ xs) e = bcase (p x) (λ u. rw u (omega arith)) (λ u. rw u (omega (arith, count_positive p xs (rw u at e))))

  pub count-any : (p : A → Bool) (xs : List A) → 1 ≤ count p xs → any p xs ≡ true
  count-any p xs h = bcase (any p xs) (λ t. t) (λ f. absurd (omega (arith, count-zero p xs f)))

  -- a weaker test counts at least as much
  pub count_le : (p q : A → Bool) (xs : List A) → ((x : A) → In x xs → p x ≡ true → q x ≡ true) → count p xs ≤ count q xs
  count_le p q [] h = omega arith
  count_le p q (x ∷ xs) h =
      let r = count_le p q xs (λ y m. h y (Memᴰ.tail m)) in
      bcase (p x)
      (λ u. rw (u, h x (Memᴰ.head refl) u) (omega arith))
      (λ u. rw u (omega arith))

  -- and more where it alone passes
  pub count_lt : (p q : A → Bool) {x : A} {xs : List A} → ((y : A) → In y xs → p y ≡ true → q y ≡ true) → In x xs → p x ≡ false → q x ≡ true
      → count p xs < count q xs
  count_lt p q h (Memᴰ.head {xs = ys} e) f t =
      rw (sym (ap p e) ∙ f, sym (ap q e) ∙ t) (omega (arith, count_le p q ys (λ y m. h y (Memᴰ.tail m))))
  count_lt p q h (Memᴰ.tail {x = y} m) f t =
      let r = count_lt p q (λ z k. h z (Memᴰ.tail k)) m f t in
      bcase (p y)
      (λ u. rw (u, h y (Memᴰ.head refl) u) (omega arith))
      (λ u. rw u (omega arith))

pub empty {ℓ} : {A : Type ℓ} (xs : List A) → length xs ≡ 0 → xs ≡ []
empty [] e = refl
empty (x ∷ xs) e = absurd (omega arith)

pub not-empty {ℓ} : {A : Type ℓ} {x : A} {xs : List A} → x ∷ xs ≡ [] → ⊥
not-empty e = omega (arith, ap length e)

pub count-at-most {ℓ} : {A : Type ℓ} (p : A → Bool) (xs : List A) → count p xs ≤ length xs
count-at-most p xs = omega (arith, count-rest p xs)
