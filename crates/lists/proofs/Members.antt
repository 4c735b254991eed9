-- Membership in a list, and what `any`, `all` and `first` say by it.
-- Each law is an induction on the list, or on the place of the member in it.
use mathlib.Core.Path.{◌≡◌, refl, sym, ap, ◌∙◌}
use mathlib.Core.Bool.{Bool, true, false, ◌||◌, false≢true}
use mathlib.Core.List.{List, [], ◌∷◌, ◌++◌, Memᴰ}
use mathlib.Core.Option.{none, some}
use Rattle.lists.specs.Lists.{any, all, first}
use Rattle.lists.proofs.Truth.{bcase, ocase, missing, never, fails, and_left, and_right}

module _ {ℓ} {A : Type ℓ} where
  -- x is one of xs, at a place
  abbrev pub In : A → List A → Type ℓ
  In x xs = Memᴰ x xs

  pub any_of : (p : A → Bool) {x : A} {xs : List A} → In x xs → p x ≡ true → any p xs ≡ true
  any_of p (Memᴰ.head {x = y} e) t = let u : p y ≡ true = sym (ap p e) ∙ t in rw u
  any_of p (Memᴰ.tail {x = y} m) t = bcase (p y) (λ u. rw u) (λ u. rw u (any_of p m t))

  pub any_found : (p : A → Bool) (xs : List A) → any p xs ≡ true → (x : A) × In x xs × (p x ≡ true)
  any_found p [] t = absurd (false≢true t)
  any_found p (x ∷ xs) t =
      bcase (p x)
      (λ u. (x, Memᴰ.head refl, u))
      (λ u. let r = any_found p xs (rw u at t) in (r.0, Memᴰ.tail r.1, r.2))

  pub any_none : (p : A → Bool) {x : A} {xs : List A} → In x xs → any p xs ≡ false → p x ≡ false
  any_none p {x} m f = fails (p x) (λ t. never (any_of p m t) f)

  -- no element passes
  pub none_any : (p : A → Bool) (xs : List A) → ((x : A) → In x xs → p x ≡ false) → any p xs ≡ false
  none_any p xs h = fails (any p xs) (λ t. let r = any_found p xs t in never r.2 (h r.0 r.1))

  pub any_same : (p q : A → Bool) (xs : List A) → ((x : A) → In x xs → p x ≡ q x) → any p xs ≡ any q xs
  any_same p q [] h = refl
  any_same p q (x ∷ xs) h = rw (h x (Memᴰ.head refl), any_same p q xs (λ y m. h y (Memᴰ.tail m)))

  pub any_append : (p : A → Bool) (xs ys : List A) → any p (xs ++ ys) ≡ (any p xs || any p ys)
  any_append p [] ys = refl
  any_append p (x ∷ xs) ys = bcase (p x) (λ u. rw u) (λ u. rw u (any_append p xs ys))

  pub all_of : (p : A → Bool) {x : A} {xs : List A} → all p xs ≡ true → In x xs → p x ≡ true
  all_of p t (Memᴰ.head {x = y} {xs = ys} e) = ap p e ∙ and_left (p y) (all p ys) t
  all_of p t (Memᴰ.tail {x = y} {xs = ys} m) = all_of p (and_right (p y) (all p ys) t) m

  pub all_if : (p : A → Bool) (xs : List A) → ((x : A) → In x xs → p x ≡ true) → all p xs ≡ true
  all_if p [] h = refl
  all_if p (x ∷ xs) h = rw (h x (Memᴰ.head refl)) (all_if p xs (λ y m. h y (Memᴰ.tail m)))

  pub all_same : (p q : A → Bool) (xs : List A) → ((x : A) → In x xs → p x ≡ q x) → all p xs ≡ all q xs
  all_same p q [] h = refl
  all_same p q (x ∷ xs) h = rw (h x (Memᴰ.head refl), all_same p q xs (λ y m. h y (Memᴰ.tail m)))

  -- what `first` finds passes
  pub first_found : (p : A → Bool) (xs : List A) {x : A} → first p xs ≡ some x → In x xs × (p x ≡ true)
  first_found p [] e = absurd (missing refl e)
  first_found p (y ∷ ys) {x} e =
      bcase (p y)
      (λ u. let q : x ≡ y = cc in (Memᴰ.head q, ap p q ∙ u))
      (λ u. let r = first_found p ys (rw u at e) in (Memᴰ.tail r.0, r.1))

  pub first-none : (p : A → Bool) (xs : List A) → first p xs ≡ none → {x : A} → In x xs → p x ≡ false
  first-none p [] e m = elim m [ ]
  first-none p (y ∷ ys) e {x} (Memᴰ.head q) = fails (p x) (λ t. missing (rw (sym (ap p q) ∙ t) at e) refl)
  first-none p (y ∷ ys) e {x} (Memᴰ.tail m) = bcase (p y) (λ u. absurd (missing (rw u at e) refl)) (λ u. first-none p ys (rw u at e) m)

  pub none_first : (p : A → Bool) (xs : List A) → ((x : A) → In x xs → p x ≡ false) → first p xs ≡ none
  none_first p [] h = refl
  none_first p (x ∷ xs) h = rw (h x (Memᴰ.head refl)) (none_first p xs (λ y m. h y (Memᴰ.tail m)))

  -- the only one that passes is what `first` finds
  pub first-only : (p : A → Bool) (xs : List A) {x : A} → In x xs → p x ≡ true → ((y : A) → In y xs → p y ≡ true → y ≡ x) → first p xs ≡ some x
  first-only p xs {x} m t h =
      ocase (first p xs)
      (λ e. absurd (never t (first-none p xs e m)))
      (λ y e. let r = first_found p xs e in e ∙ ap some (h y r.0 r.1))

  pub first-same : (p q : A → Bool) (xs : List A) → ((x : A) → In x xs → p x ≡ q x) → first p xs ≡ first q xs
  first-same p q [] h = refl
  first-same p q (x ∷ xs) h = rw (h x (Memᴰ.head refl), first-same p q xs (λ y m. h y (Memᴰ.tail m)))

  pub first-append-none : (p : A → Bool) (xs ys : List A) → first p xs ≡ none → first p (xs ++ ys) ≡ first p ys
  first-append-none p [] ys e = refl
  first-append-none p (x ∷ xs) ys e = bcase (p x) (λ u. absurd (missing (rw u at e) refl)) (λ u. rw u (first-append-none p xs ys (rw u at e)))

  pub first-append-some : (p : A → Bool) (xs ys : List A) {x : A} → first p xs ≡ some x → first p (xs ++ ys) ≡ some x
  first-append-some p [] ys e = absurd (missing refl e)
  first-append-some p (x ∷ xs) ys e = bcase (p x) (λ u. rw u (rw u at e)) (λ u. rw u (first-append-some p xs ys (rw u at e)))
