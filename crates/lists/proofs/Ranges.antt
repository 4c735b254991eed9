-- Ranges of numbers, lists gathered over them, and the least number that passes a test.
-- Inductions on the length of the range, or on the list.
use mathlib.Core.Path.{◌≡◌, refl, sym, ap, subst, ◌∙◌}
use mathlib.Core.Bool.{Bool, true, false}
use mathlib.Core.List.Memᴰ
use mathlib.Core.List.{List, [], ◌∷◌, ◌++◌, map, append_assoc}
use mathlib.Core.Logic.{by_cases, ⊎_elim}
use mathlib.Core.Option.{some, some-injective}
use Prim.Native.Nat.{ℕ, zero, suc, ◌+◌, ◌-◌, ◌≤◌, ◌<◌}
use native.Mathlib.Omega.{arith}
use native.Mathlib.Decide.{ℕ_discrete}
use lib.ListN.{length}
use Rattle.lists.specs.Lists.{keep, first, gather, from}
use Rattle.lists.proofs.Truth.{bcase, ocase, never, missing}
use Rattle.lists.proofs.Members.{In, first_found, first-none}
use Rattle.lists.proofs.Keep.{keep_append}

pub length_from : (a n : ℕ) → length (from a n) ≡ n
length_from a zero = refl
length_from a (suc n) = ap suc (length_from (suc a) n)

pub from_in : (a n : ℕ) {x : ℕ} → In x (from a n) → (a ≤ x) × (x < a + n)
from_in a zero m = absurd (Memᴰ.not-nil m)
from_in a (suc n) m = ⊎_elim (λ e. omega arith) (λ k. let r = from_in (suc a) n k in omega arith) (Memᴰ.cases_cons m)

pub in_from : (a n x : ℕ) → a ≤ x → x < a + n → In x (from a n)
in_from a zero x l u = absurd (omega arith)
in_from a (suc n) x l u = by_cases (ℕ_discrete x a) (λ e. Memᴰ.head e) (λ h. Memᴰ.tail (in_from (suc a) n x (omega arith) (omega arith)))

pub from-append : (a m n : ℕ) → from a (m + n) ≡ from a m ++ from (a + m) n
from-append a zero n = let e : 0 + n ≡ n = omega arith in let f : a + 0 ≡ a = omega arith in rw (e, f)
from-append a (suc m) n =
    let e : suc m + n ≡ suc (m + n) = omega arith in
    let f : a + suc m ≡ suc a + m = omega arith in
    rw (e, f) (ap (a ∷◌) (from-append (suc a) m n))

-- what `first` finds in a range is the least that passes
pub first-from : (p : ℕ → Bool) (a n : ℕ) {x : ℕ} → first p (from a n) ≡ some x → (y : ℕ) → a ≤ y → y < x → p y ≡ false
first-from p a zero e y l u = absurd (missing refl e)
first-from p a (suc n) {x} e y l u =
    bcase (p a)
    (λ t. let q : a ≡ x = some-injective a x (rw t at e) in absurd (omega arith))
    (λ f. by_cases (ℕ_discrete y a) (λ q. ap p q ∙ f) (λ h. first-from p (suc a) n (rw f at e) y (omega arith) u))

-- a number that passes has a least one before it
pub least_passing : (p : ℕ → Bool) (a b : ℕ) → a ≤ b → p b ≡ true
    → (x : ℕ) × (a ≤ x) × (x ≤ b) × (p x ≡ true) × ((y : ℕ) → a ≤ y → y < x → p y ≡ false)
least_passing p a b h t =
    let k = suc (b - a) in
    ocase (first p (from a k))
    (λ e. absurd (never t (first-none p (from a k) e (in_from a k b h (omega arith)))))
    (λ x e.
    let f = first_found p (from a k) e in
    let g = from_in a k f.0 in
    (x, g.0, omega arith, f.1, first-from p a k e))

module _ {ℓ κ} {A : Type ℓ} {B : Type κ} where
  pub in_map : (f : A → B) {x : A} {xs : List A} → In x xs → In (f x) (map f xs)
  in_map f (Memᴰ.head e) = Memᴰ.head (ap f e)
  in_map f (Memᴰ.tail m) = Memᴰ.tail (in_map f m)

  pub map_in : (f : A → B) {y : B} (xs : List A) → In y (map f xs) → (x : A) × In x xs × (y ≡ f x)
  map_in f [] m = absurd (Memᴰ.not-nil m)
  map_in f (x ∷ xs) m =
      ⊎_elim
      (λ e. (x, Memᴰ.head refl, e))
      (λ k. let r = map_in f xs k in (r.0, Memᴰ.tail r.1, r.2))
      (Memᴰ.cases_cons m)

  pub keep-map : (f : A → B) (p : B → Bool) (xs : List A) → keep p (map f xs) ≡ map f (keep (λ x. p (f x)) xs)
  keep-map f p [] = refl
  keep-map f p (x ∷ xs) = bcase (p (f x)) (λ u. rw (u, keep-map f p xs)) (λ u. rw u (keep-map f p xs))

  pub map-append : (f : A → B) (xs ys : List A) → map f (xs ++ ys) ≡ map f xs ++ map f ys
  map-append f [] ys = refl
  map-append f (x ∷ xs) ys = ap (f x ∷◌) (map-append f xs ys)

  pub in_gather : (f : A → List B) {x : A} {y : B} {xs : List A} → In x xs → In y (f x) → In y (gather f xs)
  in_gather f {y} (Memᴰ.head {xs = xs} e) k = Memᴰ.append_left (gather f xs) (subst (λ z. In y (f z)) e k)
  in_gather f (Memᴰ.tail {x = z} m) k = Memᴰ.append_right (f z) (in_gather f m k)

  pub gather_in : (f : A → List B) {y : B} (xs : List A) → In y (gather f xs) → (x : A) × In x xs × In y (f x)
  gather_in f [] m = absurd (Memᴰ.not-nil m)
  gather_in f (x ∷ xs) m =
      ⊎_elim
      (λ k. (x, Memᴰ.head refl, k))
      (λ k. let r = gather_in f xs k in (r.0, Memᴰ.tail r.1, r.2))
      (Memᴰ.append_cases (f x) m)

  pub gather_append : (f : A → List B) (xs ys : List A) → gather f (xs ++ ys) ≡ gather f xs ++ gather f ys
  gather_append f [] ys = refl
  gather_append f (x ∷ xs) ys = ap (f x ++◌) (gather_append f xs ys) ∙ sym (append_assoc (f x) (gather f xs) (gather f ys))

  pub gather-same : (f g : A → List B) (xs : List A) → ((x : A) → In x xs → f x ≡ g x) → gather f xs ≡ gather g xs
  gather-same f g [] h = refl
  gather-same f g (x ∷ xs) h = rw (h x (Memᴰ.head refl), gather-same f g xs (λ y m. h y (Memᴰ.tail m)))

  pub gather_none : (f : A → List B) (xs : List A) → ((x : A) → In x xs → f x ≡ []) → gather f xs ≡ []
  gather_none f [] h = refl
  gather_none f (x ∷ xs) h = rw (h x (Memᴰ.head refl)) (gather_none f xs (λ y m. h y (Memᴰ.tail m)))

  pub keep-gather : (p : B → Bool) (f : A → List B) (xs : List A) → keep p (gather f xs) ≡ gather (λ x. keep p (f x)) xs
  keep-gather p f [] = refl
  keep-gather p f (x ∷ xs) = keep_append p (f x) (gather f xs) ∙ ap (keep p (f x) ++◌) (keep-gather p f xs)
