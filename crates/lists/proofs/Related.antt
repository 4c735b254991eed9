-- Laws of `Pairs`, R between each element and every later one: what is kept, joined, mapped or gathered.
-- Each is an induction on the list; lists in order and lists of marks use them.
use mathlib.Core.Path.{◌≡◌, refl, sym, ◌∙◌}
use mathlib.Core.Bool.{Bool}
use mathlib.Core.List.Memᴰ
use mathlib.Core.List.{List, [], ◌∷◌, ◌++◌, map}
use mathlib.Core.Logic.{◌⊎◌, inl, inr, ⊎_elim}
use Prim.Native.Nat.{ℕ, zero, suc, ◌<◌}
use Rattle.lists.specs.Lists.{keep, gather, from}
use Rattle.lists.proofs.Truth.{bcase}
use Rattle.lists.proofs.Members.{In}
use Rattle.lists.proofs.Keep.{kept}
use Rattle.lists.proofs.Ranges.{from_in, map_in, gather_in}
use Rattle.lists.proofs.Pairs.{Pairs}

module _ {ℓ κ} {A : Type ℓ} where
  pub pairs_keep : (R : A → A → Type κ) (p : A → Bool) (xs : List A) → Pairs R xs → Pairs R (keep p xs)
  pairs_keep R p [] r = r
  pairs_keep R p (x ∷ xs) r =
      bcase (p x)
      (λ u. rw u (λ y m. r.0 y (kept p xs m).0, pairs_keep R p xs r.1))
      (λ u. rw u (pairs_keep R p xs r.1))

  pub pairs_append : (R : A → A → Type κ) (xs ys : List A) → Pairs R xs → Pairs R ys → ((x y : A) → In x xs → In y ys → R x y) → Pairs R (xs ++ ys)
  pairs_append R [] ys r s h = s
  pairs_append R (x ∷ xs) ys r s h = (
    λ y m. ⊎_elim (λ k. r.0 y k) (λ k. h x y (Memᴰ.head refl) k) (Memᴰ.append_cases xs m),
    pairs_append R xs ys r.1 s (λ u v k l. h u v (Memᴰ.tail k) l),
  )

  -- of two members one stands first, or they are one
  pub pairs_in : (R : A → A → Type κ) (xs : List A) → Pairs R xs → {x y : A} → In x xs → In y xs → (x ≡ y) ⊎ (R x y ⊎ R y x)
  pairs_in R [] r m n = absurd (Memᴰ.not-nil m)
  pairs_in R (z ∷ xs) r {x} {y} m n =
      ⊎_elim
      (λ e. ⊎_elim (λ f. inl (e ∙ sym f)) (λ l. inr (inl (rw e (r.0 y l)))) (Memᴰ.cases_cons n))
      (λ k. ⊎_elim (λ f. inr (inr (rw f (r.0 x k)))) (λ l. pairs_in R xs r.1 k l) (Memᴰ.cases_cons n))
      (Memᴰ.cases_cons m)

pub pairs_weaken {ℓ κ μ} : {A : Type ℓ} (R : A → A → Type κ) (S : A → A → Type μ) (xs : List A)
    → ((x y : A) → In x xs → In y xs → R x y → S x y) → Pairs R xs → Pairs S xs
pairs_weaken R S [] h r = tt
pairs_weaken R S (x ∷ xs) h r = (
  λ y m. h x y (Memᴰ.head refl) (Memᴰ.tail m) (r.0 y m),
  pairs_weaken R S xs (λ u v k l. h u v (Memᴰ.tail k) (Memᴰ.tail l)) r.1,
)

pub pairs_map {ℓ κ μ} : {A : Type ℓ} {B : Type κ} (R : B → B → Type μ) (f : A → B) (xs : List A) → Pairs (λ x y. R (f x) (f y)) xs → Pairs R (map f xs)
pairs_map R f [] r = tt
pairs_map R f (x ∷ xs) r = (λ y m. let q = map_in f xs m in rw q.2 (r.0 q.0 q.1), pairs_map R f xs r.1)

module _ {ℓ κ μ} {A : Type ℓ} {B : Type κ} where
  -- lists joined: within each, and between any two
  pub pairs_gather : (R : B → B → Type μ) (f : A → List B) (xs : List A) → ((x : A) → In x xs → Pairs R (f x))
      → Pairs (λ x y. (u v : B) → In u (f x) → In v (f y) → R u v) xs → Pairs R (gather f xs)
  pairs_gather R f [] h r = tt
  pairs_gather R f (x ∷ xs) h r =
      pairs_append R (f x) (gather f xs) (h x (Memᴰ.head refl)) (pairs_gather R f xs (λ y m. h y (Memᴰ.tail m)) r.1)
      (λ u v k l. let g = gather_in f xs l in r.0 g.0 g.1 u v k g.2)

pub from-rise : (a n : ℕ) → Pairs (λ x y. x < y) (from a n)
from-rise a zero = tt
from-rise a (suc n) = (λ y m. (from_in (suc a) n m).0, from-rise (suc a) n)
