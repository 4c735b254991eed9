-- Lists that are mapped: from another list, gathered, or numbered from 0, where place k has the value for k.
-- Inductions on the list or on its length. A table of bytes and a pass over its cells are such lists.
use mathlib.Core.Path.{◌≡◌, refl, sym, ap, ap₂, ◌∙◌}
use mathlib.Core.Bool.{Bool}
use mathlib.Core.List.Memᴰ
use mathlib.Core.List.{List, [], ◌∷◌, ◌++◌, map}
use mathlib.Core.Option
use Prim.Native.Nat.{ℕ, zero, suc, ◌+◌, ◌<◌}
use native.Mathlib.Omega.{arith}
use lib.ListN.{length, get_or, length-map}
use lib.Seq.{ext_get_or}
use Rattle.lists.specs.Lists.{first, gather, from, up_to}
use Rattle.lists.proofs.Truth.{bcase}
use Rattle.lists.proofs.Members.{In}
use Rattle.lists.proofs.Ranges.{length_from, map-append}

module _ {ℓ κ} {A : Type ℓ} {B : Type κ} where
  pub map_same : (f g : A → B) (xs : List A) → ((x : A) → In x xs → f x ≡ g x) → map f xs ≡ map g xs
  map_same f g [] h = refl
  map_same f g (x ∷ xs) h = ap₂ ◌∷◌ (h x (Memᴰ.head refl)) (map_same f g xs (λ y m. h y (Memᴰ.tail m)))

  pub first-map : (p : B → Bool) (f : A → B) (xs : List A) → first p (map f xs) ≡ Option.map f (first (λ x. p (f x)) xs)
  first-map p f [] = refl
  first-map p f (x ∷ xs) = bcase (p (f x)) (λ t. rw t) (λ t. rw t (first-map p f xs))

module _ {ℓ κ ι} {A : Type ℓ} {B : Type κ} {C : Type ι} where
  pub map-map : (g : B → C) (f : A → B) (xs : List A) → map g (map f xs) ≡ map (λ x. g (f x)) xs
  map-map g f [] = refl
  map-map g f (x ∷ xs) = ap (g (f x) ∷◌) (map-map g f xs)

  pub map-gather : (g : B → C) (f : A → List B) (xs : List A) → map g (gather f xs) ≡ gather (λ x. map g (f x)) xs
  map-gather g f [] = refl
  map-gather g f (x ∷ xs) = map-append g (f x) (gather f xs) ∙ ap (λ z. map g (f x) ++ z) (map-gather g f xs)

pub from_shift : (w a m : ℕ) → from (w + a) m ≡ map (λ r. w + r) (from a m)
from_shift w a zero = refl
from_shift w a (suc m) =
    let e : suc (w + a) ≡ w + suc a = omega arith in
    ap (λ z. (w + a) ∷ from z m) e ∙ ap ((w + a) ∷◌) (from_shift w (suc a) m)

at_from : (f : ℕ → ℕ) (a m k : ℕ) → k < m → get_or (map f (from a m)) k 0 ≡ f (a + k)
at_from f a zero k h = absurd (omega arith)
at_from f a (suc m) zero h = let e : a ≡ a + 0 = omega arith in ap f e
at_from f a (suc m) (suc k) h = let e : suc a + k ≡ a + suc k = omega arith in at_from f (suc a) m k (omega arith) ∙ ap f e

-- a numbered list: how long it is, what stands at place k, and what it takes to be one
module _ (f : ℕ → ℕ) (m : ℕ) where
  pub length-up_to : length (map f (up_to m)) ≡ m
  length-up_to = length-map (up_to m) f ∙ length_from 0 m

  pub at-up_to : (k : ℕ) → k < m → get_or (map f (up_to m)) k 0 ≡ f k
  at-up_to k h = let e : 0 + k ≡ k = omega arith in at_from f 0 m k h ∙ ap f e

  pub is-up_to : (t : List ℕ) → length t ≡ m → ((k : ℕ) → k < m → get_or t k 0 ≡ f k) → t ≡ map f (up_to m)
  is-up_to t e h =
      let d = length-up_to in
      ext_get_or 0 t (map f (up_to m)) (e ∙ sym length-up_to) (λ k u. h k (omega arith) ∙ sym (at-up_to k (omega arith)))
