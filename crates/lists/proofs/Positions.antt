-- Places in a list: where a member stands; and `take` and `map`, element by element.
-- Inductions on the list. Records that are read by place use them.
use mathlib.Core.Path.{◌≡◌, refl, sym, ap}
use mathlib.Core.List.Memᴰ
use mathlib.Core.List.{List, [], ◌∷◌, map}
use mathlib.Core.Logic.{⊎_elim}
use Prim.Native.Nat.{ℕ, zero, suc, ◌<◌}
use native.Mathlib.Omega.{arith}
use lib.ListN.{length, get_or, take}
use Rattle.lists.specs.Lists.{from}
use Rattle.lists.proofs.Members.{In}

module _ {ℓ} {A : Type ℓ} where
  -- a member stands at a place
  pub at_in : {x : A} {xs : List A} (d : A) → In x xs → (k : ℕ) × (k < length xs) × (get_or xs k d ≡ x)
  at_in d (Memᴰ.head e) = (0, omega arith, sym e)
  at_in d (Memᴰ.tail m) = let r = at_in d m in (suc r.0, omega arith, r.2)

  pub take_in : (k : ℕ) (xs : List A) {x : A} → In x (take k xs) → In x xs
  take_in zero xs m = absurd (Memᴰ.not-nil m)
  take_in (suc k) [] m = m
  take_in (suc k) (y ∷ ys) m = ⊎_elim (λ e. Memᴰ.head e) (λ n. Memᴰ.tail (take_in k ys n)) (Memᴰ.cases_cons m)

module _ {ℓ κ} {A : Type ℓ} {B : Type κ} where
  pub map_same : (f g : A → B) (xs : List A) → ((x : A) → f x ≡ g x) → map f xs ≡ map g xs
  map_same f g [] h = refl
  map_same f g (x ∷ xs) h = rw (h x, map_same f g xs h)

-- counted from one further on
pub map-from {ℓ} : {B : Type ℓ} (f : ℕ → B) (a n : ℕ) → map f (from (suc a) n) ≡ map (λ k. f (suc k)) (from a n)
map-from f a zero = refl
map-from f a (suc n) = ap (f (suc a) ∷◌) (map-from f (suc a) n)
