-- Each element of a list against every later one.
-- By recursion on the list; at two places, by counting down the earlier.
use mathlib.Core.Path.{refl}
use mathlib.Core.List.Memᴰ
use mathlib.Core.List.{List, [], ◌∷◌}
use Prim.Native.Nat.{ℕ, zero, suc, ◌<◌}
use native.Mathlib.Omega.{arith}
use lib.ListN.{length, get_or}
use Rattle.lists.proofs.Members.{In}

module _ {ℓ κ} {A : Type ℓ} where
  -- R holds between each element and every later one
  abbrev pub Pairs : (A → A → Type κ) → List A → Type (ℓ ⊔ κ)
  Pairs R [] = Unit
  Pairs R (x ∷ xs) = ((y : A) → In y xs → R x y) × Pairs R xs

pub in_at {ℓ} : {A : Type ℓ} (xs : List A) (d : A) (i : ℕ) → i < length xs → In (get_or xs i d) xs
in_at [] d i h = absurd (omega arith)
in_at (x ∷ xs) d zero h = Memᴰ.head refl
in_at (x ∷ xs) d (suc i) h = Memᴰ.tail (in_at xs d i (omega arith))

-- the same by places
pub pairs_at {ℓ κ} : {A : Type ℓ} (R : A → A → Type κ) (xs : List A) → Pairs R xs → (d : A) (i j : ℕ) → i < j → j < length xs → R (get_or xs i d) (get_or xs j d)
pairs_at R [] p d i j h k = absurd (omega arith)
pairs_at R (x ∷ xs) p d i zero h k = absurd (omega arith)
pairs_at R (x ∷ xs) p d zero (suc j) h k = p.0 (get_or xs j d) (in_at xs d j (omega arith))
pairs_at R (x ∷ xs) p d (suc i) (suc j) h k = pairs_at R xs p.1 d i j (omega arith) (omega arith)

-- a weaker relation, shown where the later one is in the list
pub pairs_weaker {ℓ κ} : {A : Type ℓ} (R Q : A → A → Type κ) (xs : List A) → ((x y : A) → In y xs → R x y → Q x y) → Pairs R xs → Pairs Q xs
pairs_weaker R Q [] h p = tt
pairs_weaker R Q (x ∷ xs) h p =
    (λ y m. h x y (Memᴰ.tail m) (p.0 y m), pairs_weaker R Q xs (λ z y m. h z y (Memᴰ.tail m)) p.1)
