-- Elements written one after the other, each as a block of numbers, and read back by place.
-- By induction on the elements: the first block is read as the first element, and past it a reader finds what it would find without it. Records in a room use it.
use mathlib.Core.Path.{◌≡◌, refl, ap, ap₂, ◌∙◌}
use mathlib.Core.List.{List, [], ◌∷◌, ◌++◌, map, append_assoc}
use Prim.Native.Nat.{ℕ, suc, ◌*◌}
use native.Mathlib.Omega.{arith}
use lib.ListN.{length, length-append}
use Rattle.lists.specs.Lists.{gather, from, up_to}
use Rattle.lists.proofs.Positions.{map_same, map-from}

module _ {ℓ κ} {A : Type ℓ} {B : Type κ} (block : A → List B) where
  pub blocks_length : (size : ℕ) → ((x : A) → length (block x) ≡ size) → (xs : List A) → length (gather block xs) ≡ length xs * size
  blocks_length size h [] = omega arith
  blocks_length size h (x ∷ xs) = length-append (block x) (gather block xs) ∙ omega (arith, h x, blocks_length size h xs)

  -- a reader of the k-th block
  module _ (read : List B → ℕ → A) (here : (x : A) (rest : List B) → read (block x ++ rest) 0 ≡ x)
      (later : (x : A) (rest : List B) (k : ℕ) → read (block x ++ rest) (suc k) ≡ read rest k) where
    past_first : (x : A) (rest : List B) (n : ℕ) → map (read (block x ++ rest)) (from 1 n) ≡ map (read rest) (up_to n)
    past_first x rest n = map-from (read (block x ++ rest)) 0 n ∙ map_same (λ k. read (block x ++ rest) (suc k)) (read rest) (up_to n) (later x rest)

    pub blocks_read : (xs : List A) (rest : List B) → map (read (gather block xs ++ rest)) (up_to (length xs)) ≡ xs
    blocks_read [] rest = refl
    blocks_read (x ∷ xs) rest =
        let others = gather block xs ++ rest in
        ap (λ room. map (read room) (up_to (suc (length xs)))) (append_assoc (block x) (gather block xs) rest)
        ∙ ap₂ ◌∷◌ (here x others) (past_first x others (length xs) ∙ blocks_read xs rest)
