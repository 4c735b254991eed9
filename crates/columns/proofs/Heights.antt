-- The heights of columns, summed up one column after the other; the columns are taken from the fronts of two slices.
-- `heights` uses it.
use mathlib.Core.Path.{◌≡◌, refl, sym, ap, ◌∙◌}
use mathlib.Core.List.{List, [], ◌∷◌}
use mathlib.Core.Logic.{by_cases}
use Prim.Native.Nat.{ℕ, ◌+◌, ◌-◌, ◌≤◌, ◌<◌}
use native.Mathlib.Decide.{dec_lt}
use native.Mathlib.Numerals.{add-one}
use native.Mathlib.Omega.{arith}
use lib.ListN.{length, get_or, take, drop, length-drop, drop_of_length-le}
use lib.Seq.{get_or-take, length-take-le}
use Rattle.grid.proofs.Writing.{drop-next}
use Rattle.columns.specs.Columns.{heights_to}

pub heights-none : (bottoms ends : List ℕ) → 0 ≡ heights_to 0 bottoms ends
unfolding heights_to
heights-none bottoms ends = refl

pub heights-next : (bottoms ends : List ℕ) (c n r : ℕ) → n ≡ heights_to c bottoms ends → r ≡ n + (get_or ends c 0 - get_or bottoms c 0) → r ≡ heights_to (c + 1) bottoms ends
unfolding heights_to
heights-next bottoms ends c n r e q = rw (add-one c) (q ∙ ap (λ z. z + (get_or ends c 0 - get_or bottoms c 0)) e)

-- what stands at the front of what is left of the first w numbers
pub record Front (xs : List ℕ) (w k b : ℕ) (rest : List ℕ) : Type 0 where
  pub inside : k < w
  pub at : b ≡ get_or xs k 0
  pub left : rest ≡ drop (k + 1) (take w xs)

pub front : (xs : List ℕ) (w k b : ℕ) (rest : List ℕ) → w ≤ length xs → drop k (take w xs) ≡ b ∷ rest → Front xs w k b rest
front xs w k b rest l e =
    let n : length (take w xs) ≡ w = length-take-le w xs l in
    by_cases (dec_lt k w)
    (λ h.
    let f : b ∷ rest ≡ get_or (take w xs) k 0 ∷ drop (k + 1) (take w xs) = sym e ∙ drop-next (take w xs) k (omega arith) in
    record { inside = h; at = let g : b ≡ get_or (take w xs) k 0 = cc in g ∙ get_or-take w xs k 0 h; left = cc })
    (λ h. let z : [] ≡ b ∷ rest = sym (drop_of_length-le (take w xs) {i = k} (omega arith)) ∙ e in absurd (cc))

pub front_end : (xs : List ℕ) (w k : ℕ) → w ≤ length xs → k ≤ w → length (drop k (take w xs)) ≡ 0 → k ≡ w
front_end xs w k l h e = omega (arith, length-drop k (take w xs), length-take-le w xs l)
