-- The search for a broken column from the left: one column at a time, and as a whole the leftmost column that has a gap.
-- Each step opens one clause of `broken_from`; each whole is an induction on how many columns are left. `broken` uses the steps, Broken.antt the wholes.
use mathlib.Core.Path.{◌≡◌, refl, sym, ap, ◌∙◌}
use mathlib.Core.Logic.{by_cases}
use mathlib.Core.Option.{Option, none, some}
use Prim.Native.Nat.{ℕ, zero, suc, ◌+◌, ◌-◌, ◌≤◌, ◌<◌}
use native.Mathlib.Decide.{ℕ_discrete}
use native.Mathlib.Numerals.{add-one}
use native.Mathlib.Omega.{arith}
use Rattle.lists.specs.Lists.{from}
use Rattle.lists.proofs.Truth.{ocase, missing}
use Rattle.grid.specs.Squares.{Area, Square, square}
use Rattle.grid.specs.Raster.{gap, broken_from, broken_square}

pub broken_start : (a : Area) (h w : ℕ) → broken_square a w h ≡ broken_from a h (from 0 (w - 0))
broken_start a h w = let e : w - 0 ≡ w = omega arith in rw e

-- the search from column c on, at its first column
module _ (a : Area) (h w c : ℕ) where
  pub broken_here : {r : ℕ} → c < w → gap a h c ≡ some r → broken_from a h (from c (w - c)) ≡ some (square c r)
  unfolding broken_from
  broken_here l g = let e : w - c ≡ suc (w - suc c) = omega arith in rw (e, g)

  pub broken_on : c < w → gap a h c ≡ none → broken_from a h (from c (w - c)) ≡ broken_from a h (from (c + 1) (w - (c + 1)))
  unfolding broken_from
  broken_on l g = let e : w - c ≡ suc (w - suc c) = omega arith in rw (add-one c, e, g)

  pub broken_end : w ≤ c → broken_from a h (from c (w - c)) ≡ none
  unfolding broken_from
  broken_end l = let e : w - c ≡ 0 = omega arith in rw e

abbrev column_in : Option Square → ℕ
column_in none = 0
column_in (some s) = s.column

abbrev row_in : Option Square → ℕ
row_in none = 0
row_in (some s) = s.row

module _ (a : Area) (h : ℕ) where
  pub all_whole : (l n : ℕ) → broken_from a h (from l n) ≡ none → (c : ℕ) → l ≤ c → c < l + n → gap a h c ≡ none
  unfolding broken_from
  all_whole l zero e c p q = absurd (omega arith)
  all_whole l (suc n) e c p q =
      ocase (gap a h l)
      (λ o. by_cases (ℕ_discrete c l) (λ z. ap (gap a h) z ∙ o) (λ d. all_whole (suc l) n (rw o at e) c (omega arith) (omega arith)))
      (λ r o. absurd (missing {x = square l r} e (rw o)))

  pub first_broken : (l n : ℕ) {c r : ℕ} → broken_from a h (from l n) ≡ some (square c r)
      → (gap a h c ≡ some r) × ((x : ℕ) → l ≤ x → x < c → gap a h x ≡ none)
  unfolding broken_from
  first_broken l zero e = absurd (missing refl e)
  first_broken l (suc n) {c} {r} e =
      ocase (gap a h l)
      (λ o.
      let k = first_broken (suc l) n (rw o at e) in
      (k.0, λ x p q. by_cases (ℕ_discrete x l) (λ z. ap (gap a h) z ∙ o) (λ d. k.1 x (omega arith) q)))
      (λ s o.
      let f : some (square l s) ≡ some (square c r) = rw o at e in
      let z : l ≡ c = ap column_in f in
      (ap (gap a h) (sym z) ∙ o ∙ ap some (ap row_in f), λ x p q. absurd (omega arith)))
