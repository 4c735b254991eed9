-- A column's bottom and end, taken row by row, are its lowest copper row and one more than its highest.
-- By induction on the rows: the end is 0 exactly while no copper was met. `columns_checked` uses it.
use mathlib.Core.Path.{◌≡◌, refl, sym, ap, ◌∙◌}
use mathlib.Core.Bool.{true, false}
use mathlib.Core.List.{[], ◌∷◌, ◌++◌}
use Prim.Native.Nat.{ℕ, zero, suc, ◌+◌, ◌<◌}
use native.Mathlib.Omega.{arith}
use borrow.Author.Tests.{eq-eqb, ne_eqb}
use Rattle.lists.specs.Lists.{first, up_to}
use Rattle.lists.proofs.Truth.{bcase, ocase, never}
use Rattle.lists.proofs.Members.{first-append-none, first-append-some}
use Rattle.lists.proofs.Ranges.{from-append}
use Rattle.lists.proofs.Searches.{first-within, first-missed, down-within, down-missed}
use Rattle.grid.specs.Squares.{Area}
use Rattle.grid.specs.Raster.{bottom_of, top_of}
use Rattle.grid.specs.Code.{or_end}
use Rattle.columns.specs.Columns.{bottom_at, past, end_at}
use Rattle.columns.specs.Code.{end_to, bottom_to}

module _ (a : Area) (c : ℕ) where
  pub end-top : (y : ℕ) → end_to a y c ≡ end_at a y c
  unfolding end_to top_of
  end-top zero = refl
  end-top (suc y) = bcase (a c y) (λ t. rw t) (λ t. rw t (end-top y))

  -- the end is 0 exactly where no row below y is copper
  pub end-bare : (y : ℕ) → end_to a y c ≡ 0 → (r : ℕ) → r < y → a c r ≡ false
  unfolding top_of
  end-bare y e r l =
      ocase (top_of a y c)
      (λ n. down-missed (a c) y n r l)
      (λ t q. absurd (omega (arith, end-top y, ap past q)))

  pub bare-end : (y : ℕ) → ((r : ℕ) → r < y → a c r ≡ false) → end_to a y c ≡ 0
  unfolding top_of
  bare-end y n =
      ocase (top_of a y c)
      (λ q. end-top y ∙ ap past q)
      (λ t q. let r = down-within (a c) y q in absurd (never r.1 (n t r.0)))

  -- one row more: the lowest copper row so far, or else this row
  one-row : (y : ℕ) → up_to (suc y) ≡ up_to y ++ (y ∷ [])
  one-row y =
      let e : 0 + y ≡ y = omega arith in
      let f : suc y ≡ y + 1 = omega arith in
      ap up_to f ∙ from-append 0 y 1 ∙ ap (λ z. up_to y ++ (z ∷ [])) e

  pub bottom-lowest : (y : ℕ) → bottom_to a y c ≡ bottom_at a y c
  unfolding bottom_to bottom_of
  bottom-lowest zero = refl
  bottom-lowest (suc y) =
      ocase (first (a c) (up_to y))
      (λ n.
      let bare : end_to a y c ≡ 0 = bare-end y (λ r l. first-missed (a c) 0 y n r (omega arith) (omega arith)) in
      let so = bottom-lowest y ∙ ap (or_end 0) n in
      let now = ap (or_end 0) (ap (first (a c)) (one-row y) ∙ first-append-none (a c) (up_to y) (y ∷ []) n) in
      bcase (a c y) (λ t. rw (t, eq-eqb (end_to a y c) 0 bare) (sym (now ∙ here t))) (λ t. rw t (so ∙ sym (now ∙ there t))))
      (λ b q.
      let r = first-within (a c) 0 y q in
      let some-copper : end_to a y c ≡ 0 → ⊥ = λ z. never r.2 (end-bare y z b (omega arith)) in
      let so = bottom-lowest y ∙ ap (or_end 0) q in
      let now = ap (or_end 0) (ap (first (a c)) (one-row y) ∙ first-append-some (a c) (up_to y) (y ∷ []) q) in
      bcase (a c y) (λ t. rw (t, ne_eqb (end_to a y c) 0 some-copper) (so ∙ sym now)) (λ t. rw t (so ∙ sym now)))
    where
      here : a c y ≡ true → or_end 0 (first (a c) (y ∷ [])) ≡ y
      here t = rw t

      there : a c y ≡ false → or_end 0 (first (a c) (y ∷ [])) ≡ 0
      there t = rw t
