-- A column of an unbroken area is copper exactly from its bottom to before its end.
-- The bottom is the lowest copper row and the end is past the highest; between them there is no gap. The heights of flashes use it.
use mathlib.Core.Path.{◌≡◌, ap}
use mathlib.Core.Bool.{true}
use mathlib.Core.Logic.{by_cases}
use Prim.Native.Nat.{ℕ, ◌≤◌, ◌<◌}
use native.Mathlib.Decide.{dec_le}
use native.Mathlib.Omega.{arith}
use Rattle.lists.proofs.Truth.{ocase, never}
use Rattle.lists.proofs.Ranges.{first-from}
use Rattle.lists.proofs.Searches.{first-within, first-missed, down-within, down-missed, down_above}
use Rattle.grid.specs.Squares.{Area, Unbroken}
use Rattle.grid.specs.Raster.{bottom_of, top_of}
use Rattle.grid.specs.Code.{or_end}
use Rattle.grid.proofs.Run.{between}
use Rattle.columns.specs.Columns.{bottom_at, past, end_at}

module _ (a : Area) (h c : ℕ) where
  -- a copper row lies between them
  pub row-between : (y : ℕ) → y < h → a c y ≡ true → (bottom_at a h c ≤ y) × (y < end_at a h c)
  unfolding bottom_of top_of
  row-between y l t = (
    ocase (bottom_of a h c)
        (λ n. absurd (never t (first-missed (a c) 0 h n y (omega arith) (omega arith))))
        (λ b q.
        let e = ap (or_end 0) q in
        by_cases (dec_le b y) (λ u. omega arith) (λ u. absurd (never t (first-from (a c) 0 h q y (omega arith) (omega arith))))),
    ocase (top_of a h c)
        (λ n. absurd (never t (down-missed (a c) h n y l)))
        (λ b q.
        let e = ap past q in
        by_cases (dec_le y b) (λ u. omega arith) (λ u. absurd (never t (down_above (a c) h q y (omega arith) l)))),
  )

  -- and each row between them is copper
  pub between-row : Unbroken a → (y : ℕ) → bottom_at a h c ≤ y → y < end_at a h c → a c y ≡ true
  unfolding bottom_of top_of
  between-row unbroken y l u =
      ocase (top_of a h c)
      (λ n. absurd (omega (arith, ap past n)))
      (λ t q.
      let top = down-within (a c) h q in
      let e = ap past q in
      ocase (bottom_of a h c)
      (λ n. absurd (never top.1 (first-missed (a c) 0 h n t (omega arith) (omega arith))))
      (λ b r.
      let f = ap (or_end 0) r in
      between a h unbroken c b y t (omega arith) (omega arith) (first-within (a c) 0 h r).2 top.1))
