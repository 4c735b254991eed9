-- Where every byte of a raster fits, both checks of its bytes pass: each byte is 0 or 1, and no column is broken.
-- Row by row a column's copper is one run up to its end, since copper in the next row comes at the end or begins it. `columns_checked` uses it.
use mathlib.Core.Path.{◌≡◌, ap, subst, ◌∙◌}
use mathlib.Core.Bool.{true, ◌&&◌, ◌||◌}
use mathlib.Core.List.{List}
use mathlib.Core.Option.{none}
use mathlib.Core.Logic.{by_cases, ◌⊎◌, inl, inr, ⊎_elim}
use Prim.Native.Nat.{ℕ, zero, suc, ◌*◌, ◌/◌, ◌%◌, ◌≤◌, ◌<◌}
use native.Mathlib.Decide.{ℕ_discrete, dec_le}
use native.Mathlib.Nat.{div-add-mod', mod-lt, mul-le-mul_right, mul_comm}
use native.Mathlib.Omega.{arith}
use lib.Dec.{eqb, ltb}
use lib.ListN.{length, get_or}
use borrow.Author.Tests.{eqb-true, le-ltb}
use Rattle.lists.proofs.Truth.{bcase, never, and_left, and_right}
use Rattle.lists.proofs.Searches.{first-nowhere}
use Rattle.grid.specs.Answers.{first_refusal, done}
use Rattle.grid.specs.Squares.{Area, InGrid, Unbroken}
use Rattle.grid.specs.Raster.{area_of, byte_at, first_bad, bad_square, broken_square, in_raster}
use Rattle.grid.proofs.Areas.{area_in_grid}
use Rattle.grid.proofs.Broken.{raster-unbroken}
use Rattle.grid.proofs.Chain.{Passes, passed-chain, passed-check_at, chain-passed, check_at-passed}
use Rattle.columns.specs.Columns.{raster_checks}
use Rattle.columns.specs.Code.{fits, end_to}
use Rattle.columns.proofs.BottomsEnds.{end-bare}

-- what fits is 0 or 1, and copper begins a column or goes on
fits_byte : (y byte end : ℕ) → fits y byte end ≡ true → byte ≤ 1
fits_byte y byte end t =
    bcase (eqb byte 0)
    (λ z. omega (arith, eqb-true byte 0 z))
    (λ z. let k : (eqb byte 1 && (eqb end 0 || eqb end y)) ≡ true = subst (λ b. (b || eqb byte 1 && (eqb end 0 || eqb end y)) ≡ true) z t in
    omega (arith, eqb-true byte 1 (and_left (eqb byte 1) (eqb end 0 || eqb end y) k)))

fits-copper : (y end : ℕ) → fits y 1 end ≡ true → (end ≡ 0) ⊎ (end ≡ y)
fits-copper y end t = bcase (eqb end 0) (λ z. inl (eqb-true end 0 z)) (λ z. inr (eqb-true end y (subst (λ b. (b || eqb end y) ≡ true) z t)))

-- an area whose copper, row by row, begins a column or goes on at its end
module _ (a : Area) (w h : ℕ) (grid : InGrid w h a) (goes : (r c : ℕ) → r < h → c < w → a c r ≡ true → (end_to a r c ≡ 0) ⊎ (end_to a r c ≡ r)) where
  -- the copper of a column below its end is one run
  run : (c : ℕ) → c < w → (y : ℕ) → y ≤ h → (x r : ℕ) → x ≤ r → r < end_to a y c → a c x ≡ true → a c r ≡ true
  unfolding end_to
  run c n zero l x r u v p = absurd (omega arith)
  run c n (suc y) l x r u v p =
      bcase (a c y)
      (λ t.
      let e : end_to a (suc y) c ≡ suc y = rw t in
      by_cases (ℕ_discrete r y) (λ q. ap (a c) q ∙ t)
      (λ d.
      ⊎_elim
      (λ z. absurd (never p (end-bare a c y z x (omega arith))))
      (λ z. run c n y (omega arith) x r u (omega arith) p)
      (goes y c (omega arith) n t)))
      (λ t. let e : end_to a (suc y) c ≡ end_to a y c = rw t in run c n y (omega arith) x r u (omega arith) p)

  whole : Unbroken a
  unfolding end_to
  whole c below between above l u p q =
      let g = grid c above q in
      let e : end_to a (suc above) c ≡ suc above = rw q in
      run c g.0 (suc above) (omega arith) below between (omega arith) (omega arith) p

module _ (w h : ℕ) (bytes : List ℕ) (wide : 1 ≤ w) (full : length bytes ≡ w * h)
    (fit : (r c : ℕ) → r < h → c < w → fits r (byte_at w bytes c r) (end_to (area_of w h bytes) r c) ≡ true) where
  no_bad : bad_square w bytes ≡ none
  unfolding first_bad
  no_bad = ap (in_raster w) (first-nowhere (λ i. ltb 1 (get_or bytes i 0)) 0 (length bytes) (λ i l u. le-ltb 1 (get_or bytes i 0) (low i (omega arith))))
    where
      low : (i : ℕ) → i < length bytes → get_or bytes i 0 ≤ 1
      low i u =
          let d = div-add-mod' i w in
          let m : i % w < w = mod-lt i wide in
          let r : i / w < h = by_cases (dec_le h (i / w)) (λ g. absurd (omega (arith, mul-le-mul_right w g, mul_comm w h))) (λ g. omega arith) in
          subst (λ z. get_or bytes z 0 ≤ 1) d (fits_byte (i / w) (byte_at w bytes (i % w) (i / w)) (end_to (area_of w h bytes) (i / w) (i % w)) (fit (i / w) (i % w) r m))

  unbroken : Unbroken (area_of w h bytes)
  unbroken =
      whole (area_of w h bytes) w h (area_in_grid w h bytes)
      (λ r c u l t.
      let k : byte_at w bytes c r ≡ 1 = eqb-true (byte_at w bytes c r) 1 (and_right (ltb c w && ltb r h) (eqb (byte_at w bytes c r) 1) t) in
      fits-copper r _ (subst (λ b. fits r b (end_to (area_of w h bytes) r c) ≡ true) k (fit r c u l)))

  pub all_pass : first_refusal (raster_checks w h bytes) ≡ done
  all_pass = passed-chain (raster_checks w h bytes) (passed-check_at _ _ no_bad, (passed-check_at _ _ ((raster-unbroken w h bytes).1 unbroken), tt))

-- the checks passed: no column is broken
pub passed-unbroken : (w h : ℕ) (bytes : List ℕ) → Passes (first_refusal (raster_checks w h bytes)) → Unbroken (area_of w h bytes)
passed-unbroken w h bytes p =
    let k = chain-passed (raster_checks w h bytes) p in
    (raster-unbroken w h bytes).0 (check_at-passed (broken_square (area_of w h bytes) w h) 7 k.1.0)
