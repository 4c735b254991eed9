-- Coordinates as i64: whether one has at most ten digits is two comparisons, and where the origin is not beyond ten digits to the right, adding to it stays in range.
use mathlib.Core.Path.{◌≡◌, sym, ap, subst, ◌∙◌}
use mathlib.Core.Bool.{true, false, ◌&&◌, false≢true}
use Prim.Native.Nat.{ℕ, suc, ◌+◌, ◌*◌, ◌/◌, ◌^◌, ◌%◌, ◌≤◌, ◌<◌}
use native.Mathlib.Nat.{mul-le-mul}
use native.Mathlib.Omega.{arith}
use lib.Dec.{leb, ltb, eqb}
use lib.IntN.{ℤ, pos, negsuc, ◌+ℤ◌}
use lib.Signed.{lt_z, le_z}
use mir.Syntax.{w64}
use mir.Val.{SFits, of_z, to_z}
use mir.Facts.{to_z-of_z}
use borrow.Author.Tests.{ltb-true, ltb-false, lt-ltb, le-ltb, le-leb, lt-leb, leb-true, leb-false}
use Rattle.lists.proofs.Truth.{bcase, and_left, and_right}
use Rattle.grid.specs.Limits.{side}
use Rattle.text.proofs.Signs.{fits_pos}
use Rattle.gerber.specs.File.{pitch_in_range, pitch_fits, centre, coordinate_in_range}

least-test : (n m : ℕ) → ltb n (suc m) ≡ leb n m
least-test n m = bcase (ltb n (suc m)) (λ u. u ∙ sym (le-leb n m (omega (arith, ltb-true n (suc m) u)))) (λ u. u ∙ sym (lt-leb n m (omega (arith, ltb-false n (suc m) u))))

-- ten digits, as the code asks
pub ten_digits : (z : ℤ) → coordinate_in_range z ≡ (le_z (negsuc 9999999998) z && le_z z (pos 9999999999))
ten_digits (pos n) = least-test n 9999999999
ten_digits (negsuc n) = bcase (leb n 9999999998) (λ u. rw u (lt-ltb (suc n) (10 ^ 10) (omega (arith, leb-true n 9999999998 u))))
    (λ u. rw u (le-ltb (suc n) (10 ^ 10) (omega (arith, leb-false n 9999999998 u))))

-- the sum of an origin and what lies right of it
module _ (o : ℤ) (f : SFits w64 o) (s : ℕ) (small : s ≤ 1000000 * side) where
  pub beyond : lt_z (pos 9999999999) o ≡ true → coordinate_in_range (o +ℤ pos s) ≡ false
  beyond = go o
    where
      go : (o : ℤ) → lt_z (pos 9999999999) o ≡ true → coordinate_in_range (o +ℤ pos s) ≡ false
      go (pos n) t = le-ltb (n + s) (10 ^ 10) (omega (arith, ltb-true 9999999999 n t))
      go (negsuc n) t = absurd (false≢true t)

  pub not_beyond : lt_z (pos 9999999999) o ≡ false → SFits w64 (o +ℤ pos s)
  not_beyond = go o f
    where
      down : (n : ℕ) → n < 2 ^ 63 → SFits w64 (negsuc n +ℤ pos s)
      down n h = bcase (ltb s (suc n)) (λ u. rw u (record { sfits = omega (arith, ltb-true s (suc n) u) })) (λ u. rw u (record { sfits = omega arith }))

      go : (o : ℤ) → SFits w64 o → lt_z (pos 9999999999) o ≡ false → SFits w64 (o +ℤ pos s)
      go (pos n) f t = record { sfits = omega (arith, ltb-false 9999999999 n t) }
      go (negsuc n) f t = down n f.sfits

pub pitch_most : (pitch : ℕ) → pitch_fits pitch ≡ true → pitch ≤ 1000000
pitch_most pitch t = leb-true pitch 1000000 (and_right (leb 2 pitch) (leb pitch 1000000) (and_left (pitch_in_range pitch) (eqb (pitch % 2) 0) t))

pub ten_fits : (z : ℤ) → coordinate_in_range z ≡ true → SFits w64 z
ten_fits (pos n) t = record { sfits = omega (arith, ltb-true n (10 ^ 10) t) }
ten_fits (negsuc n) t = record { sfits = omega (arith, ltb-true (suc n) (10 ^ 10) t) }

-- the code's two comparisons of a number v that is z
pub ten_low : (z v : ℤ) → v ≡ z → le_z (negsuc 9999999998) v ≡ true → le_z v (pos 9999999999) ≡ coordinate_in_range z
ten_low z v e t = let u : le_z (negsuc 9999999998) z ≡ true = rw e at t in rw e (sym (ten_digits z ∙ rw u))

pub ten_under : (z v : ℤ) → v ≡ z → le_z (negsuc 9999999998) v ≡ false → le_z (negsuc 9999999998) v ≡ coordinate_in_range z
ten_under z v e t = let u : le_z (negsuc 9999999998) z ≡ false = rw e at t in t ∙ sym (ten_digits z ∙ rw u)

-- a centre, as the code adds it up: s is how far it lies from the origin o
module _ (pitch a b : ℕ) (o : ℤ) (f : SFits w64 o) (s : ℕ) (e : s ≡ pitch / 2 * (a + suc b)) (small : s ≤ 1000000 * side) where
  pub centre-sum : to_z w64 (of_z w64 o) +ℤ to_z w64 s ≡ centre pitch o a b
  unfolding centre
  centre-sum = ap (λ z. z +ℤ to_z w64 s) (to_z-of_z f) ∙ ap (o +ℤ◌) (to_z-of_z (fits_pos s (omega arith)) ∙ ap pos e)

  origin_sum : o +ℤ pos s ≡ centre pitch o a b
  unfolding centre
  origin_sum = ap (λ n. o +ℤ pos n) e

  pub centre-beyond : lt_z (pos 9999999999) (to_z w64 (of_z w64 o)) ≡ true → coordinate_in_range (centre pitch o a b) ≡ false
  centre-beyond t = subst (λ z. coordinate_in_range z ≡ false) origin_sum (beyond o f s small (rw (to_z-of_z f) at t))

  pub centre_in : lt_z (pos 9999999999) (to_z w64 (of_z w64 o)) ≡ false → SFits w64 (to_z w64 (of_z w64 o) +ℤ to_z w64 s)
  centre_in t = subst (SFits w64) (origin_sum ∙ sym centre-sum) (not_beyond o f s small (rw (to_z-of_z f) at t))

  pub centre_known : coordinate_in_range (centre pitch o a b) ≡ true → SFits w64 (to_z w64 (of_z w64 o) +ℤ to_z w64 s)
  centre_known t = subst (SFits w64) (sym centre-sum) (ten_fits (centre pitch o a b) t)

  pub centre-value : SFits w64 (to_z w64 (of_z w64 o) +ℤ to_z w64 s) → to_z w64 (of_z w64 (to_z w64 (of_z w64 o) +ℤ to_z w64 s)) ≡ centre pitch o a b
  centre-value g = to_z-of_z g ∙ centre-sum

-- the same, compared with both ends, and kept
module _ (pitch a b : ℕ) (o : ℤ) (f : SFits w64 o) {s : ℕ} (d : (s ≡ pitch / 2 * (a + suc b)) × (s ≤ 1000000 * side)) where
  abbrev sum : ℤ
  sum = to_z w64 (of_z w64 o) +ℤ to_z w64 s

  module _ (t : lt_z (pos 9999999999) (to_z w64 (of_z w64 o)) ≡ false) where
    pub sum-fits : SFits w64 sum
    sum-fits = centre_in pitch a b o f s d.0 d.1 t

    value : to_z w64 (of_z w64 sum) ≡ centre pitch o a b
    value = centre-value pitch a b o f s d.0 d.1 sum-fits

    pub not-low : le_z (negsuc 9999999998) (to_z w64 (of_z w64 sum)) ≡ true → le_z (to_z w64 (of_z w64 sum)) (pos 9999999999) ≡ coordinate_in_range (centre pitch o a b)
    not-low u = ten_low (centre pitch o a b) (to_z w64 (of_z w64 sum)) value u

    pub too-low : le_z (negsuc 9999999998) (to_z w64 (of_z w64 sum)) ≡ false → le_z (negsuc 9999999998) (to_z w64 (of_z w64 sum)) ≡ coordinate_in_range (centre pitch o a b)
    too-low u = ten_under (centre pitch o a b) (to_z w64 (of_z w64 sum)) value u

  module _ (t : coordinate_in_range (centre pitch o a b) ≡ true) where
    pub centre-fits : SFits w64 sum
    centre-fits = centre_known pitch a b o f s d.0 d.1 t

    pub centre-told : to_z w64 (of_z w64 sum) ≡ centre pitch o a b
    centre-told = centre-value pitch a b o f s d.0 d.1 centre-fits

pub from-small : (pitch a b : ℕ) → pitch_fits pitch ≡ true → a ≤ b → b < side → pitch / 2 * (a + suc b) ≤ 1000000 * side
from-small pitch a b p h l =
    let half : pitch / 2 ≤ 500000 = omega (arith, pitch_most pitch p) in
    let edges : a + suc b ≤ 2 * side = omega arith in
    mul-le-mul half edges
