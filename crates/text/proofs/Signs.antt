-- A number of 64 bits with a sign: what fits, what a conversion answers, and what is printed of it.
-- An i64 is kept as its bits, which are read back as the number that they were made of. `print_signed` and `read_signed` go by this.
use Rattle.std.proofs.Common.{None, Some, Result, Ok, Err}
use Rattle.std.specs.Result.{OkIff, result_ok}
use Rattle.std.proofs.lemmas.Option.{none-some, same_Some}
use mathlib.Core.Path.{◌≡◌, refl, sym, ap, ◌∙◌}
use mathlib.Core.Bool.{true, false, false≢true}
use mathlib.Core.List.{◌∷◌}
use Prim.Native.Nat.{ℕ, zero, suc, ◌^◌, ◌<◌}
use native.Mathlib.Omega.{arith}
use lib.IntN.{ℤ, pos, negsuc, nat_abs, ◌-ℤ◌, +ℤ_idl}
use lib.Signed.{lt_z}
use mir.Syntax.{w64}
use mir.Val.{SFits, of_z, to_z}
use mir.Facts.{to_z-of_z}
use borrow.Author.Tests.{lt-ltb, le-ltb, ltb-true}
use Rattle.lists.proofs.Truth.{bcase}
use Rattle.text.specs.Decimal.{decimal}
use Rattle.text.specs.Signed.{minus, signed, in_range, integer, upward, downward}

pub fits_pos : (n : ℕ) → n < 2 ^ 63 → SFits w64 (pos n)
fits_pos n h = record { sfits = h }

pub in_range_lem : (z : ℤ) → SFits w64 z → in_range z ≡ true
in_range_lem (pos n) f = lt-ltb n (2 ^ 63) f.sfits
in_range_lem (negsuc n) f = lt-ltb n (2 ^ 63) f.sfits

pub range_fits : (z : ℤ) → in_range z ≡ true → SFits w64 z
range_fits (pos n) t = record { sfits = ltb-true n (2 ^ 63) t }
range_fits (negsuc n) t = record { sfits = ltb-true n (2 ^ 63) t }

-- what a number is as one of 64 bits with a sign, and where it is none
module _ (z : ℤ) (next : ℕ) where
  pub integer-near : {y : ℤ} → SFits w64 z → y ≡ z → integer z next ≡ Some (to_z w64 (of_z w64 y), next)
  integer-near f e = rw (e, to_z-of_z f, in_range_lem z f)

  pub integer-far : (SFits w64 z → ⊥) → integer z next ≡ None
  integer-far n = bcase (in_range z) (λ u. absurd (n (range_fits z u))) (λ u. rw u)

pub downward-is : (d next : ℕ) → (d ≡ 0 → ⊥) → downward (Some (d, next)) ≡ integer (pos 0 -ℤ pos d) next
downward-is zero next n = absurd (n refl)
downward-is (suc d) next n = ap (λ (z : ℤ). integer z next) (sym (+ℤ_idl (negsuc d)))

-- a conversion's answer
module _ {E : Type 0} (n next : ℕ) (r : Result ℤ E) (o : OkIff r (SFits w64 (pos n)) (pos n)) where
  pub upward-some : {z : ℤ} → Some z ≡ result_ok r → upward (Some (n, next)) ≡ Some (to_z w64 (of_z w64 z), next)
  upward-some {z} e = go r o e
    where
      go : (r : Result ℤ E) → OkIff r (SFits w64 (pos n)) (pos n) → Some z ≡ result_ok r → upward (Some (n, next)) ≡ Some (to_z w64 (of_z w64 z), next)
      go (Ok x) o e = integer-near (pos n) next o.0 (same_Some z x e ∙ o.1)
      go (Err x) o e = absurd (none-some z (sym e))

  pub upward-none : None ≡ result_ok r → upward (Some (n, next)) ≡ None
  upward-none e = go r o e
    where
      go : (r : Result ℤ E) → OkIff r (SFits w64 (pos n)) (pos n) → None ≡ result_ok r → upward (Some (n, next)) ≡ None
      go (Ok x) o e = absurd (none-some x e)
      go (Err x) o e = integer-far (pos n) next o

-- what is printed: a minus and the distance of a number below 0, the distance of another
module _ (z : ℤ) (f : SFits w64 z) where
  pub signed_below : lt_z (to_z w64 (of_z w64 z)) (pos 0) ≡ true → signed z ≡ minus ∷ decimal (nat_abs z)
  unfolding signed
  signed_below t = go z (rw (to_z-of_z f) at t)
    where
      go : (z : ℤ) → lt_z z (pos 0) ≡ true → signed z ≡ minus ∷ decimal (nat_abs z)
      go (pos n) t = absurd (false≢true (sym (le-ltb n 0 (omega arith)) ∙ t))
      go (negsuc n) t = refl

  pub signed-from : lt_z (to_z w64 (of_z w64 z)) (pos 0) ≡ false → signed z ≡ decimal (nat_abs z)
  unfolding signed
  signed-from t = go z (rw (to_z-of_z f) at t)
    where
      go : (z : ℤ) → lt_z z (pos 0) ≡ false → signed z ≡ decimal (nat_abs z)
      go (pos n) t = refl
      go (negsuc n) t = absurd (false≢true (sym t))
