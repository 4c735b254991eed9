-- Each flash's aperture and centre are its rectangle exactly, over the integers: twice the centre is the sum of the two edges, and the size is their difference.
-- The pitch is even, so that half of it, taken twice, is the pitch. The apertures are the distinct sizes in order of first use.
use mathlib.Core.Path.{◌≡◌, sym, ap, ◌∙◌}
use mathlib.Core.Bool.{true}
use Prim.Native.Nat.{ℕ, suc, ◌+◌, ◌-◌, ◌*◌, ◌/◌, ◌%◌, ◌≤◌}
use native.Mathlib.Omega.{arith}
use native.Mathlib.Nat.{mul_comm, add-mul}
use lib.Dec.{eqb}
use lib.IntN.{ℤ, pos, ◌+ℤ◌, +ℤ_assoc, +ℤ_comm, pos-+ℤ-pos}
use borrow.Author.Tests.{eqb-true}
use Rattle.lists.proofs.Truth.{and_right}
use Rattle.gerber.specs.File.{pitch_in_range, pitch_fits, centre}

-- the edge at grid line l, with the origin at o
abbrev pub edge : ℕ → ℤ → ℕ → ℤ
edge pitch o l = o +ℤ pos (pitch * l)

even : (pitch : ℕ) → pitch_fits pitch ≡ true → pitch / 2 + pitch / 2 ≡ pitch
even pitch t = omega (arith, eqb-true (pitch % 2) 0 (and_right (pitch_in_range pitch) (eqb (pitch % 2) 0) t))

halves : (pitch n : ℕ) → pitch_fits pitch ≡ true → pitch / 2 * n + pitch / 2 * n ≡ pitch * n
halves pitch n t = sym (add-mul (pitch / 2) (pitch / 2) n) ∙ ap (λ p. p * n) (even pitch t)

-- (o + a) + (o + b) = (o + o) + (a + b)
paired : (o : ℤ) (a b : ℕ) → (o +ℤ pos a) +ℤ (o +ℤ pos b) ≡ (o +ℤ o) +ℤ pos (a + b)
paired o a b =
    +ℤ_assoc o (pos a) (o +ℤ pos b)
    ∙ ap (o +ℤ◌) (sym (+ℤ_assoc (pos a) o (pos b)) ∙ ap (◌+ℤ pos b) (+ℤ_comm (pos a) o) ∙ +ℤ_assoc o (pos a) (pos b) ∙ ap (o +ℤ◌) (pos-+ℤ-pos a b))
    ∙ sym (+ℤ_assoc o o (pos (a + b)))

-- "the centre of its rectangle": twice the centre of the squares a to b is the edge before a and the edge behind b
pub centre_exact : (pitch : ℕ) (o : ℤ) (a b : ℕ) → pitch_fits pitch ≡ true → centre pitch o a b +ℤ centre pitch o a b ≡ edge pitch o a +ℤ edge pitch o (suc b)
unfolding centre
centre_exact pitch o a b t =
    paired o (pitch / 2 * (a + suc b)) (pitch / 2 * (a + suc b))
    ∙ ap (λ n. (o +ℤ o) +ℤ pos n) (halves pitch (a + suc b) t ∙ mul-add pitch a (suc b))
    ∙ sym (paired o (pitch * a) (pitch * suc b))
  where
    mul-add : (p m n : ℕ) → p * (m + n) ≡ p * m + p * n
    mul-add p m n = mul_comm p (m + n) ∙ add-mul m n p ∙ (λ i. mul_comm m p i + mul_comm n p i)

-- and its size is what lies between them
pub size_exact : (pitch a b : ℕ) → a ≤ b → suc (b - a) * pitch + pitch * a ≡ pitch * suc b
size_exact pitch a b h =
    let e : suc (b - a) + a ≡ suc b = omega arith in
    ap (suc (b - a) * pitch +◌) (mul_comm pitch a) ∙ sym (add-mul (suc (b - a)) a pitch) ∙ ap (◌* pitch) e ∙ mul_comm (suc b) pitch
