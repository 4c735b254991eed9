-- A coordinate that is looked for at a spot: how long it is printed, what a centre that fits or does not fit says, and the search step by step.
-- The functions that look for a coordinate use it.
use mathlib.Core.Path.{◌≡◌, refl, ap, ◌∙◌}
use mir.Facts.{to_z-of_z}
use mir.Syntax.{w64}
use mir.Val.{of_z, to_z}
use mathlib.Core.Bool.{true, false}
use mathlib.Core.List.{List, ◌++◌}
use Prim.Native.Nat.{ℕ, ◌+◌, ◌-◌, ◌≤◌, ◌^◌}
use native.Mathlib.Omega.{arith}
use lib.IntN.{ℤ}
use lib.ListN.{length}
use Rattle.std.specs.Prelude.{None}
use Rattle.text.specs.Decimal.{decimal, digits}
use Rattle.text.specs.Signed.{signed}
use Rattle.text.specs.Words.{found, word_at}
use Rattle.gerber.specs.File.{coordinate_in_range}
use Rattle.gerber.specs.Parts.{square_at}
use Rattle.gerber.proofs.Longest.{signed-most}
use Rattle.gerber.proofs.Signs.{ten_fits}

-- a sign and ten digits
pub coordinate_length : (z : ℤ) → coordinate_in_range z ≡ true → length (signed z) ≤ 11
unfolding decimal digits
coordinate_length z t = let n : length (decimal (10 ^ 10 - 1)) ≡ 10 = refl in omega (arith, signed-most z t)

-- a coordinate as it is passed to be printed
pub told-signed : (v z : ℤ) → v ≡ z → coordinate_in_range z ≡ true → signed (to_z w64 (of_z w64 v)) ≡ signed z
told-signed v z e f = ap (λ u. signed (to_z w64 (of_z w64 u))) e ∙ ap signed (to_z-of_z (ten_fits z f))

-- a coordinate at the spot
module _ (t : List ℕ) (i : ℕ) (z : ℤ) (close : List ℕ) where
  pub square_out : coordinate_in_range z ≡ false → found (square_at t i z close) (i + length (signed z ++ close)) ≡ None
  square_out f = rw f

  pub square_in_lem : coordinate_in_range z ≡ true → word_at t i (signed z ++ close) ≡ found (square_at t i z close) (i + length (signed z ++ close))
  unfolding word_at
  square_in_lem f = rw f
