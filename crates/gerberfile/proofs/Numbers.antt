-- A signed number of 64 bits is what its bits say.
use mathlib.Core.Path.{◌≡◌}
use Prim.Native.Nat.{◌^◌, ◌<◌}
use lib.IntN.{ℤ}
use lib.Signed.{mag}
use mir.Syntax.{w64}
use mir.Val.{of_z, to_z}
use mir.Facts.{to_z-of_z}

pub as_given : (z : ℤ) → mag z < 2 ^ 63 → to_z w64 (of_z w64 z) ≡ z
as_given z fits = to_z-of_z {w = w64} (record { sfits = fits })
