-- How long each line is, by its pieces. The functions that write a line, and the longest file, go by this.
use mathlib.Core.Path.{◌≡◌}
use Prim.Native.Nat.{ℕ, ◌+◌, ◌*◌, ◌/◌, ◌^◌}
use native.Mathlib.Omega.{arith}
use lib.IntN.{ℤ}
use lib.ListN.{length, length-append}
use Rattle.text.specs.Decimal.{decimal}
use Rattle.text.specs.Signed.{signed}
use Rattle.gerber.specs.File.{first_number, millimetres, aperture_line, select_line, flash_line}
use Rattle.gerber.specs.declared.sizes.Size.{Size}
use Rattle.text.proofs.Turns.{length_last}

pub length_millimetres : (n : ℕ) → length (millimetres n) ≡ length (decimal (n / 10 ^ 6)) + 7
unfolding millimetres
length_millimetres n = simp (length-append, length_last) (omega arith)

pub length_aperture : (pitch k : ℕ) (s : Size) → length (aperture_line pitch k s)
    ≡ length (decimal (first_number + k)) + length (millimetres (s.wide * pitch)) + length (millimetres (s.high * pitch)) + 10
unfolding aperture_line
length_aperture pitch k s = simp length-append (omega arith)

pub length_select : (k : ℕ) → length (select_line k) ≡ length (decimal (first_number + k)) + 3
unfolding select_line
length_select k = simp length-append (omega arith)

pub length_flash : (x y : ℤ) → length (flash_line x y) ≡ length (signed x) + length (signed y) + 7
unfolding flash_line
length_flash x y = simp length-append (omega arith)
