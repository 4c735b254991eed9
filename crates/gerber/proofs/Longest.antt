-- The longest file: a bound by a formula, under the room that is asked for.
-- The first line is longest in version 1. Numbers of apertures have two digits, sizes at most two before the point, coordinates at most ten and a sign; there are at most as many apertures as flashes.
-- `put_file`'s callers lend enough by this.
use mathlib.Core.Path.{◌≡◌, refl}
use mathlib.Core.Bool.{true}
use mathlib.Core.List.{List, [], ◌∷◌, ◌++◌}
use mathlib.Core.Option.{Option, none, some}
use Prim.Native.Nat.{ℕ, suc, ◌+◌, ◌-◌, ◌*◌, ◌/◌, ◌^◌, ◌≤◌}
use native.Mathlib.Nat.{mul-le-mul, le_refl, le_trans}
use native.Mathlib.Omega.{arith}
use lib.Dec.{eqb}
use lib.IntN.{ℤ, pos, negsuc}
use lib.ListN.{length, length-append}
use borrow.Author.Tests.{ltb-true}
use Rattle.lists.specs.Lists.{any}
use Rattle.lists.proofs.Truth.{bcase, and_left, and_right}
use Rattle.grid.specs.Limits.{side, file_room_size}
use Rattle.grid.specs.Squares.{Rectangle}
use Rattle.text.specs.Decimal.{digits, decimal}
use Rattle.text.specs.Signed.{signed}
use Rattle.text.proofs.Lengths.{digits_grow}
use Rattle.gerber.specs.File.{size_of, is_same_size, added, used, apertures, place_of, first_number, millimetres, aperture_line, aperture_lines, centre}
use Rattle.gerber.specs.File.{centre_line, selects, changes, flash_lines, first_line, head_lines, end_line, gerber_file, pitch_fits, coordinate_in_range}
use Rattle.gerber.specs.File.{centre_fits, centres_fit}
use Rattle.gerber.specs.declared.sizes.Size.{Size}
use Rattle.gerber.proofs.Pieces.{length_millimetres, length_aperture, length_select, length_flash}
use Rattle.gerber.proofs.Signs.{pitch_most}
use Rattle.gerber.specs.Code.{OnGrid}
use Rattle.gerber.proofs.GridSizes.{AllOnGrid, Drawns, apertures-on_grid}

-- the longest line of each kind: its bytes, and the digits of its numbers at their greatest
abbrev pub aperture_most : ℕ
aperture_most = length (decimal (first_number + side)) + 2 * (length (decimal side) + 7) + 10

abbrev pub select_most : ℕ
select_most = length (decimal (first_number + side)) + 3

abbrev pub flash_most : ℕ
flash_most = 2 * (1 + length (decimal (10 ^ 10 - 1))) + 7

abbrev pub longest_file : ℕ
longest_file = length (head_lines 1) + side * aperture_most + side * (select_most + flash_most) + length end_line

pub longest-fits : longest_file ≤ file_room_size
unfolding decimal digits first_line
longest-fits =
    let a : length (decimal (first_number + side)) ≡ 2 = refl in
    let b : length (decimal side) ≡ 2 = refl in
    let c : length (decimal (10 ^ 10 - 1)) ≡ 10 = refl in
    omega arith

head-most : (version : ℕ) → length (head_lines version) ≤ length (head_lines 1)
unfolding first_line
head-most version = bcase (eqb version 1) (λ u. rw u (omega arith)) (λ u. rw u (omega arith))

side-length : (pitch n : ℕ) → pitch_fits pitch ≡ true → n ≤ side → length (millimetres (n * pitch)) ≤ length (decimal side) + 7
side-length pitch n p h =
    let m : n * pitch ≤ side * 1000000 = mul-le-mul h (pitch_most pitch p) in
    omega (arith, length_millimetres (n * pitch), digits_grow side (n * pitch / 10 ^ 6) (omega arith))

aperture_most_lem : (pitch k : ℕ) (s : Size) → pitch_fits pitch ≡ true → k ≤ side → OnGrid s → length (aperture_line pitch k s) ≤ aperture_most
aperture_most_lem pitch k s p h g =
    omega (
      arith,
      length_aperture pitch k s,
      digits_grow (first_number + side) (first_number + k) (omega arith),
      side-length pitch s.wide p g.wide,
      side-length pitch s.high p g.high,
    )

apertures-most : (pitch k : ℕ) (ss : List Size) → pitch_fits pitch ≡ true → k + length ss ≤ side → AllOnGrid ss → length (aperture_lines pitch k ss) ≤ length ss * aperture_most
unfolding aperture_lines
apertures-most pitch k [] p h gs = omega arith
apertures-most pitch k (s ∷ ss) p h gs =
    omega (
      arith,
      length-append (aperture_line pitch k s) (aperture_lines pitch (suc k) ss),
      aperture_most_lem pitch k s p (omega arith) gs.0,
      apertures-most pitch (suc k) ss p (omega arith) gs.1,
    )

-- no more apertures than flashes
added-most : (ss : List Size) (s : Size) → length (added ss s) ≤ suc (length ss)
unfolding added
added-most ss s = bcase (any (is_same_size s) ss) (λ u. rw u (omega arith)) (λ u. rw u (omega (arith, length-append ss (s ∷ []))))

pub used-most : (ss : List Size) (qs : List Rectangle) → length (used ss qs) ≤ length ss + length qs
unfolding used
used-most ss [] = omega arith
used-most ss (q ∷ qs) = omega (arith, used-most (added ss (size_of q)) qs, added-most ss (size_of q))

place-low : (s : Size) (ss : List Size) → place_of s ss ≤ length ss
unfolding place_of
place-low s [] = omega arith
place-low s (t ∷ ss) = bcase (is_same_size s t) (λ u. rw u (omega arith)) (λ u. rw u (omega (arith, place-low s ss)))

selects-most : (sizes : List Size) (before : Option Size) (s : Size) → length sizes ≤ side → length (selects sizes before s) ≤ select_most
selects-most sizes before s h =
    bcase (changes before s)
    (λ u. rw u (omega (arith, length_select (place_of s sizes), place-low s sizes, digits_grow (first_number + side) (first_number + place_of s sizes) (omega (arith, place-low s sizes)))))
    (λ u. rw u (omega arith))

pub signed-most : (z : ℤ) → coordinate_in_range z ≡ true → length (signed z) ≤ 1 + length (decimal (10 ^ 10 - 1))
unfolding signed
signed-most (pos n) t = omega (arith, digits_grow (10 ^ 10 - 1) n (omega (arith, ltb-true n (10 ^ 10) t)))
signed-most (negsuc n) t = omega (arith, digits_grow (10 ^ 10 - 1) (suc n) (omega (arith, ltb-true (suc n) (10 ^ 10) t)))

centre-most : (pitch : ℕ) (x y : ℤ) (q : Rectangle) → centre_fits pitch x y q ≡ true → length (centre_line pitch x y q) ≤ flash_most
centre-most pitch x y q t =
    let a : ℤ = centre pitch x q.first q.last in
    let b : ℤ = centre pitch y q.bottom q.top in
    omega (
      arith,
      length_flash a b,
      signed-most a (and_left (coordinate_in_range a) (coordinate_in_range b) t),
      signed-most b (and_right (coordinate_in_range a) (coordinate_in_range b) t),
    )

flashes-most : (pitch : ℕ) (x y : ℤ) (sizes : List Size) (before : Option Size) (qs : List Rectangle) → length sizes ≤ side → centres_fit pitch x y qs ≡ true
    → length (flash_lines pitch x y sizes before qs) ≤ length qs * (select_most + flash_most)
unfolding flash_lines
flashes-most pitch x y sizes before [] h t = omega arith
flashes-most pitch x y sizes before (q ∷ qs) h t =
    let rest : List ℕ = flash_lines pitch x y sizes (some (size_of q)) qs in
    omega (
      arith,
      length-append (selects sizes before (size_of q)) (centre_line pitch x y q ++ rest),
      length-append (centre_line pitch x y q) rest,
      selects-most sizes before (size_of q) h,
      centre-most pitch x y q (and_left (centre_fits pitch x y q) (centres_fit pitch x y qs) t),
      flashes-most pitch x y sizes (some (size_of q)) qs h (and_right (centre_fits pitch x y q) (centres_fit pitch x y qs) t),
    )

parts-most : (a b c d : List ℕ) (m n : ℕ) → length b ≤ m → length c ≤ n → length (a ++ (b ++ (c ++ d))) ≤ length a + m + n + length d
parts-most a b c d m n h l = omega (arith, length-append a (b ++ (c ++ d)), length-append b (c ++ d), length-append c d)

-- every file of at most as many flashes as the grid has columns, within the grid, with coordinates of at most ten digits
pub file-most : (version pitch : ℕ) (x y : ℤ) (qs : List Rectangle) → pitch_fits pitch ≡ true → length qs ≤ side → Drawns qs → centres_fit pitch x y qs ≡ true
    → length (gerber_file version pitch x y qs) ≤ longest_file
unfolding gerber_file
file-most version pitch x y qs p few ds t =
    let many : length (apertures qs) ≤ side = omega (arith, used-most [] qs) in
    let a = le_trans (apertures-most pitch 0 (apertures qs) p (omega arith) (apertures-on_grid qs ds)) (mul-le-mul many (le_refl aperture_most)) in
    let b = le_trans (flashes-most pitch x y (apertures qs) none qs many t) (mul-le-mul few (le_refl (select_most + flash_most))) in
    let c = parts-most (head_lines version) (aperture_lines pitch 0 (apertures qs)) (flash_lines pitch x y (apertures qs) none qs) end_line (side * aperture_most)
    (side * (select_most + flash_most)) a b in
    omega (arith, c, head-most version)
