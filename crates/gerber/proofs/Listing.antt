-- The lines of a file one after the other: the apertures' from the k-th on, and the flashes' from the k-th on. The functions that write them carry this from start to end.
use mathlib.Core.Path.{◌≡◌, sym, ap, ◌∙◌}
use mathlib.Core.Bool.{cond}
use mathlib.Core.List.{List, [], ◌∷◌, ◌++◌}
use mathlib.Core.Option.{Option, some}
use Prim.Native.Nat.{ℕ, ◌+◌, ◌≤◌, ◌<◌}
use native.Mathlib.Omega.{arith}
use native.Mathlib.Numerals.{add-one}
use lib.IntN.{ℤ}
use lib.ListN.{length, drop, get_or, drop_of_length-le, length-append}
use lib.Seq.{drop-cons}
use Rattle.lists.specs.Lists.{any}
use Rattle.lists.proofs.Truth.{bcase}
use Rattle.grid.specs.Squares.{Rectangle}
use Rattle.grid.specs.Rooms.{Written}
use Rattle.text.proofs.Onward.{Remains, fits_next, piece}
use Rattle.cover.specs.Records.{flash_in}
use Rattle.gerber.specs.File.{size_of, place_of, changes, select_line, aperture_line, aperture_lines, selects, centre_line, flash_lines, used, added, is_same_size}
use Rattle.gerber.specs.declared.sizes.Size.{Size}
use Rattle.gerber.proofs.Records.{flashes_from, flashes-next, flashes-over}

module _ (pitch : ℕ) (sizes : List Size) (k : ℕ) where
  pub apertures-next : (d : Size) → k < length sizes → aperture_lines pitch k (drop k sizes) ≡ aperture_line pitch k (get_or sizes k d) ++ aperture_lines pitch (k + 1) (drop (k + 1) sizes)
  unfolding aperture_lines
  apertures-next d h =
      ap (aperture_lines pitch k) (drop-cons sizes k d h)
      ∙ ap (λ j. aperture_line pitch k (get_or sizes k d) ++ aperture_lines pitch j (drop j sizes)) (sym (add-one k))

  pub apertures-over : length sizes ≤ k → aperture_lines pitch k (drop k sizes) ≡ []
  unfolding aperture_lines
  apertures-over h = ap (aperture_lines pitch k) (drop_of_length-le sizes {i = k} h)

-- the flashes' lines, from the k-th of n on
module _ (pitch : ℕ) (x y : ℤ) (sizes : List Size) (records : List ℕ) (n k : ℕ) (before : Option Size) where
  pub lines_next : k < n → flash_lines pitch x y sizes before (flashes_from records k n)
      ≡ selects sizes before (size_of (flash_in records k))
      ++ (centre_line pitch x y (flash_in records k) ++ flash_lines pitch x y sizes (some (size_of (flash_in records k))) (flashes_from records (k + 1) n))
  unfolding flash_lines
  lines_next h = ap (flash_lines pitch x y sizes before) (flashes-next records n k h)

  -- as the code has them: the k-th flash, its size and the place of that
  module _ (h : k < n) {q : Rectangle} {size : Size} {place : ℕ} (e : q ≡ flash_in records k) (f : size ≡ size_of q) (g : place ≡ place_of size sizes) where
    lines-turn : flash_lines pitch x y sizes before (flashes_from records k n)
        ≡ cond (changes before size) (select_line place) [] ++ (centre_line pitch x y q ++ flash_lines pitch x y sizes (some size) (flashes_from records (k + 1) n))
    lines-turn =
        let s : size_of (flash_in records k) ≡ size = sym (f ∙ ap size_of e) in
        let line : Size → Rectangle → ℕ → List ℕ =
        λ z r p. cond (changes before z) (select_line p) [] ++ (centre_line pitch x y r ++ flash_lines pitch x y sizes (some z) (flashes_from records (k + 1) n)) in
        lines_next h ∙ (λ i. line (s i) (sym e i) (place_of (s i) sizes)) ∙ ap (line size q) (sym g)

    -- a room in which the lines of the flashes before are written
    module _ {room₀ : List ℕ} {spot : ℕ} {whole room : List ℕ} {at : ℕ} (r : Remains room₀ spot whole room at (flash_lines pitch x y sizes before (flashes_from records k n))) where
      pub select-fits : at + length (cond (changes before size) (select_line place) []) ≤ length room
      select-fits = fits_next r (cond (changes before size) (select_line place) []) _ lines-turn

      pub past-select : {next : ℕ} {after : List ℕ} → Written room at (cond (changes before size) (select_line place) []) next after
          → Remains room₀ spot whole after next (centre_line pitch x y q ++ flash_lines pitch x y sizes (some size) (flashes_from records (k + 1) n))
      past-select w = piece r _ _ lines-turn w

  pub lines-over : n ≤ k → flash_lines pitch x y sizes before (flashes_from records k n) ≡ []
  unfolding flash_lines
  lines-over h = ap (flash_lines pitch x y sizes before) (flashes-over records n k h)

-- and the sizes used
module _ (sizes : List Size) (records : List ℕ) (n k : ℕ) where
  pub used-next : k < n → used sizes (flashes_from records k n) ≡ used (added sizes (size_of (flash_in records k))) (flashes_from records (k + 1) n)
  unfolding used
  used-next h = ap (used sizes) (flashes-next records n k h)

  pub used-over : n ≤ k → used sizes (flashes_from records k n) ≡ sizes
  unfolding used
  used-over h = ap (used sizes) (flashes-over records n k h)

pub added-most : (sizes : List Size) (s : Size) → length (added sizes s) ≤ length sizes + 1
unfolding added
added-most sizes s = bcase (any (is_same_size s) sizes) (λ u. rw u (omega arith)) (λ u. rw u (omega (arith, length-append sizes (s ∷ []))))
