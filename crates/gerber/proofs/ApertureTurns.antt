-- The apertures of a file, line by line: what was asked is what is asked from here on, behind the sizes that the table holds. `read_apertures` goes by these laws.
use mathlib.Core.Path.{◌≡◌, refl, sym, ap, ◌∙◌}
use mathlib.Core.Bool.{not, ◌&&◌}
use mathlib.Core.List.{List, [], ◌∷◌, ◌++◌}
use mathlib.Core.Option.{none, some}
use Prim.Native.Nat.{ℕ, zero, suc, ◌+◌, ◌-◌, ◌≤◌, ◌<◌}
use native.Mathlib.Omega.{arith}
use lib.ListN.{length}
use Rattle.std.specs.Prelude.{Option as Maybe, Some, None}
use Rattle.lists.specs.Lists.{any}
use Rattle.lists.proofs.Members.{first_found}
use Rattle.grid.specs.Limits.{side}
use Rattle.text.specs.Words.{stands}
use Rattle.gerber.specs.File.{aperture_line, is_same_size}
use Rattle.gerber.specs.Code.{OnGrid}
use Rattle.gerber.specs.Reading.{grid_sizes, aperture_at, Apertures, one_more, on_aperture, read_apertures}
use Rattle.gerber.specs.Parts.{found_of}
use Rattle.gerber.specs.declared.sizes.Size.{Size}
use Rattle.gerber.proofs.ApertureRead.{grid_in, not_found, found_at}

module _ (pitch : ℕ) (text : List ℕ) where
  stops : (left : ℕ) (a : Apertures) → aperture_at pitch text a.sizes a.past ≡ none → read_apertures left pitch text a ≡ a
  unfolding read_apertures
  stops zero a e = refl
  stops (suc left) a e = rw e

  goes : (k : ℕ) (a : Apertures) {z : Size} → k < side → aperture_at pitch text a.sizes a.past ≡ some z → read_apertures (side - k) pitch text a
      ≡ read_apertures (side - (k + 1)) pitch text (one_more pitch a z)
  unfolding read_apertures
  goes k a {z} h e =
      let n : side - k ≡ suc (side - (k + 1)) = omega arith in
      ap (λ (m : ℕ). read_apertures m pitch text a) n ∙ ap (λ o. on_aperture pitch a o (read_apertures (side - (k + 1)) pitch text)) e

  module _ (sizes : List Size) (k at : ℕ) (len : length sizes ≡ k) where
    abbrev now : Apertures
    now = record { sizes = sizes; past = at }

    abbrev past : Size → ℕ
    past z = at + length (aperture_line pitch k z)

    -- as the code counts the sizes
    pub told-past : {o : Maybe (Size × ℕ)} → found_of (aperture_at pitch text sizes at) (λ z. at + length (aperture_line pitch (length sizes) z)) ≡ o
        → found_of (aperture_at pitch text sizes at) past ≡ o
    told-past e = ap (λ (n : ℕ). found_of (aperture_at pitch text sizes at) (λ z. at + length (aperture_line pitch n z))) (sym len) ∙ e

    pub apertures-stop : found_of (aperture_at pitch text sizes at) past ≡ None → read_apertures (side - k) pitch text now ≡ now
    apertures-stop e = stops (side - k) now (not_found (aperture_at pitch text sizes at) past e)

    pub apertures-over : side ≤ k → read_apertures (side - k) pitch text now ≡ now
    unfolding read_apertures
    apertures-over h = let n : side - k ≡ 0 = omega arith in ap (λ (m : ℕ). read_apertures m pitch text now) n

    module _ {z : Size} {next : ℕ} (e : found_of (aperture_at pitch text sizes at) past ≡ Some (z, next)) where
      pub aperture-on_grid : OnGrid z
      unfolding aperture_at
      aperture-on_grid =
          let f = found_at (aperture_at pitch text sizes at) past e in
          let b = grid_in z (first_found (λ y. stands text at (aperture_line pitch (length sizes) y) && not (any (is_same_size y) sizes)) grid_sizes f.0).0 in
          record { some-wide = b.0; wide = b.1; some-high = b.2; high = b.3 }

      pub apertures-turn : k < side → read_apertures (side - k) pitch text now ≡ read_apertures (side - (k + 1)) pitch text (record { sizes = sizes ++ (z ∷ []); past = next })
      apertures-turn h =
          let f = found_at (aperture_at pitch text sizes at) past e in
          let p : at + length (aperture_line pitch (length sizes) z) ≡ next = ap (λ (n : ℕ). at + length (aperture_line pitch n z)) len ∙ f.1 in
          goes k now h f.0 ∙ ap (λ (n : ℕ). read_apertures (side - (k + 1)) pitch text (record { sizes = sizes ++ (z ∷ []); past = n })) p
