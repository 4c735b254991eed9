-- The four parts of a file, one written after the other: what is written so far, and that there is room for the next. `put_file` goes by this.
use Rattle.std.proofs.Common.{arith}
use mathlib.Core.Path.{◌≡◌, refl, sym, ap}
use mathlib.Core.List.{List, ◌++◌}
use mathlib.Core.Option.{none}
use Prim.Native.Nat.{ℕ, ◌+◌, ◌≤◌}
use lib.IntN.{ℤ}
use lib.ListN.{length}
use Rattle.grid.specs.Rooms.{Written}
use Rattle.grid.specs.Squares.{Rectangle}
use Rattle.text.proofs.Onward.{Remains, start, fits_next, piece, last}
use Rattle.gerber.specs.File.{head_lines, aperture_lines, flash_lines, apertures, end_line, gerber_file}
use Rattle.gerber.specs.declared.sizes.Size.{Size}

module _ (version pitch : ℕ) (x y : ℤ) (qs : List Rectangle) (sizes : List Size) where
  abbrev file : List ℕ
  file = gerber_file version pitch x y qs

  abbrev listed : List ℕ
  listed = aperture_lines pitch 0 sizes

  abbrev flashed : List ℕ
  flashed = flash_lines pitch x y sizes none qs

  module _ (e : sizes ≡ apertures qs) where
    parts : file ≡ head_lines version ++ (listed ++ (flashed ++ end_line))
    unfolding gerber_file
    parts = ap (λ (ss : List Size). head_lines version ++ (aperture_lines pitch 0 ss ++ (flash_lines pitch x y ss none qs ++ end_line))) (sym e)

    module _ (room : List ℕ) (h : length file ≤ length room) where
      begun : Remains room 0 file room 0 file
      begun = start room 0 file (omega (arith, h))

      pub head-fits : length (head_lines version) ≤ length room
      head-fits = let f = fits_next begun (head_lines version) (listed ++ (flashed ++ end_line)) parts in omega (arith, f)

      module _ {first : ℕ} {room₁ : List ℕ} (w : Written room 0 (head_lines version) first room₁) where
        past-head : Remains room 0 file room₁ first (listed ++ (flashed ++ end_line))
        past-head = piece begun (head_lines version) (listed ++ (flashed ++ end_line)) parts w

        pub apertures-fit : first + length listed ≤ length room₁
        apertures-fit = fits_next past-head listed (flashed ++ end_line) refl

        module _ {next : ℕ} {room₂ : List ℕ} (v : Written room₁ first listed next room₂) where
          past-apertures : Remains room 0 file room₂ next (flashed ++ end_line)
          past-apertures = piece past-head listed (flashed ++ end_line) refl v

          pub flashes-fit : next + length flashed ≤ length room₂
          flashes-fit = fits_next past-apertures flashed end_line refl

          module _ {end : ℕ} {room₃ : List ℕ} (u : Written room₂ next flashed end room₃) where
            past-flashes : Remains room 0 file room₃ end end_line
            past-flashes = piece past-apertures flashed end_line refl u

            pub end-fits : end + length end_line ≤ length room₃
            end-fits = past-flashes.fits

            pub whole-file : {past : ℕ} {room₄ : List ℕ} → Written room₃ end end_line past room₄ → Written room 0 file past room₄
            whole-file t = last past-flashes end_line refl t
