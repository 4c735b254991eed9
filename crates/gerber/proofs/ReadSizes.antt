-- The aperture lines of our own file, read back: the sizes in their order, and the spot past their lines.
-- Each line's size is the only one that stands there, and new; behind the last stands a line of another kind.
use mathlib.Core.Path.{◌≡◌, sym, ap, subst, ◌∙◌}
use mathlib.Core.Bool.{Bool, true, false, not, ◌&&◌}
use mathlib.Core.List.{List, [], ◌∷◌, ◌++◌, map, append_assoc, append-nil}
use mathlib.Core.Option.{Option, none, some}
use Prim.Native.Nat.{ℕ, zero, suc, ◌+◌, ◌≤◌}
use native.Mathlib.Omega.{arith}
use lib.Dec.{eqb}
use lib.ListN.{length, drop, length-append}
use Rattle.lists.specs.Lists.{any, gather, from}
use Rattle.lists.proofs.Truth.{and_left, and_both}
use Rattle.lists.proofs.Members.{In, first-only, none_first}
use Rattle.lists.proofs.Ranges.{in_from, in_map, in_gather}
use Rattle.grid.specs.Limits.{side}
use Rattle.text.specs.Words.{begins, stands}
use Rattle.text.proofs.Stands.{stands_at}
use Rattle.gerber.specs.File.{is_same_size, aperture_line, aperture_lines, pitch_fits}
use Rattle.gerber.specs.declared.sizes.Size.{Size}
use Rattle.gerber.specs.Reading.{grid_sizes, aperture_at, on_aperture, read_apertures}
use Rattle.gerber.specs.Code.{OnGrid}
use Rattle.gerber.proofs.GridSizes.{AllOnGrid}
use Rattle.gerber.proofs.FirstUse.{Once}
use Rattle.gerber.proofs.Places.{not-before}
use Rattle.gerber.proofs.Stood.{passed, least_pitch, aperture_apart}

-- it is one of the grid's, whatever the grid's side
grid_in : (n : ℕ) (z : Size) → 1 ≤ z.wide → z.wide ≤ n → 1 ≤ z.high → z.high ≤ n → In z (gather (λ w. map (λ h. record { wide = w; high = h }) (from 1 n)) (from 1 n))
grid_in n z a b c d =
    in_gather (λ w. map (λ h. record { wide = w; high = h }) (from 1 n)) (in_from 1 n z.wide a (omega arith)) (in_map (λ h. record { wide = z.wide; high = h }) (in_from 1 n z.high c (omega arith)))

module _ (pitch : ℕ) (fits : pitch_fits pitch ≡ true) (t : List ℕ) where
  aperture_there : (done : List Size) (z : Size) (spot : ℕ) (rest : List ℕ) → OnGrid z → any (is_same_size z) done ≡ false → drop spot t ≡ aperture_line pitch (length done) z ++ rest
      → aperture_at pitch t done spot ≡ some z
  unfolding aperture_at
  aperture_there done z spot rest g f e =
      first-only
      (λ y. stands t spot (aperture_line pitch (length done) y) && not (any (is_same_size y) done))
      grid_sizes
      (grid_in side z g.some-wide g.wide g.some-high g.high)
      (and_both (stands t spot (aperture_line pitch (length done) z)) (not (any (is_same_size z) done)) (stands_at t spot (aperture_line pitch (length done) z) rest e) (ap not f))
      (λ y m u. aperture_apart t spot pitch (length done) y z rest (omega (arith, least_pitch pitch fits)) e
      (and_left (stands t spot (aperture_line pitch (length done) y)) (not (any (is_same_size y) done)) u))

  -- where another byte stands, no aperture line does
  no_aperture : (k : ℕ) (z : Size) (spot b : ℕ) (rest : List ℕ) → eqb 37 b ≡ false → drop spot t ≡ b ∷ rest → stands t spot (aperture_line pitch k z) ≡ false
  unfolding aperture_line begins
  no_aperture k z spot b rest f e = ap (begins (aperture_line pitch k z)) e ∙ rw f

  aperture_none : (done : List Size) (spot b : ℕ) (rest : List ℕ) → eqb 37 b ≡ false → drop spot t ≡ b ∷ rest → aperture_at pitch t done spot ≡ none
  unfolding aperture_at
  aperture_none done spot b rest f e =
      none_first
      (λ y. stands t spot (aperture_line pitch (length done) y) && not (any (is_same_size y) done))
      grid_sizes
      (λ y m. ap (λ (u : Bool). u && not (any (is_same_size y) done)) (no_aperture (length done) y spot b rest f e))

  pub apertures-read : (left : ℕ) (zs done : List Size) (spot b : ℕ) (rest : List ℕ) → length zs ≤ left → AllOnGrid zs → Once (done ++ zs) → eqb 37 b ≡ false
      → drop spot t ≡ aperture_lines pitch (length done) zs ++ (b ∷ rest)
      → read_apertures left pitch t (record { sizes = done; past = spot }) ≡ record { sizes = done ++ zs; past = spot + length (aperture_lines pitch (length done) zs) }
  unfolding read_apertures aperture_lines
  apertures-read zero [] done spot b rest l gs o f e = let n : spot ≡ spot + 0 = omega arith in (λ i. record { sizes = sym (append-nil done) i; past = n i })
  apertures-read zero (z ∷ zs) done spot b rest l gs o f e = absurd (omega arith)
  apertures-read (suc left) [] done spot b rest l gs o f e =
      let n : spot ≡ spot + 0 = omega arith in
      ap (λ (r : Option Size). on_aperture pitch (record { sizes = done; past = spot }) r (read_apertures left pitch t)) (aperture_none done spot b rest f e)
      ∙ (λ i. record { sizes = sym (append-nil done) i; past = n i })
  apertures-read (suc left) (z ∷ zs) done spot b rest l gs o f e =
      let line : List ℕ = aperture_line pitch (length done) z in
      let others : List ℕ = aperture_lines pitch (suc (length done)) zs in
      let m : length (done ++ (z ∷ [])) ≡ suc (length done) = omega (arith, length-append done (z ∷ [])) in
      let e' : drop spot t ≡ line ++ (others ++ (b ∷ rest)) = e ∙ append_assoc line others (b ∷ rest) in
      let n : spot + length line + length (aperture_lines pitch (length (done ++ (z ∷ []))) zs) ≡ spot + length (line ++ others) =
      omega (arith, ap (λ (k : ℕ). length (aperture_lines pitch k zs)) m, length-append line others) in
      ap (λ (r : Option Size). on_aperture pitch (record { sizes = done; past = spot }) r (read_apertures left pitch t))
      (aperture_there done z spot (others ++ (b ∷ rest)) gs.0 (not-before done z zs o) e')
      ∙ apertures-read left zs (done ++ (z ∷ [])) (spot + length line) b rest (omega arith) gs.1 (subst Once (sym (append_assoc done (z ∷ []) zs)) o) f
      (passed t spot line (others ++ (b ∷ rest)) e' ∙ ap (λ (k : ℕ). aperture_lines pitch k zs ++ (b ∷ rest)) (sym m))
      ∙ (λ i. record { sizes = append_assoc done (z ∷ []) zs i; past = n i })
