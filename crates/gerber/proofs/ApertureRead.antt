-- An aperture line read part by part: its number, its width, its height. Each part is told by what closes it, so no other size has the same line.
-- `read_aperture` goes by these laws, one for each of its exits.
use mathlib.Core.Path.{◌≡◌, refl, sym, ap, subst, ◌∙◌}
use mathlib.Core.Bool.{Bool, true, false, not, ◌&&◌}
use mathlib.Core.List.{List, ◌++◌, map, append_assoc}
use mathlib.Core.Option.{Option, none, some}
use Prim.Native.Nat.{ℕ, ◌+◌, ◌*◌, ◌/◌, ◌%◌, ◌≤◌, ◌<◌}
use native.Mathlib.Nat.{mul-div_cancel}
use native.Mathlib.Omega.{arith}
use lib.Dec.{leb, eqb}
use lib.ListN.{length, drop, length-append}
use borrow.Author.Tests.{leb-true, not-true}
use Rattle.lists.specs.Lists.{any, first, from}
use Rattle.lists.proofs.Truth.{never, fails, and_left, and_right, and_both}
use Rattle.lists.proofs.Members.{In, none_first, first-only}
use Rattle.lists.proofs.Ranges.{in_from, from_in, in_map, map_in, in_gather, gather_in}
use Rattle.lists.proofs.Searches.{first-within, first-missed}
use Rattle.grid.specs.Limits.{side}
use Rattle.std.specs.Prelude.{Some, None}
use Rattle.text.specs.Decimal.{decimal}
use Rattle.text.specs.Words.{stands, word_at}
use Rattle.text.proofs.Stands.{stands-append}
use Rattle.text.proofs.Passes.{found-spot}
use Rattle.gerber.specs.File.{bytes, first_number, millimetres, aperture_line, is_same_size, pitch_in_range, pitch_fits}
use Rattle.gerber.specs.declared.sizes.Size.{Size}
use Rattle.gerber.specs.Reading.{grid_sizes, aperture_at}
use Rattle.gerber.specs.Parts.{found_of, side_at, found_side}
use Rattle.gerber.proofs.Apart.{both_stand, length-apart}
use Rattle.gerber.proofs.Compared.{found_nothing}

-- the sizes within the grid
abbrev sized : ℕ → ℕ → Size
sized w h = record { wide = w; high = h }

abbrev of_width : ℕ → List Size
of_width w = map (sized w) (from 1 side)

pub in_grid : (w h : ℕ) → 1 ≤ w → w ≤ side → 1 ≤ h → h ≤ side → In (record { wide = w; high = h }) grid_sizes
in_grid w h a b c d = in_gather of_width (in_from 1 side w a (omega arith)) (in_map (sized w) (in_from 1 side h c (omega arith)))

pub grid_in : (z : Size) → In z grid_sizes → (1 ≤ z.wide) × (z.wide ≤ side) × (1 ≤ z.high) × (z.high ≤ side)
grid_in z m =
    let g = gather_in of_width (from 1 side) m in
    let r = map_in (sized g.0) (from 1 side) g.2 in
    let w = from_in 1 side g.1 in
    let h = from_in 1 side r.1 in
    let ew : z.wide ≡ g.0 = ap (λ (y : Size). y.wide) r.2 in
    let eh : z.high ≡ r.0 = ap (λ (y : Size). y.high) r.2 in
    (omega (arith, w.0), omega (arith, w.1), omega (arith, h.0), omega (arith, h.1))

-- what was found
pub not_found : {A : Type 0} (o : Option A) (past : A → ℕ) → found_of o past ≡ None → o ≡ none
not_found none past e = refl
not_found (some n) past e = let z : ◌≡◌ {A = ℕ} 0 1 = cc in absurd (omega arith)

pub found_at : {A : Type 0} (o : Option A) (past : A → ℕ) {n : A} {j : ℕ} → found_of o past ≡ Some (n, j) → (o ≡ some n) × (past n ≡ j)
found_at none past e = let z : ◌≡◌ {A = ℕ} 0 1 = cc in absurd (omega arith)
found_at {A} (some m) past {n} {j} e =
    let p : ◌≡◌ {A = A × ℕ} (m, past m) (n, j) = cc in
    (ap (λ (r : A × ℕ). some r.0) p, ap (λ (r : A × ℕ). past r.0) (sym p) ∙ ap (λ (r : A × ℕ). r.1) p)

cancel : (a b p : ℕ) → 0 < p → a * p ≡ b * p → a ≡ b
cancel a b p h e = sym (mul-div_cancel a h) ∙ ap (λ (n : ℕ). n / p) e ∙ mul-div_cancel b h

pub pitch_least : (pitch : ℕ) → pitch_fits pitch ≡ true → 2 ≤ pitch
pitch_least pitch t = leb-true 2 pitch (and_left (leb 2 pitch) (leb pitch 1000000) (and_left (pitch_in_range pitch) (eqb (pitch % 2) 0) t))

module _ (pitch : ℕ) (good : pitch_fits pitch ≡ true) (text : List ℕ) where
  -- a side at a spot
  pub side-none : (i : ℕ) (close : List ℕ) → found_side text i pitch close ≡ None → (n : ℕ) → 1 ≤ n → n ≤ side → side_at text i pitch close n ≡ false
  unfolding found_side
  side-none i close e n a b =
      first-missed (side_at text i pitch close) 1 side (not_found (first (side_at text i pitch close) (from 1 side)) (λ m. i + length (millimetres (m * pitch) ++ close)) e) n a (omega arith)

  pub side-found : (i : ℕ) (close : List ℕ) {n j : ℕ} → found_side text i pitch close ≡ Some (n, j)
      → (1 ≤ n) × (n ≤ side) × (side_at text i pitch close n ≡ true) × (i + length (millimetres (n * pitch) ++ close) ≡ j)
  unfolding found_side
  side-found i close e =
      let f = found_at (first (side_at text i pitch close) (from 1 side)) (λ m. i + length (millimetres (m * pitch) ++ close)) e in
      let r = first-within (side_at text i pitch close) 1 side f.0 in
      (r.0, omega (arith, r.1), r.2, f.1)

  pub side-only : (i : ℕ) (close : List ℕ) (m n : ℕ) → side_at text i pitch close m ≡ true → side_at text i pitch close n ≡ true → m ≡ n
  side-only i close m n s r =
      let v = millimetres (m * pitch) in
      let w = millimetres (n * pitch) in
      let e = both_stand text i (v ++ close) (w ++ close) s r in
      let a = length-apart (m * pitch) (n * pitch) _ _ (sym (append_assoc v close (drop (i + length (v ++ close)) text)) ∙ e ∙ append_assoc w close (drop (i + length (w ++ close)) text)) in
      cancel m n pitch (let l : 0 < pitch = omega (arith, pitch_least pitch good) in l) a.0

  -- the line
  numbered : ℕ → List ℕ
  numbered k = decimal (first_number + k) ++ bytes "R,"

  line-parts : (k : ℕ) (z : Size) → aperture_line pitch k z
      ≡ bytes "%ADD" ++ (numbered k ++ ((millimetres (z.wide * pitch) ++ bytes "X") ++ (millimetres (z.high * pitch) ++ bytes "*%\n")))
  unfolding aperture_line numbered
  line-parts k z =
      let w = millimetres (z.wide * pitch) in
      let h = millimetres (z.high * pitch) ++ bytes "*%\n" in
      ap (bytes "%ADD" ++◌) (sym (append_assoc (decimal (first_number + k)) (bytes "R,") (w ++ (bytes "X" ++ h)))
      ∙ ap ((decimal (first_number + k) ++ bytes "R,") ++◌) (sym (append_assoc w (bytes "X") h)))

  module _ (sizes : List Size) (k spot : ℕ) (len : length sizes ≡ k) where
    -- no size has its line there
    none_if : ((z : Size) → In z grid_sizes → any (is_same_size z) sizes ≡ false → stands text spot (aperture_line pitch k z) ≡ true → ⊥) → aperture_at pitch text sizes spot ≡ none
    unfolding aperture_at
    none_if h =
        none_first _ grid_sizes
        (λ z m.
        fails (stands text spot (aperture_line pitch (length sizes) z) && not (any (is_same_size z) sizes))
        (λ t.
        h z m (not-true _ (and_right (stands text spot (aperture_line pitch (length sizes) z)) (not (any (is_same_size z) sizes)) t))
        (sym (ap (λ (n : ℕ). stands text spot (aperture_line pitch n z)) len) ∙ and_left (stands text spot (aperture_line pitch (length sizes) z)) (not (any (is_same_size z) sizes)) t)))

    -- the parts of a line that stands there
    opened : (z : Size) → stands text spot (aperture_line pitch k z) ≡ true
        → (stands text spot (bytes "%ADD") ≡ true) × (stands text (spot + 4) (numbered k ++ ((millimetres (z.wide * pitch) ++ bytes "X") ++ (millimetres (z.high * pitch) ++ bytes "*%\n"))) ≡ true)
    opened z t =
        let r = numbered k ++ ((millimetres (z.wide * pitch) ++ bytes "X") ++ (millimetres (z.high * pitch) ++ bytes "*%\n")) in
        let u : (stands text spot (bytes "%ADD") && stands text (spot + 4) r) ≡ true = sym (stands-append text spot (bytes "%ADD") r) ∙ sym (ap (stands text spot) (line-parts k z)) ∙ t in
        (and_left (stands text spot (bytes "%ADD")) (stands text (spot + 4) r) u, and_right (stands text spot (bytes "%ADD")) (stands text (spot + 4) r) u)

    pub aperture_no_word : word_at text spot (bytes "%ADD") ≡ None → aperture_at pitch text sizes spot ≡ none
    unfolding word_at
    aperture_no_word e = none_if (λ z m n t. never (opened z t).0 (found_nothing (stands text spot (bytes "%ADD")) (spot + 4) e))

    module _ {number : ℕ} (e : word_at text spot (bytes "%ADD") ≡ Some number) where
      past_word : spot + 4 ≡ number
      unfolding word_at
      past_word = (found-spot (stands text spot (bytes "%ADD")) (spot + 4) e).1

      numbers : (z : Size) → stands text spot (aperture_line pitch k z) ≡ true
          → (stands text number (numbered k) ≡ true)
          × (stands text (number + length (numbered k)) ((millimetres (z.wide * pitch) ++ bytes "X") ++ (millimetres (z.high * pitch) ++ bytes "*%\n")) ≡ true)
      numbers z t =
          let r = (millimetres (z.wide * pitch) ++ bytes "X") ++ (millimetres (z.high * pitch) ++ bytes "*%\n") in
          let u : (stands text number (numbered k) && stands text (number + length (numbered k)) r) ≡ true =
          sym (stands-append text number (numbered k) r) ∙ sym (ap (λ (i : ℕ). stands text i (numbered k ++ r)) past_word) ∙ (opened z t).1 in
          (and_left (stands text number (numbered k)) (stands text (number + length (numbered k)) r) u, and_right (stands text number (numbered k)) (stands text (number + length (numbered k)) r) u)

      pub aperture_no_number : word_at text number (decimal (first_number + k) ++ bytes "R,") ≡ None → aperture_at pitch text sizes spot ≡ none
      unfolding word_at numbered
      aperture_no_number f = none_if (λ z m n t. never (numbers z t).0 (found_nothing (stands text number (numbered k)) (number + length (numbered k)) f))

      module _ {across : ℕ} (f : word_at text number (decimal (first_number + k) ++ bytes "R,") ≡ Some across) where
        past-number : number + length (numbered k) ≡ across
        unfolding word_at numbered
        past-number = (found-spot (stands text number (numbered k)) (number + length (numbered k)) f).1

        sides : (z : Size) → stands text spot (aperture_line pitch k z) ≡ true
            → (side_at text across pitch (bytes "X") z.wide ≡ true) × (side_at text (across + length (millimetres (z.wide * pitch) ++ bytes "X")) pitch (bytes "*%\n") z.high ≡ true)
        sides z t =
            let w = millimetres (z.wide * pitch) ++ bytes "X" in
            let h = millimetres (z.high * pitch) ++ bytes "*%\n" in
            let u : (stands text across w && stands text (across + length w) h) ≡ true =
            sym (stands-append text across w h) ∙ sym (ap (λ (i : ℕ). stands text i (w ++ h)) past-number) ∙ (numbers z t).1 in
            (and_left (stands text across w) (stands text (across + length w) h) u, and_right (stands text across w) (stands text (across + length w) h) u)

        pub aperture_no_width : found_side text across pitch (bytes "X") ≡ None → aperture_at pitch text sizes spot ≡ none
        aperture_no_width g =
            none_if (λ z m n t. let b = grid_in z m in never (sides z t).0 (side-none across (bytes "X") g z.wide b.0 b.1))

        module _ {wide up : ℕ} (g : found_side text across pitch (bytes "X") ≡ Some (wide, up)) where
          -- the width that was found is the line's, and its height stands past it
          width : (z : Size) → stands text spot (aperture_line pitch k z) ≡ true → (z.wide ≡ wide) × (side_at text up pitch (bytes "*%\n") z.high ≡ true)
          width z t =
              let s = sides z t in
              let r = side-found across (bytes "X") g in
              let e = side-only across (bytes "X") z.wide wide s.0 r.2 in
              (e, subst (λ i. side_at text i pitch (bytes "*%\n") z.high ≡ true) (ap (λ (n : ℕ). across + length (millimetres (n * pitch) ++ bytes "X")) e ∙ r.3) s.1)

          pub aperture_no_height : found_side text up pitch (bytes "*%\n") ≡ None → aperture_at pitch text sizes spot ≡ none
          aperture_no_height h =
              none_if (λ z m n t. let b = grid_in z m in never (width z t).1 (side-none up (bytes "*%\n") h z.high b.2 b.3))

          module _ {high end : ℕ} (h : found_side text up pitch (bytes "*%\n") ≡ Some (high, end)) where
            this : Size
            this = record { wide = wide; high = high }

            pub found-bounds : (1 ≤ wide) × (wide ≤ side) × (1 ≤ high) × (high ≤ side)
            found-bounds =
                let a = side-found across (bytes "X") g in
                let b = side-found up (bytes "*%\n") h in
                (a.0, a.1, b.0, b.1)

            only : (z : Size) → stands text spot (aperture_line pitch k z) ≡ true → z ≡ this
            unfolding this
            only z t =
                let a = width z t in
                let b = side-only up (bytes "*%\n") z.high high a.1 (side-found up (bytes "*%\n") h).2 in
                λ i. record { wide = a.0 i; high = b i }

            pub aperture_again : any (is_same_size (record { wide = wide; high = high })) sizes ≡ true → aperture_at pitch text sizes spot ≡ none
            unfolding this
            aperture_again r = none_if (λ z m n t. never r (sym (ap (λ (y : Size). any (is_same_size y) sizes) (only z t)) ∙ n))

            -- the line of this size
            there : stands text spot (aperture_line pitch k this) ≡ true
            unfolding this word_at numbered
            there =
                let w = millimetres (wide * pitch) ++ bytes "X" in
                let u = millimetres (high * pitch) ++ bytes "*%\n" in
                let a = found-spot (stands text spot (bytes "%ADD")) (spot + 4) e in
                let b = found-spot (stands text number (numbered k)) (number + length (numbered k)) f in
                let c = side-found across (bytes "X") g in
                let d = side-found up (bytes "*%\n") h in
                let sides : stands text across (w ++ u) ≡ true =
                stands-append text across w u ∙ and_both (stands text across w) (stands text (across + length w) u) c.2 (ap (λ (i : ℕ). stands text i u) c.3 ∙ d.2) in
                let all : stands text number (numbered k ++ (w ++ u)) ≡ true =
                stands-append text number (numbered k) (w ++ u)
                ∙ and_both (stands text number (numbered k)) (stands text (number + length (numbered k)) (w ++ u)) b.0 (ap (λ (i : ℕ). stands text i (w ++ u)) b.1 ∙ sides) in
                ap (stands text spot) (line-parts k (record { wide = wide; high = high }))
                ∙ stands-append text spot (bytes "%ADD") (numbered k ++ (w ++ u))
                ∙ and_both (stands text spot (bytes "%ADD")) (stands text (spot + 4) (numbered k ++ (w ++ u))) a.0 (ap (λ (i : ℕ). stands text i (numbered k ++ (w ++ u))) a.1 ∙ all)

            ends : spot + length (aperture_line pitch k this) ≡ end
            unfolding this
            ends =
                let w = millimetres (wide * pitch) ++ bytes "X" in
                let u = millimetres (high * pitch) ++ bytes "*%\n" in
                let c = side-found across (bytes "X") g in
                let d = side-found up (bytes "*%\n") h in
                omega (
                  arith,
                  ap length (line-parts k (record { wide = wide; high = high })),
                  length-append (bytes "%ADD") (numbered k ++ (w ++ u)),
                  length-append (numbered k) (w ++ u),
                  length-append w u,
                  past_word,
                  past-number,
                  c.3,
                  d.3,
                )

            pub aperture_read : any (is_same_size (record { wide = wide; high = high })) sizes ≡ false
                → found_of (aperture_at pitch text sizes spot) (λ z. spot + length (aperture_line pitch k z)) ≡ Some (record { wide = wide; high = high }, end)
            unfolding aperture_at this
            aperture_read r =
                let b = found-bounds in
                let z : Size = record { wide = wide; high = high } in
                let p : Size → Bool = λ y. stands text spot (aperture_line pitch (length sizes) y) && not (any (is_same_size y) sizes) in
                let l : (y : Size) → stands text spot (aperture_line pitch (length sizes) y) ≡ stands text spot (aperture_line pitch k y) =
                λ y. ap (λ (n : ℕ). stands text spot (aperture_line pitch n y)) len in
                let o : first p grid_sizes ≡ some z =
                first-only p grid_sizes (in_grid wide high b.0 b.1 b.2 b.3)
                (and_both (stands text spot (aperture_line pitch (length sizes) z)) (not (any (is_same_size z) sizes)) (l z ∙ there) (ap not r))
                (λ y m t. only y (sym (l y) ∙ and_left (stands text spot (aperture_line pitch (length sizes) y)) (not (any (is_same_size y) sizes)) t)) in
                ap (λ q. found_of q (λ y. spot + length (aperture_line pitch k y))) o ∙ ap (λ (j : ℕ). Some (z, j)) ends
