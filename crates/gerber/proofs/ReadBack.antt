-- Reading our own file back: of a file that a list of flashes gives, with the same pitch and origin, the flashes are read, all of them and in order.
-- The head is there byte by byte. Then a turn for each flash: known are the sizes used so far, and the sizes of the file are those and the ones still to come.
-- The read-back theorem of the exported functions stands on it.
use mathlib.Core.Path.{◌≡◌, refl, sym, ap, ◌∙◌}
use mathlib.Core.Bool.{Bool, true, false, cond, ◌||◌}
use mathlib.Core.List.{List, [], ◌∷◌, ◌++◌, append_assoc, append-nil}
use mathlib.Core.Option.{Option, none, some}
use Prim.Native.Nat.{ℕ, zero, suc, ◌+◌, ◌-◌, ◌≤◌, max}
use native.Mathlib.Omega.{arith}
use lib.Dec.{eqb}
use lib.IntN.{ℤ}
use lib.ListN.{length, drop}
use borrow.Author.Tests.{ne_eqb}
use Rattle.std.specs.Prelude.{Option as Maybe, Some, None}
use Rattle.lists.specs.Lists.{any}
use Rattle.lists.proofs.Truth.{bcase, never, and_left, and_right}
use Rattle.lists.proofs.Members.{any_append}
use Rattle.grid.specs.Limits.{side}
use Rattle.grid.specs.Squares.{Rectangle}
use Rattle.text.specs.Words.{begins}
use Rattle.cover.specs.Code.{Drawn}
use Rattle.gerber.specs.File.{size_of, is_same_size, added, used, apertures, place_of, select_line, changes, selects, centre_line, aperture_lines, flash_lines}
use Rattle.gerber.specs.File.{first_line, head_lines, end_line, gerber_file, pitch_fits, centre_fits, centres_fit}
use Rattle.gerber.specs.declared.sizes.Size.{Size}
use Rattle.gerber.specs.Reading.{Read, not_ruled, flashes_read, first_of, heads, read_head, Apertures, is_this, is_current, selected, size_at, flashed, Turned, flash}
use Rattle.gerber.specs.Reading.{turned, on_turn, read_flashes, past_apertures, read_body, read_file}
use Rattle.gerber.specs.declared.turns.Reached.{Reached}
use Rattle.gerber.proofs.GridSizes.{Drawns, used-on_grid}
use Rattle.gerber.proofs.Longest.{used-most}
use Rattle.gerber.proofs.FirstUse.{same_self, added-there, used-behind, each-once}
use Rattle.gerber.proofs.Places.{same_size, place_in, place_at, Known, in_known}
use Rattle.gerber.proofs.Stood.{passed}
use Rattle.gerber.proofs.ReadSizes.{apertures-read}
use Rattle.gerber.proofs.ReadTurns.{select-turn, flash-turn, end-turn}

known_added : (known : List Size) (z : Size) → any (is_same_size z) known ≡ true → added known z ≡ known
unfolding added
known_added known z u = rw u

module _ (pitch : ℕ) (fits : pitch_fits pitch ≡ true) (x y : ℤ) (t : List ℕ) (sizes : List Size) where
  -- the size before, if there was a flash, is known, and its aperture is the current one
  abbrev Before : Reached → List Size → Option Size → Type 0
  Before s known none = (known ≡ []) × (s.current ≡ None)
  Before s known (some z) = (any (is_same_size z) known ≡ true) × (s.current ≡ Some (place_of z sizes))

  -- a turn that gave a flash, and what is reached after it
  record Turn (s : Reached) (known : List Size) (q : Rectangle) (rest : List ℕ) : Type 0 where
    after : Reached
    turn : turned pitch x y t sizes s ≡ flash q after
    counted : after.used ≡ length (added known (size_of q))
    chosen : after.current ≡ Some (place_of (size_of q) sizes)
    there : drop after.at t ≡ rest

  with-select : (s : Reached) (known : List Size) (q : Rectangle) (rest : List ℕ) → Known sizes known (size_of q) → s.used ≡ length known → is_current s (place_of (size_of q) sizes) ≡ false
      → Drawn q → centre_fits pitch x y q ≡ true → drop s.at t ≡ select_line (place_of (size_of q) sizes) ++ (centre_line pitch x y q ++ rest) → Turn s known q rest
  with-select s known q rest i n c d f e =
      let z : Size = size_of q in
      let k : ℕ = place_of z sizes in
      record {
        after = flashed pitch x y (selected s k) q;
        turn = select-turn pitch fits x y t sizes s k q rest (place_in z sizes i.here) (omega (arith, i.low)) c (place_at z sizes i.here) d f e;
        counted = ap (λ (m : ℕ). max m (k + 1)) n ∙ i.more;
        chosen = refl;
        there = passed t (s.at + length (select_line k)) (centre_line pitch x y q) rest (passed t s.at (select_line k) (centre_line pitch x y q ++ rest) e);
      }

  without-select : (s : Reached) (known : List Size) (q : Rectangle) (rest : List ℕ) → Known sizes known (size_of q) → s.used ≡ length known → any (is_same_size (size_of q)) known ≡ true
      → s.current ≡ Some (place_of (size_of q) sizes) → Drawn q → centre_fits pitch x y q ≡ true → drop s.at t ≡ centre_line pitch x y q ++ rest → Turn s known q rest
  without-select s known q rest i n a c d f e =
      let z : Size = size_of q in
      record {
        after = flashed pitch x y s q;
        turn = flash-turn pitch fits x y t sizes s (place_of z sizes) q rest c (place_at z sizes i.here) d f e;
        counted = n ∙ ap length (sym (known_added known z a));
        chosen = c;
        there = passed t s.at (centre_line pitch x y q) rest e;
      }

  -- before the first flash none is current
  none_current : (s : Reached) (k : ℕ) → s.current ≡ None → is_current s k ≡ false
  none_current s k n = ap (λ (o : Maybe ℕ). is_this o k) n

  -- another size has another aperture
  other_current : (s : Reached) (w z : Size) → any (is_same_size w) sizes ≡ true → any (is_same_size z) sizes ≡ true → s.current ≡ Some (place_of w sizes) → is_same_size w z ≡ false
      → is_current s (place_of z sizes) ≡ false
  other_current s w z a b c d =
      let n : eqb (place_of w sizes) (place_of z sizes) ≡ false =
      ne_eqb (place_of w sizes) (place_of z sizes) (λ e. never (ap (is_same_size w) (sym (place_at z sizes b) ∙ ap (size_at sizes) (sym e) ∙ place_at w sizes a) ∙ same_self w) d) in
      ap (λ (o : Maybe ℕ). is_this o (place_of z sizes)) c ∙ n

  still_known : (known : List Size) (w : Size) (rs : List Rectangle) → sizes ≡ used known rs → any (is_same_size w) known ≡ true → any (is_same_size w) sizes ≡ true
  still_known known w rs e a =
      let b = used-behind known rs in
      ap (any (is_same_size w)) (e ∙ b.1) ∙ any_append (is_same_size w) known b.0 ∙ ap (λ (u : Bool). u || any (is_same_size w) b.0) a

  one-turn : (before : Option Size) (s : Reached) (known : List Size) (q : Rectangle) (rs : List Rectangle) (rest : List ℕ) → sizes ≡ used known (q ∷ rs) → s.used ≡ length known
      → Before s known before → Drawn q → centre_fits pitch x y q ≡ true
      → drop s.at t ≡ cond (changes before (size_of q)) (select_line (place_of (size_of q) sizes)) [] ++ (centre_line pitch x y q ++ rest) → Turn s known q rest
  unfolding used
  one-turn none s known q rs rest u n b d f e =
      with-select s known q rest (in_known sizes known (size_of q) rs u) n (none_current s (place_of (size_of q) sizes) b.1) d f e
  one-turn (some w) s known q rs rest u n b d f e =
      let z : Size = size_of q in
      let i = in_known sizes known z rs u in
      bcase (is_same_size w z)
      (λ v.
      let o : w ≡ z = same_size w z v in
      without-select s known q rest i n (ap (λ (w : Size). any (is_same_size w) known) (sym o) ∙ b.0) (b.1 ∙ ap (λ (w : Size). Some (place_of w sizes)) o) d f (rw v at e))
      (λ v.
      with-select s known q rest i n (other_current s w z (still_known known w (q ∷ rs) u b.0) i.here b.1 v) d f (rw v at e))

  flashes-read : (left : ℕ) (rs ds : List Rectangle) (known : List Size) (before : Option Size) (s : Reached) → length rs ≤ left → Drawns rs → centres_fit pitch x y rs ≡ true
      → sizes ≡ used known rs → s.used ≡ length known → Before s known before → drop s.at t ≡ flash_lines pitch x y sizes before rs ++ end_line
      → read_flashes left pitch x y t sizes ds s ≡ flashes_read (ds ++ rs)
  unfolding read_flashes flash_lines used
  flashes-read zero [] ds known before s l d f u n b e =
      ap (λ (r : Turned). on_turn r ds (λ q s'. not_ruled (s'.line - 1))) (end-turn pitch fits x y t sizes s (n ∙ ap length (sym u)) e) ∙ ap flashes_read (sym (append-nil ds))
  flashes-read zero (q ∷ rs) ds known before s l d f u n b e = absurd (omega arith)
  flashes-read (suc left) [] ds known before s l d f u n b e =
      ap (λ (r : Turned). on_turn r ds (λ q s'. read_flashes left pitch x y t sizes (ds ++ (q ∷ [])) s')) (end-turn pitch fits x y t sizes s (n ∙ ap length (sym u)) e)
      ∙ ap flashes_read (sym (append-nil ds))
  flashes-read (suc left) (q ∷ rs) ds known before s l d f u n b e =
      let z : Size = size_of q in
      let others : List ℕ = flash_lines pitch x y sizes (some z) rs in
      let e' = e ∙ append_assoc (selects sizes before z) (centre_line pitch x y q ++ others) end_line ∙ ap (selects sizes before z ++◌) (append_assoc (centre_line pitch x y q) others end_line) in
      let r = one-turn before s known q rs (others ++ end_line) u n b d.0 (and_left (centre_fits pitch x y q) (centres_fit pitch x y rs) f) e' in
      ap (λ (r : Turned). on_turn r ds (λ q s'. read_flashes left pitch x y t sizes (ds ++ (q ∷ [])) s')) r.turn
      ∙ flashes-read left rs (ds ++ (q ∷ [])) (added known z) (some z) r.after (omega arith) d.1 (and_right (centre_fits pitch x y q) (centres_fit pitch x y rs) f) u r.counted
      (added-there known z, r.chosen) r.there
      ∙ ap flashes_read (append_assoc ds (q ∷ []) rs)

-- the byte behind the apertures begins no aperture
behind : (pitch : ℕ) (x y : ℤ) (sizes : List Size) (qs : List Rectangle) → (b : ℕ) × (rest : List ℕ) × (eqb 37 b ≡ false) × (flash_lines pitch x y sizes none qs ++ end_line ≡ b ∷ rest)
unfolding flash_lines select_line
behind pitch x y sizes [] = (77, drop 1 end_line, refl, refl)
behind pitch x y sizes (q ∷ qs) = (68, _, refl, refl)

body-read : (pitch : ℕ) (x y : ℤ) (t : List ℕ) (spot : ℕ) (qs : List Rectangle) → pitch_fits pitch ≡ true → Drawns qs → centres_fit pitch x y qs ≡ true → length qs ≤ side
    → drop spot t ≡ aperture_lines pitch 0 (apertures qs) ++ (flash_lines pitch x y (apertures qs) none qs ++ end_line) → read_body pitch x y t spot ≡ flashes_read qs
body-read pitch x y t spot qs p d f few e =
    let sizes : List Size = apertures qs in
    let rest : List ℕ = flash_lines pitch x y sizes none qs ++ end_line in
    let b = behind pitch x y sizes qs in
    let a = apertures-read pitch p t side sizes [] spot b.0 b.1 (omega (arith, used-most [] qs)) (used-on_grid [] qs tt d) (each-once qs) b.2 (e ∙ ap (aperture_lines pitch 0 sizes ++◌) b.3) in
    ap (λ (a : Apertures). read_flashes side pitch x y t a.sizes [] (past_apertures a)) a
    ∙ flashes-read pitch p x y t sizes side qs [] [] none (past_apertures (record { sizes = sizes; past = spot + length (aperture_lines pitch 0 sizes) })) few d f refl refl (refl, refl)
    (passed t spot (aperture_lines pitch 0 sizes) rest e)

-- the head, byte by byte
head_read : (version : ℕ) (body : List ℕ) (next : ℕ → Read) → read_head (head_lines version ++ body) 1 (heads (head_lines version ++ body)) 0 next ≡ next (length (head_lines version))
unfolding read_head begins first_line first_of
head_read version body next = bcase (eqb version 1) (λ u. rw u) (λ u. rw u)

past_head : (version : ℕ) (body : List ℕ) → drop (length (head_lines version)) (head_lines version ++ body) ≡ body
unfolding first_line
past_head version body = bcase (eqb version 1) (λ u. rw u) (λ u. rw u)

-- Of at most as many flashes as the grid has columns, within the grid, with coordinates of at most ten digits, and a pitch in range: as they are written.
pub read_back : (version pitch : ℕ) (x y : ℤ) (qs : List Rectangle) → pitch_fits pitch ≡ true → Drawns qs → centres_fit pitch x y qs ≡ true → length qs ≤ side
    → read_file pitch x y (gerber_file version pitch x y qs) ≡ flashes_read qs
unfolding read_file gerber_file
read_back version pitch x y qs p d f few =
    let body : List ℕ = aperture_lines pitch 0 (apertures qs) ++ (flash_lines pitch x y (apertures qs) none qs ++ end_line) in
    head_read version body (read_body pitch x y (head_lines version ++ body))
    ∙ body-read pitch x y (head_lines version ++ body) (length (head_lines version)) qs p d f few (past_head version body)
