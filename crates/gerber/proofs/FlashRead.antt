-- A flash read part by part: its letter, the square of its coordinate along each axis. `read_flash` goes by the four laws.
-- A coordinate that stands at a spot is that of one square alone, so the first square found across is the flash's.
use mathlib.Core.Path.{◌≡◌, refl, sym, ap, ◌∙◌}
use mathlib.Core.Bool.{Bool, true, false, ◌&&◌}
use mathlib.Core.List.{List, ◌++◌, append_assoc}
use mathlib.Core.Option.{Option, none, some}
use Prim.Native.Nat.{ℕ, suc, ◌+◌, ◌-◌, ◌≤◌, ◌<◌}
use native.Mathlib.Omega.{arith}
use lib.IntN.{ℤ}
use lib.ListN.{length, drop, length-append}
use Rattle.std.specs.Option.{ok_or}
use Rattle.lists.specs.Lists.{first, up_to}
use Rattle.lists.proofs.Truth.{fails, never, and_left, and_right, and_both}
use Rattle.lists.proofs.Members.{In, first-only, none_first, first_found, first-none}
use Rattle.lists.proofs.Ranges.{from_in}
use Rattle.lists.proofs.Searches.{first-within}
use Rattle.grid.specs.Limits.{side, lines}
use Rattle.grid.specs.Squares.{Rectangle}
use Rattle.text.specs.Decimal.{run}
use Rattle.text.specs.Signed.{signed}
use Rattle.std.specs.Prelude.{Option as Maybe, Some, None, Ok, Err}
use Rattle.text.specs.Words.{stands, word_at}
use Rattle.text.proofs.Passes.{found-spot}
use Rattle.text.proofs.Stands.{stands-append, stands-front}
use Rattle.gerber.specs.File.{bytes, flash_line, centre, centre_line, coordinate_in_range, centre_fits, pitch_fits}
use Rattle.gerber.specs.declared.sizes.Size.{Size}
use Rattle.gerber.specs.Reading.{placed, placements, size_at, placed_at, on_current, flash_at, flash_turn}
use Rattle.gerber.specs.Parts.{square_at, found_square, flash_is, flash_found, bad_line, turn_of}
use Rattle.cover.specs.declared.flashes.Flash.{Flash}
use Rattle.gerber.specs.declared.turns.Reached.{Reached}
use Rattle.gerber.proofs.Compared.{found_nothing}
use Rattle.gerber.proofs.ApertureRead.{not_found, found_at}
use Rattle.gerber.proofs.Apart.{both_stand, coordinate_apart}
use Rattle.gerber.proofs.Stood.{least_pitch, centre-apart}
use Rattle.gerber.proofs.ReadTurns.{in_placed, placed_in, placed-apart}

module _ (pitch : ℕ) (fits : pitch_fits pitch ≡ true) (x y : ℤ) (t : List ℕ) (z : Size) (w : 1 ≤ z.wide) (h : 1 ≤ z.high) (i : ℕ) where
  -- the centre along each axis
  abbrev across : ℕ → ℤ
  across c = centre pitch x c (c + z.wide - 1)

  abbrev upward : ℕ → ℤ
  upward r = centre pitch y r (r + z.high - 1)

  -- where the second coordinate stands
  abbrev up : ℕ → ℕ
  up c = i + 1 + length (signed (across c) ++ bytes "Y")

  -- the tests of the two searches
  abbrev column : ℕ → Bool
  column c = square_at t (i + 1) (across c) (bytes "Y")

  abbrev row : ℕ → ℕ → Bool
  row spot r = square_at t spot (upward r) (bytes "D03*\n")

  opened : (c r : ℕ) → centre_line pitch x y (placed z c r) ≡ bytes "X" ++ ((signed (across c) ++ bytes "Y") ++ (signed (upward r) ++ bytes "D03*\n"))
  unfolding flash_line
  opened c r = ap (bytes "X" ++◌) (sym (append_assoc (signed (across c)) (bytes "Y") (signed (upward r) ++ bytes "D03*\n")))

  pub flash-past : (c r : ℕ) → up c + length (signed (upward r) ++ bytes "D03*\n") ≡ i + length (centre_line pitch x y (placed z c r))
  flash-past c r =
      let a : List ℕ = signed (across c) ++ bytes "Y" in
      let b : List ℕ = signed (upward r) ++ bytes "D03*\n" in
      let n : length (bytes "X" ++ (a ++ b)) ≡ 1 + length (a ++ b) = length-append (bytes "X") (a ++ b) in
      omega (arith, ap length (opened c r), length-append a b)

  parts : (c r : ℕ)
      → stands t i (centre_line pitch x y (placed z c r)) ≡ (stands t i (bytes "X") && (stands t (i + 1) (signed (across c) ++ bytes "Y") && stands t (up c) (signed (upward r) ++ bytes "D03*\n")))
  parts c r =
      let a : List ℕ = signed (across c) ++ bytes "Y" in
      let b : List ℕ = signed (upward r) ++ bytes "D03*\n" in
      ap (stands t i) (opened c r) ∙ stands-append t i (bytes "X") (a ++ b) ∙ ap (λ (u : Bool). stands t i (bytes "X") && u) (stands-append t (i + 1) a b)

  -- the whole test, and its parts
  abbrev test : Rectangle → Bool
  test q = stands t i (centre_line pitch x y q) && centre_fits pitch x y q

  record Parts (c r : ℕ) : Type 0 where
    letter : stands t i (bytes "X") ≡ true
    first_part : column c ≡ true
    second-part : row (up c) r ≡ true

  taken-apart : (c r : ℕ) → test (placed z c r) ≡ true → Parts c r
  taken-apart c r e =
      let line : Bool = stands t i (centre_line pitch x y (placed z c r)) in
      let l : Bool = stands t i (bytes "X") in
      let a : Bool = stands t (i + 1) (signed (across c) ++ bytes "Y") in
      let b : Bool = stands t (up c) (signed (upward r) ++ bytes "D03*\n") in
      let s : (l && (a && b)) ≡ true = sym (parts c r) ∙ and_left line (centre_fits pitch x y (placed z c r)) e in
      let f = and_right line (centre_fits pitch x y (placed z c r)) e in
      record {
        letter = and_left l (a && b) s;
        first_part = and_both (coordinate_in_range (across c)) a (and_left (coordinate_in_range (across c)) (coordinate_in_range (upward r)) f) (and_left a b (and_right l (a && b) s));
        second-part = and_both (coordinate_in_range (upward r)) b (and_right (coordinate_in_range (across c)) (coordinate_in_range (upward r)) f) (and_right a b (and_right l (a && b) s));
      }

  together : (c r : ℕ) → Parts c r → test (placed z c r) ≡ true
  together c r p =
      let line : Bool = stands t i (centre_line pitch x y (placed z c r)) in
      let l : Bool = stands t i (bytes "X") in
      let a : Bool = stands t (i + 1) (signed (across c) ++ bytes "Y") in
      let b : Bool = stands t (up c) (signed (upward r) ++ bytes "D03*\n") in
      let s : line ≡ true = parts c r
      ∙ and_both l (a && b) p.letter (and_both a b (and_right (coordinate_in_range (across c)) a p.first_part) (and_right (coordinate_in_range (upward r)) b p.second-part)) in
      and_both line (centre_fits pitch x y (placed z c r)) s
      (and_both (coordinate_in_range (across c)) (coordinate_in_range (upward r)) (and_left (coordinate_in_range (across c)) a p.first_part)
      (and_left (coordinate_in_range (upward r)) b p.second-part))

  -- one column alone
  one-column : (c d : ℕ) → column c ≡ true → column d ≡ true → c ≡ d
  unfolding run
  one-column c d a b =
      let s = and_right (coordinate_in_range (across c)) (stands t (i + 1) (signed (across c) ++ bytes "Y")) a in
      let r = and_right (coordinate_in_range (across d)) (stands t (i + 1) (signed (across d) ++ bytes "Y")) b in
      let p : List ℕ = drop (i + 1 + length (signed (across c) ++ bytes "Y")) t in
      let q : List ℕ = drop (i + 1 + length (signed (across d) ++ bytes "Y")) t in
      let e = sym (append_assoc (signed (across c)) (bytes "Y") p) ∙ both_stand t (i + 1) (signed (across c) ++ bytes "Y") (signed (across d) ++ bytes "Y") s r
      ∙ append_assoc (signed (across d)) (bytes "Y") q in
      centre-apart pitch x c d z.wide (least_pitch pitch fits) w (coordinate_apart (across c) (across d) (bytes "Y" ++ p) (bytes "Y" ++ q) refl refl e).0

  -- none where no square passes
  none-placed : ((c r : ℕ) → In c (up_to (suc side - z.wide)) → In r (up_to (suc side - z.high)) → Parts c r → ⊥) → placed_at pitch x y t z i ≡ none
  unfolding placed_at
  none-placed n =
      none_first test (placements z)
      (λ q m. fails (test q) (λ e. let g = in_placed (suc side) z q m in n g.0 g.1 g.3 g.4 (taken-apart g.0 g.1 (ap test (sym g.2) ∙ e))))

  -- the four laws
  pub no_letter : stands t i (bytes "X") ≡ false → placed_at pitch x y t z i ≡ none
  no_letter f = none-placed (λ c r m k p. never p.letter f)

  pub no_column : first column (up_to (suc side - z.wide)) ≡ none → placed_at pitch x y t z i ≡ none
  no_column f = none-placed (λ c r m k p. never p.first_part (first-none column (up_to (suc side - z.wide)) f m))

  pub no_row : {c : ℕ} → first column (up_to (suc side - z.wide)) ≡ some c → first (row (up c)) (up_to (suc side - z.high)) ≡ none → placed_at pitch x y t z i ≡ none
  no_row {c} e f =
      none-placed (λ d r m k p.
      let o : d ≡ c = one-column d c p.first_part (first_found column (up_to (suc side - z.wide)) e).1 in
      never (ap (λ (d : ℕ). row (up d) r) (sym o) ∙ p.second-part) (first-none (row (up c)) (up_to (suc side - z.high)) f k))

  pub flash-found : {c r : ℕ} → stands t i (bytes "X") ≡ true → first column (up_to (suc side - z.wide)) ≡ some c → first (row (up c)) (up_to (suc side - z.high)) ≡ some r
      → placed_at pitch x y t z i ≡ some (placed z c r)
  unfolding placed_at
  flash-found {c} {r} l e f =
      let a = first_found column (up_to (suc side - z.wide)) e in
      let b = first_found (row (up c)) (up_to (suc side - z.high)) f in
      let u = together c r (record { letter = l; first_part = a.1; second-part = b.1 }) in
      let s = and_left (stands t i (centre_line pitch x y (placed z c r))) (centre_fits pitch x y (placed z c r)) u in
      let m = from_in 0 (suc side - z.wide) a.0 in
      let k = from_in 0 (suc side - z.high) b.0 in
      first-only test (placements z) (placed_in (suc side) z c r (omega (arith, m.1)) (omega (arith, k.1))) u
      (λ q n v.
      let g = in_placed (suc side) z q n in
      let v' : test (placed z g.0 g.1) ≡ true = ap test (sym g.2) ∙ v in
      g.2 ∙ placed-apart pitch fits x y t z g.0 g.1 c r i (drop (i + length (centre_line pitch x y (placed z c r))) t) w h (stands-front t i (centre_line pitch x y (placed z c r)) s)
      (and_left (stands t i (centre_line pitch x y (placed z g.0 g.1))) (centre_fits pitch x y (placed z g.0 g.1)) v'))

-- what was found, by the pitch and the origin that the code has
pub square-read : (t : List ℕ) (i n : ℕ) (close : List ℕ) {pitch pitch' : ℕ} {o o' : ℤ} {r f : Maybe (ℕ × ℕ)} → (pitch' ≡ pitch) × (o' ≡ o) → r ≡ found_square t i pitch' o' n close → r ≡ f
    → found_square t i pitch o n close ≡ f
square-read t i n close e a b = sym (λ j. found_square t i (e.0 j) (e.1 j) n close) ∙ sym a ∙ b

-- a square that is found lies on the grid
pub square_bound : (t : List ℕ) (i pitch : ℕ) (o : ℤ) (n : ℕ) (close : List ℕ) {a j : ℕ} → found_square t i pitch o n close ≡ Some (a, j) → a < lines - n
unfolding found_square
square_bound t i pitch o n close e =
    let f = found_at (first (λ a. square_at t i (centre pitch o a (a + n - 1)) close) (up_to (lines - n))) (λ a. i + length (signed (centre pitch o a (a + n - 1)) ++ close)) e in
    omega (arith, (first-within (λ a. square_at t i (centre pitch o a (a + n - 1)) close) 0 (lines - n) f.0).1)

-- a flash of a size at a spot, as the code finds its parts
module _ (pitch : ℕ) (fits : pitch_fits pitch ≡ true) (x y : ℤ) (t : List ℕ) (z : Size) (w : 1 ≤ z.wide) (h : 1 ≤ z.high) (spot : ℕ) where
  letter_there : {i : ℕ} → word_at t spot (bytes "X") ≡ Some i → (stands t spot (bytes "X") ≡ true) × (spot + 1 ≡ i)
  unfolding word_at
  letter_there e = found-spot (stands t spot (bytes "X")) (spot + 1) e

  column-none : found_square t (spot + 1) pitch x z.wide (bytes "Y") ≡ None → first (column pitch fits x y t z w h spot) (up_to (suc side - z.wide)) ≡ none
  unfolding found_square
  column-none e = not_found (first (column pitch fits x y t z w h spot) (up_to (lines - z.wide))) (up pitch fits x y t z w h spot) e

  column-some : {c j : ℕ} → found_square t (spot + 1) pitch x z.wide (bytes "Y") ≡ Some (c, j)
      → (first (column pitch fits x y t z w h spot) (up_to (suc side - z.wide)) ≡ some c) × (up pitch fits x y t z w h spot c ≡ j)
  unfolding found_square
  column-some e = found_at (first (column pitch fits x y t z w h spot) (up_to (lines - z.wide))) (up pitch fits x y t z w h spot) e

  row-none : (i : ℕ) → found_square t i pitch y z.high (bytes "D03*\n") ≡ None → first (row pitch fits x y t z w h spot i) (up_to (suc side - z.high)) ≡ none
  unfolding found_square
  row-none i e = not_found (first (row pitch fits x y t z w h spot i) (up_to (lines - z.high))) (λ r. i + length (signed (upward pitch fits x y t z w h spot r) ++ bytes "D03*\n")) e

  row-some : (i : ℕ) {r j : ℕ} → found_square t i pitch y z.high (bytes "D03*\n") ≡ Some (r, j)
      → (first (row pitch fits x y t z w h spot i) (up_to (suc side - z.high)) ≡ some r) × (i + length (signed (upward pitch fits x y t z w h spot r) ++ bytes "D03*\n") ≡ j)
  unfolding found_square
  row-some i e = found_at (first (row pitch fits x y t z w h spot i) (up_to (lines - z.high))) (λ r. i + length (signed (upward pitch fits x y t z w h spot r) ++ bytes "D03*\n")) e

  -- what is found
  abbrev told : Option Rectangle → Maybe (Flash × ℕ)
  told o = flash_found o (λ q. spot + length (centre_line pitch x y q))

  pub letter_missing : word_at t spot (bytes "X") ≡ None → None ≡ told (placed_at pitch x y t z spot)
  unfolding word_at
  letter_missing e = sym (ap told (no_letter pitch fits x y t z w h spot (found_nothing (stands t spot (bytes "X")) (spot + 1) e)))

  module _ {i : ℕ} (l : word_at t spot (bytes "X") ≡ Some i) where
    pub column-missing : found_square t i pitch x z.wide (bytes "Y") ≡ None → None ≡ told (placed_at pitch x y t z spot)
    column-missing e = sym (ap told (no_column pitch fits x y t z w h spot (column-none (ap (λ (i : ℕ). found_square t i pitch x z.wide (bytes "Y")) (letter_there l).1 ∙ e))))

    module _ {c j : ℕ} (e : found_square t i pitch x z.wide (bytes "Y") ≡ Some (c, j)) where
      there : (first (column pitch fits x y t z w h spot) (up_to (suc side - z.wide)) ≡ some c) × (up pitch fits x y t z w h spot c ≡ j)
      there = column-some (ap (λ (i : ℕ). found_square t i pitch x z.wide (bytes "Y")) (letter_there l).1 ∙ e)

      pub row-missing : found_square t j pitch y z.high (bytes "D03*\n") ≡ None → None ≡ told (placed_at pitch x y t z spot)
      row-missing f =
          sym (ap told (no_row pitch fits x y t z w h spot there.0 (row-none (up pitch fits x y t z w h spot c) (ap (λ (i : ℕ). found_square t i pitch y z.high (bytes "D03*\n")) there.1 ∙ f))))

      pub both-there : {r end : ℕ} → found_square t j pitch y z.high (bytes "D03*\n") ≡ Some (r, end) → Some (flash_is (placed z c r), end) ≡ told (placed_at pitch x y t z spot)
      both-there {r} {end} f =
          let g = row-some (up pitch fits x y t z w h spot c) (ap (λ (i : ℕ). found_square t i pitch y z.high (bytes "D03*\n")) there.1 ∙ f) in
          let n : end ≡ spot + length (centre_line pitch x y (placed z c r)) = sym g.1 ∙ flash-past pitch fits x y t z w h spot c r in
          ap (λ (k : ℕ). Some (flash_is (placed z c r), k)) n
          ∙ sym (ap told (flash-found pitch fits x y t z w h spot (letter_there l).0 there.0 g.0))

-- the turn of a flash: what is found of it, and which size it has
module _ (pitch : ℕ) (x y : ℤ) (s : Reached) where
  pub turn-none : (o : Option Rectangle) → flash_found o (λ q. s.at + length (centre_line pitch x y q)) ≡ None → Err (bad_line s.line) ≡ turn_of (flash_turn pitch x y s o)
  turn-none none e = refl
  turn-none (some q) e = let z : ◌≡◌ {A = ℕ} 0 1 = cc in absurd (omega arith)

  pub turn-some : (o : Option Rectangle) {f : Flash} {at : ℕ} → flash_found o (λ q. s.at + length (centre_line pitch x y q)) ≡ Some (f, at)
      → Ok (Some (f, record { line = s.line + 1; at = at; used = s.used; current = s.current })) ≡ turn_of (flash_turn pitch x y s o)
  turn-some none e = let z : ◌≡◌ {A = ℕ} 0 1 = cc in absurd (omega arith)
  turn-some (some q) {f} {at} e =
      let p : ◌≡◌ {A = Flash × ℕ} (f, at) (flash_is q, s.at + length (centre_line pitch x y q)) = cc in
      ap (λ (r : Flash × ℕ). Ok (Some (r.0, record { line = s.line + 1; at = r.1; used = s.used; current = s.current }))) p

  module _ (t : List ℕ) (sizes : List Size) where
    pub none_current : s.current ≡ None → Err (bad_line s.line) ≡ turn_of (flash_turn pitch x y s (flash_at pitch x y t sizes s))
    unfolding flash_at
    none_current e = sym (ap (λ (o : Maybe ℕ). turn_of (flash_turn pitch x y s (on_current o (λ k. placed_at pitch x y t (size_at sizes k) s.at)))) e)

    pub one_current : {k : ℕ} → s.current ≡ Some k → flash_at pitch x y t sizes s ≡ placed_at pitch x y t (size_at sizes k) s.at
    unfolding flash_at
    one_current u = ap (λ (o : Maybe ℕ). on_current o (λ k. placed_at pitch x y t (size_at sizes k) s.at)) u

-- a flash, or the line's number
module _ {A B : Type 0} where
  pub refused-none : (o : Maybe A) (b : B) {c : B} → ok_or o b ≡ Err c → (o ≡ None) × (b ≡ c)
  refused-none None b e = (refl, cc)
  refused-none (Some a) b e = let z : ◌≡◌ {A = ℕ} 0 1 = cc in absurd (omega arith)

  pub passed-some : (o : Maybe A) (b : B) {a : A} → ok_or o b ≡ Ok a → o ≡ Some a
  passed-some None b e = let z : ◌≡◌ {A = ℕ} 0 1 = cc in absurd (omega arith)
  passed-some (Some a) b e = cc
