-- A piece printed into a room and compared with the text, and then what closes it: as if both stood in one word.
-- The functions that look for what may stand at a spot use it.
use mathlib.Core.Path.{◌≡◌, refl, sym, ap, ◌∙◌}
use mathlib.Core.Bool.{Bool, true, false, ◌&&◌}
use mathlib.Core.List.{List, ◌++◌}
use Prim.Native.Nat.{ℕ, ◌+◌, ◌-◌, ◌*◌, ◌/◌, ◌^◌, ◌≤◌, ◌<◌}
use native.Mathlib.Omega.{arith}
use native.Mathlib.Numerals.{add-one}
use lib.ListN.{length, take, drop, length-append}
use lib.Seq.{take_at}
use Rattle.lists.specs.Lists.{first, from}
use Rattle.lists.proofs.Searches.{first-here, first_on}
use Rattle.grid.specs.Limits.{side}
use Rattle.grid.specs.Rooms.{Written}
use Rattle.grid.proofs.Writing.{from_start}
use Rattle.std.specs.Prelude.{Some, None}
use Rattle.text.specs.Decimal.{digits, decimal}
use Rattle.text.specs.Words.{stands, found, word_at}
use Rattle.text.proofs.Lengths.{digits_grow}
use Rattle.text.proofs.Stands.{stands-append}
use Rattle.text.proofs.Passes.{found-spot}
use Rattle.gerber.specs.File.{millimetres}
use Rattle.gerber.specs.Parts.{found_of}
use Rattle.gerber.proofs.Pieces.{length_millimetres}

-- what was printed is the room's front
pub printed : {room after piece : List ℕ} {end : ℕ} → Written room 0 piece end after → take end after ≡ piece
printed {room} {after} {piece} {end} w =
    let n : length piece ≡ end = omega (arith, w.past) in
    ap (take end) (w.left ∙ from_start room piece) ∙ take_at piece (drop (length piece) room) end n

pub found_nothing : (b : Bool) (n : ℕ) → found b n ≡ None → b ≡ false
found_nothing true n e = let z : ◌≡◌ {A = ℕ} 0 1 = cc in absurd (omega arith)
found_nothing false n e = refl

module _ (t : List ℕ) (i : ℕ) (a b : List ℕ) where
  pub word_none : word_at t i a ≡ None → word_at t i (a ++ b) ≡ None
  unfolding word_at
  word_none e = let f = found_nothing (stands t i a) (i + length a) e in rw (stands-append t i a b, f)

  pub word_then : {at : ℕ} → word_at t i a ≡ Some at → word_at t i (a ++ b) ≡ word_at t at b
  unfolding word_at
  word_then {at} e =
      let f = found-spot (stands t i a) (i + length a) e in
      let n : i + length (a ++ b) ≡ i + length a + length b = omega (arith, length-append a b) in
      (λ j. found ((stands-append t i a b ∙ ap (λ (x : Bool). x && stands t (i + length a) b) f.0) j) (n j))
      ∙ ap (λ (x : ℕ). found (stands t x b) (x + length b)) f.1

-- a search for what stands at a spot, step by step
module _ (p : ℕ → Bool) (past : ℕ → ℕ) (a n : ℕ) where
  pub found_here : {next : ℕ} → a < n → found (p a) (past a) ≡ Some next → found_of (first p (from a (n - a))) past ≡ Some (a, next)
  found_here h e = let f = found-spot (p a) (past a) e in ap (λ o. found_of o past) (first-here p a n h f.0) ∙ ap (λ (j : ℕ). Some (a, j)) f.1

  pub found-on : a < n → p a ≡ false → found_of (first p (from a (n - a))) past ≡ found_of (first p (from (a + 1) (n - (a + 1)))) past
  found-on h f = ap (λ o. found_of o past) (first_on p a n h f) ∙ ap (λ (k : ℕ). found_of (first p (from k (n - k))) past) (sym (add-one a))

-- a search from 0 on
pub found-all : (p : ℕ → Bool) (past : ℕ → ℕ) (n : ℕ) → found_of (first p (from 0 (n - 0))) past ≡ found_of (first p (from 0 n)) past
found-all p past n = let e : n - 0 ≡ n = omega arith in ap (λ (m : ℕ). found_of (first p (from 0 m)) past) e

-- each piece fits its room
pub number_fits : (n : ℕ) → n < 2 ^ 64 → length (decimal n) ≤ 20
unfolding decimal digits
number_fits n h = let e : length (decimal (2 ^ 64 - 1)) ≡ 20 = refl in omega (arith, digits_grow (2 ^ 64 - 1) n (omega arith))

pub length_fits : (n : ℕ) → n ≤ side * 1000000 → length (millimetres n) ≤ 9
unfolding decimal digits
length_fits n h =
    let e : length (decimal side) ≡ 2 = refl in
    omega (arith, length_millimetres n, digits_grow side (n / 10 ^ 6) (omega arith))
