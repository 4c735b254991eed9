-- Writing piece by piece: what is left of a writing, at the spot that was reached, ends where the whole ends and leaves what the whole leaves.
-- A piece written takes it off the front of what is left. Every function that writes lines carries this from its start to its end.
use mathlib.Core.Path.{◌≡◌, refl, sym, ap, ◌∙◌}
use mathlib.Core.List.{List, [], ◌++◌, append-nil}
use Prim.Native.Nat.{ℕ, ◌+◌, ◌≤◌}
use native.Mathlib.Omega.{arith}
use lib.ListN.{length, length-append}
use Rattle.grid.specs.Rooms.{written, Written}
use Rattle.grid.proofs.Writing.{written_none, written_then, length-written}

-- a writing at an equal spot of an equal room
pub same-spot : {room₀ room : List ℕ} {spot at : ℕ} {bytes : List ℕ} {next : ℕ} {after : List ℕ} → room ≡ room₀ → at ≡ spot → Written room at bytes next after → Written room₀ spot bytes next after
same-spot e f w = rw (← e, ← f) w

-- the room that held `room₀`, where `bytes` are to be written at `spot`, now holds `room`, and `rest` of them are left for `at`
pub record Remains (room₀ : List ℕ) (spot : ℕ) (bytes room : List ℕ) (at : ℕ) (rest : List ℕ) : Type 0 where
  pub fits : at + length rest ≤ length room
  pub long : length room ≡ length room₀
  pub end : at + length rest ≡ spot + length bytes
  pub same : written room at rest ≡ written room₀ spot bytes

pub start : (room : List ℕ) (spot : ℕ) (bytes : List ℕ) → spot + length bytes ≤ length room → Remains room spot bytes room spot bytes
start room spot bytes fits = record { fits = fits; long = refl; end = refl; same = refl }

module _ {room₀ : List ℕ} {spot : ℕ} {bytes room : List ℕ} {at : ℕ} {rest : List ℕ} (l : Remains room₀ spot bytes room at rest) where
  -- there is room for the next piece
  pub fits_next : (a b : List ℕ) → rest ≡ a ++ b → at + length a ≤ length room
  fits_next a b e = omega (arith, l.fits, ap length e, length-append a b)

  pub piece : {after : List ℕ} {next : ℕ} (a b : List ℕ) → rest ≡ a ++ b → Written room at a next after → Remains room₀ spot bytes after next b
  piece {after} {next} a b e w =
      let n : length rest ≡ length a + length b = ap length e ∙ length-append a b in
      let fits = l.fits in
      let wide : length after ≡ length room = ap length w.left ∙ length-written room at a (omega arith) in
      let then : written after next b ≡ written room at (a ++ b) =
      ap (λ (x : List ℕ). written x next b) w.left
      ∙ ap (λ (x : ℕ). written (written room at a) x b) w.past
      ∙ written_then room at a b (omega arith) in
      record {
        fits = omega (arith, w.past);
        long = wide ∙ l.long;
        end = omega (arith, w.past, l.end);
        same = then ∙ ap (written room at) (sym e) ∙ l.same;
      }

  pub last : {after : List ℕ} {next : ℕ} (a : List ℕ) → rest ≡ a → Written room at a next after → Written room₀ spot bytes next after
  last {after} {next} a e w =
      let done = piece a [] (e ∙ sym (append-nil a)) w in
      record { past = omega (arith, done.end); left = sym (written_none after next) ∙ done.same }

  pub whole : rest ≡ [] → Written room₀ spot bytes at room
  whole e = record { past = omega (arith, l.end, ap length e); left = sym (written_none room at) ∙ ap (written room at) (sym e) ∙ l.same }
