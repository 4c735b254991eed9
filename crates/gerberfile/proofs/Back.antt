-- What reading a file back gave, printed. Its flashes are no more than the grid has columns, since their records are in the room.
use mathlib.Core.Path.{◌≡◌, sym, ap, subst, ◌∙◌}
use mathlib.Core.Bool.{true, false}
use mathlib.Core.List.{List}
use Prim.Native.Nat.{ℕ, ◌+◌, ◌≤◌}
use native.Mathlib.Omega.{arith}
use lib.Dec.{eqb}
use lib.IntN.{ℤ}
use mir.Syntax.{w64}
use mir.Val.{SFits, of_z, to_z}
use mir.Facts.{to_z-of_z}
use lib.ListN.{length, drop, replicate, length-append}
use Rattle.lists.specs.Lists.{gather}
use Rattle.lists.proofs.Truth.{bcase}
use Rattle.grid.specs.Limits.{side, flash_room_size}
use Rattle.grid.specs.Answers.{first_refusal}
use Rattle.grid.specs.Squares.{Rectangle}
use Rattle.grid.specs.Rooms.{written}
use Rattle.grid.specs.declared.answers.Answer.{Answer}
use Rattle.cover.specs.Records.{flash_bytes}
use Rattle.cover.proofs.Records.{flashes-length}
use Rattle.gerber.specs.Reading.{Read, Given, all_read, read_refused, flashes_of, read_file, read_checks, or_flashes, read_gives}
use Rattle.gerberfile.specs.Program.{read_back_text, read_text}

abbrev Few : Given → Type 0
Few g = length g.flashes_after ≤ flash_room_size → g.outcome.flashes ≤ side

written-few : (qs : List Rectangle) (f : List ℕ) → Few (all_read qs f)
unfolding written
written-few qs f l = omega (arith, flashes-length qs, length-append (gather flash_bytes qs) (drop (0 + length (gather flash_bytes qs)) f))

module _ (a : Answer) (r : Read) (f : List ℕ) where
  passed : eqb a.number 0 ≡ true → or_flashes a r f ≡ all_read (flashes_of r) f
  unfolding or_flashes
  passed u = rw u

  refused : eqb a.number 0 ≡ false → or_flashes a r f ≡ read_refused a f
  unfolding or_flashes
  refused u = rw u

  either-few : Few (or_flashes a r f)
  either-few = bcase (eqb a.number 0) (λ u. subst Few (sym (passed u)) (written-few (flashes_of r) f)) (λ u. subst Few (sym (refused u)) (λ l. omega arith))

module _ (text : List ℕ) (version pitch : ℕ) (x y : ℤ) (fx : SFits w64 x) (fy : SFits w64 y) {g : Given}
    (called : g ≡ read_gives version pitch (to_z w64 (of_z w64 x)) (to_z w64 (of_z w64 y)) text (replicate flash_room_size 0)) where
  e : g ≡ read_gives version pitch x y text (replicate flash_room_size 0)
  e = called ∙ (λ i. read_gives version pitch (to_z-of_z fx i) (to_z-of_z fy i) text (replicate flash_room_size 0))

  pub few-flashes : length g.flashes_after ≤ flash_room_size → g.outcome.flashes ≤ side
  unfolding read_gives
  few-flashes =
      let r : Read = read_file pitch x y text in
      let f : List ℕ = replicate flash_room_size 0 in
      subst Few (sym e) (either-few (first_refusal (read_checks version pitch f r)) r f)

  pub read-text : read_back_text g.outcome g.flashes_after ≡ read_text text version pitch x y
  unfolding read_text
  read-text = ap (λ (c : Given). read_back_text c.outcome c.flashes_after) e
