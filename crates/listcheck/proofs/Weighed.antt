-- The cover that a sound list is weighed by: its allowance is the limit, which no area needs more than, so it gives every flash and every mark.
-- `weigh` uses it.
use mathlib.Core.Path.{◌≡◌, ap, ◌∙◌}
use mathlib.Core.List.{List}
use Prim.Native.Nat.{ℕ, ◌-◌, ◌≤◌}
use native.Mathlib.Omega.{arith}
use lib.ListN.{length}
use borrow.Author.Tests.{le-ltb}
use Rattle.grid.specs.Limits.{side, allowance_limit}
use Rattle.grid.specs.Squares.{Area, copper_number}
use Rattle.cover.specs.Flashes.{flashes}
use Rattle.cover.specs.Marks.{marks}
use Rattle.cover.specs.Cover.{Given as Covered, covered, answered}
use Rattle.cover.proofs.Covering.{flashes-short}
use Rattle.listcheck.specs.Checked.{Given, sound, sound_with}

module _ (a : Area) (w h : ℕ) where
  module _ (narrow : w ≤ side) where
    enough : (f m : List ℕ) → answered a w h allowance_limit f m ≡ covered (copper_number a w h) (flashes a w h) (marks a w h) f m
    enough f m = rw (le-ltb allowance_limit (length (flashes a w h)) (omega (arith, flashes-short a w h)))

    pub least-count : (f m : List ℕ) {g : Covered} → g ≡ answered a w h allowance_limit f m → g.outcome.flashes ≡ length (flashes a w h)
    least-count f m e = ap (λ (g : Covered). g.outcome.flashes) (e ∙ enough f m)

  -- what is told of a list of n flashes, from what the cover gave
  abbrev pub told : ℕ → Covered → Given
  told n g = record {
    outcome = record {
      answer = 0;
      place_x = 0;
      place_y = 0;
      verdict = sound;
      flashes = n;
      above = n - g.outcome.flashes;
      marks = g.outcome.marks;
    };
    marks_after = g.marks_after;
  }

  pub weighed : (n : ℕ) → w ≤ side → (f m : List ℕ) {g : Covered} → g ≡ answered a w h allowance_limit f m → told n g ≡ sound_with a w h n m
  weighed n narrow f m e = ap (told n) (e ∙ enough narrow f m)
