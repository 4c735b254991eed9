-- Any order of merging (document 02, R-8), stated with the raster.
-- "from the starting set of any area, choosing any minimal bracket at each step, the final set and the number of reductions are always those of document 01"
use Rattle.std.specs.Prelude.{◌≡◌, true, List, ℕ, length}
use Rattle.std.proofs.Math.Option.{none}
use Rattle.method.specs.Runs.{AnyOrder}
use Rattle.grid.specs.Raster.{size_fits, length_fits, area_of, bad_square}
use Rattle.cover.specs.Slices.{starting}

-- an area within the limits: width and height are 1 to 64, the raster is width times height bytes, and each of them is 0 or 1
pub record WithinLimits (w h : ℕ) (raster : List ℕ) : Type 0 where
  pub sides : size_fits w h ≡ true
  pub full : length_fits w h (length raster) ≡ true
  pub bytes : bad_square w raster ≡ none

-- `AnyOrder` (method/specs/Runs) says of a set: whatever minimal bracket is chosen at each step, a run that cannot go on has come to rule 5's final set after as many
-- reductions as rule 5 makes; wherever a run has come to, it can go on to there; no run goes on for ever; and the final set has no dependent bracket
abbrev pub Merging : Type 0
Merging = (w h : ℕ) (raster : List ℕ) → WithinLimits w h raster → AnyOrder w (starting (area_of w h raster) w h)
