-- What the benchmark's function answers: the number of intervals of an area's final set; 0 where the cover would refuse the raster.
use Rattle.std.specs.Prelude.{◌≡◌, List, ◌++◌, ◌≢◌, ℕ, length}
use Rattle.method.specs.Final.{final}
use Rattle.grid.specs.Limits.{flash_room_size, mark_room_size}
use Rattle.grid.specs.Answers.{first_refusal}
use Rattle.grid.specs.Raster.{area_of}
use Rattle.columns.specs.Columns.{raster_checks}
use Rattle.cover.specs.Slices.{starting}
use Rattle.cover.specs.Code.{size_checks}

-- the number of the refusal, 0 for none
abbrev pub refusal : ℕ → ℕ → List ℕ → ℕ
refusal w h raster = (first_refusal (size_checks w h 0 (length raster) flash_room_size mark_room_size ++ raster_checks w h raster)).number

pub record FinalSize (w h : ℕ) (raster : List ℕ) (r : ℕ) : Type 0 where
  pub refused : refusal w h raster ≢ 0 → r ≡ 0
  pub done : refusal w h raster ≡ 0 → r ≡ length (final w (starting (area_of w h raster) w h))
