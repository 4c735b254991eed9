-- Writing gives no more marks than the grid has columns, and no file that is longer than its room.
-- By the four ways out of it. Printing what it gave asks for both.
use mathlib.Core.Path.{refl, subst}
use mathlib.Core.List.{List}
use mathlib.Core.Logic.{by_cases}
use Prim.Native.Nat.{ℕ, ◌≤◌}
use native.Mathlib.Decide.{ℕ_discrete}
use native.Mathlib.Omega.{arith}
use lib.IntN.{ℤ}
use lib.ListN.{length}
use Rattle.grid.specs.Limits.{side, flash_room_size, mark_room_size}
use Rattle.grid.specs.Answers.{first_refusal}
use Rattle.grid.specs.declared.answers.Answer.{Answer}
use Rattle.cover.specs.Cover as Cover
use Rattle.cover.specs.Cover.{cover_gives}
use Rattle.cover.specs.Records.{flashes_in}
use Rattle.gerber.specs.Writing.{Given, file_checks, write_gives}
use Rattle.gerber.proofs.Aside.{Told, told}
use Rattle.gerber.proofs.FileChecks.{file-fits}
use Rattle.gerber.proofs.Filing.{write_none, write_refused, write_done}

abbrev Few : ℕ → Given → Type 0
Few room g = (g.outcome.marks ≤ side) × (g.outcome.length ≤ room)

module _ (w h k : ℕ) (raster : List ℕ) (version pitch : ℕ) (x y : ℤ) (f m t : List ℕ) (lf : flash_room_size ≤ length f) (lm : mark_room_size ≤ length m) where
  abbrev covered : Cover.Given
  covered = cover_gives w h k raster f m

  T : Told w h k raster f m covered
  T = told w h k raster f m f m lf lm lf lm refl

  abbrev checked : Answer
  checked = first_refusal (file_checks version pitch x y (flashes_in covered.outcome.flashes covered.flashes_after) (length t))

  pub few : Few (length t) (write_gives w h k raster version pitch x y f m t)
  few =
      by_cases (ℕ_discrete covered.outcome.answer 0)
      (λ z.
      by_cases (ℕ_discrete checked.number 0)
      (λ p. subst (Few (length t)) (write_done w h k raster version pitch x y f m t T z refl p)
      (T.few-marks, file-fits version pitch x y covered.outcome.flashes covered.flashes_after (length t) (T.held z) p))
      (λ n. subst (Few (length t)) (write_refused w h k raster version pitch x y f m t T z refl n) (omega arith, omega arith)))
      (λ n. subst (Few (length t)) (write_none w h k raster version pitch x y f m t T n) (T.few-marks, omega arith))
