-- No call of the writer gives a file that is longer than the formula says, whatever its arguments and rooms.
-- By the ways out of it: a refusal has no file, and what passed every check has the flashes of a cover, within the grid.
use mathlib.Core.Path.{◌≡◌, refl, sym, subst}
use mathlib.Core.List.{List}
use mathlib.Core.Logic.{by_cases, inl}
use Prim.Native.Nat.{ℕ, ◌≤◌}
use native.Mathlib.Decide.{ℕ_discrete}
use native.Mathlib.Omega.{arith}
use lib.IntN.{ℤ}
use lib.ListN.{length}
use Rattle.grid.specs.Answers.{first_refusal}
use Rattle.grid.specs.declared.answers.Answer.{Answer}
use Rattle.cover.specs.Cover as Cover
use Rattle.cover.specs.Cover.{cover_gives}
use Rattle.cover.specs.Records.{flashes_in}
use Rattle.cover.proofs.Checks.{answered-asked}
use Rattle.gerber.specs.Writing.{Given, file_checks, write_gives, WritesGerber}
use Rattle.gerber.specs.declared.write.WriteOutcome.{WriteOutcome}
use Rattle.gerber.proofs.Aside.{Told, told}
use Rattle.gerber.proofs.FileChecks.{file-short}
use Rattle.gerber.proofs.Filing.{not_covered, write_refused, write_done}
use Rattle.gerber.proofs.Longest.{longest_file}

abbrev Short : Given → Type 0
Short g = g.outcome.length ≤ longest_file

module _ (w h k : ℕ) (raster : List ℕ) (version pitch : ℕ) (x y : ℤ) (f m t : List ℕ) where
  abbrev covered : Cover.Given
  covered = cover_gives w h k raster f m

  abbrev checked : Answer
  checked = first_refusal (file_checks version pitch x y (flashes_in covered.outcome.flashes covered.flashes_after) (length t))

  filed-short : covered.outcome.answer ≡ 0 → Told w h k raster f m covered → Short (write_gives w h k raster version pitch x y f m t)
  filed-short z T =
      by_cases (ℕ_discrete checked.number 0)
      (λ p. subst Short (write_done w h k raster version pitch x y f m t T z refl p) (file-short version pitch x y covered.outcome.flashes covered.flashes_after (length t) (T.held z) p))
      (λ n. subst Short (write_refused w h k raster version pitch x y f m t T z refl n) (omega arith))

  gives-short : Short (write_gives w h k raster version pitch x y f m t)
  gives-short =
      by_cases (ℕ_discrete covered.outcome.answer 0)
      (λ z.
      let q = answered-asked w h k raster f m (inl z) in
      filed-short z (told w h k raster f m f m q.flashes-fit q.marks-fit q.flashes-fit q.marks-fit refl))
      (λ n. subst Short (sym (not_covered w h k raster version pitch x y f m t n)) (omega arith))

  -- of every outcome that fits the contract of `keekaboor_write_gerber`
  pub written-short : {r : WriteOutcome} {f' m' t' : List ℕ} → WritesGerber w h k raster version pitch x y f m t r f' m' t' → r.length ≤ longest_file
  written-short e = subst Short (sym e) gives-short
