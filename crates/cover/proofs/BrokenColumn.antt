-- Answer 8: where the checks before it pass, it is given exactly where a column is broken, with the place of the lowest gap of the leftmost broken column.
-- The search finds no square exactly where no column is broken, and then the answer is 0 or 9.
use mathlib.Core.Path.{◌≡◌, refl, sym, subst, ◌∙◌}
use mathlib.Core.List.{List, [], ◌∷◌}
use mathlib.Core.Logic.{◌↔◌, ⊎_elim}
use Prim.Native.Nat.{ℕ, ◌*◌, ◌≤◌, ◌<◌}
use native.Mathlib.Omega.{arith}
use lib.ListN.{length, get_or}
use Rattle.grid.specs.Limits.{side, allowance_limit, flash_room_size, mark_room_size}
use Rattle.lists.proofs.Truth.{ocase}
use Rattle.grid.specs.Answers.{check_at, or_else, first_refusal, broken_column}
use Rattle.grid.specs.Squares.{Unbroken, BrokenAt}
use Rattle.grid.specs.Raster.{area_of, broken_square}
use Rattle.grid.proofs.Areas.{area_in_grid}
use Rattle.grid.proofs.Broken.{no_gap, raster-unbroken, raster_broken}
use Rattle.cover.specs.Cover.{Given, Gives, refused_at, or_work, answered}
use Rattle.cover.specs.declared.entry.Outcome.{Outcome}
use Rattle.cover.proofs.Checks.{checked}
use Rattle.cover.proofs.Demand3.{answered-number}

-- what answer 8 says of a call
abbrev Eight : (w h : ℕ) (raster : List ℕ) → Given → Type 0
Eight w h raster g =
    ((g.outcome.answer ≡ broken_column) ↔ (Unbroken (area_of w h raster) → ⊥))
    × (g.outcome.answer ≡ broken_column → BrokenAt (area_of w h raster) g.outcome.place_x g.outcome.place_y)

module _ (w h k : ℕ) (raster f m : List ℕ) where
  not_eight : Unbroken (area_of w h raster) → (answered (area_of w h raster) w h k f m).outcome.answer ≡ broken_column → ⊥
  not_eight u e = ⊎_elim (λ z. omega arith) (λ z. omega arith) (answered-number (area_of w h raster) w h k f m (area_in_grid w h raster) u)

  answered-eight : Unbroken (area_of w h raster) → Eight w h raster (answered (area_of w h raster) w h k f m)
  answered-eight u = ((λ e. absurd (not_eight u e), λ n. absurd (n u)), λ e. absurd (not_eight u e))

  refused-eight : (c y : ℕ) → BrokenAt (area_of w h raster) c y → Eight w h raster (refused_at broken_column c y f m)
  refused-eight c y b = ((λ t u. no_gap (area_of w h raster) u c y b.here, λ n. refl), λ t. b)

  from-eight : Eight w h raster (or_work (first_refusal (check_at (broken_square (area_of w h raster) w h) broken_column ∷ [])) f m (answered (area_of w h raster) w h k f m))
  unfolding first_refusal or_else or_work
  from-eight =
      ocase (broken_square (area_of w h raster) w h)
      (λ e. rw e (answered-eight ((raster-unbroken w h raster).0 e)))
      (λ s e. rw e (refused-eight s.column s.row ((raster_broken w h raster s.column s.row).0 e)))

  module _ (wide : (1 ≤ w) × (w ≤ side)) (high : (1 ≤ h) × (h ≤ side)) (full : length raster ≡ w * h)
      (bytes : (i : ℕ) → i < length raster → get_or raster i 0 ≤ 1) (allowance : k ≤ allowance_limit)
      (flashes-fit : flash_room_size ≤ length f) (marks-fit : mark_room_size ≤ length m)
      (r : Outcome) (f' m' : List ℕ) (gives : Gives w h k raster f m r f' m') where
    eight : Eight w h raster (record { outcome = r; flashes_after = f'; marks_after = m' })
    eight = subst (Eight w h raster) (sym (gives ∙ checked w h k raster f m wide high full bytes allowance flashes-fit marks-fit)) from-eight

    pub broken_refused : (r.answer ≡ broken_column) ↔ (Unbroken (area_of w h raster) → ⊥)
    broken_refused = eight.0

    pub broken_place : r.answer ≡ broken_column → BrokenAt (area_of w h raster) r.place_x r.place_y
    broken_place = eight.1
