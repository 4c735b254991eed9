-- The rows that show an interval: the lowest that does is a row that does, and there is none exactly where no row shows it.
-- From the laws of `first` over the rows. The starting set and the marks use it.
use mathlib.Core.Path.{◌≡◌}
use mathlib.Core.Bool.{true, false}
use mathlib.Core.Option.{none, some}
use Prim.Native.Nat.{ℕ, ◌<◌}
use native.Mathlib.Omega.{arith}
use Rattle.lists.proofs.Truth.{ocase, never}
use Rattle.lists.proofs.Searches.{any_where, any-within, any-nowhere, first-within, first-missed}
use Rattle.method.specs.Intervals.{Interval}
use Rattle.grid.specs.Squares.{Area}
use Rattle.cover.specs.Slices.{slice, shown, lowest_shown}

module _ (a : Area) (h : ℕ) (i : Interval) where
  pub shown_by : (y : ℕ) → y < h → slice a y i ≡ true → shown a h i ≡ true
  unfolding shown
  shown_by y u s = any-within (λ z. slice a z i) 0 h y (omega arith) (omega arith) s

  pub shown-row : shown a h i ≡ true → (y : ℕ) × (y < h) × (slice a y i ≡ true)
  unfolding shown
  shown-row t = let r = any_where (λ y. slice a y i) 0 h t in (r.0, omega arith, r.3)

  pub lowest-shows : {y : ℕ} → lowest_shown a h i ≡ some y → (y < h) × (slice a y i ≡ true)
  unfolding lowest_shown
  lowest-shows e = let r = first-within (λ z. slice a z i) 0 h e in (omega arith, r.2)

  pub lowest-none : lowest_shown a h i ≡ none → shown a h i ≡ false
  unfolding shown lowest_shown
  lowest-none e = any-nowhere (λ z. slice a z i) 0 h (λ y l u. first-missed (λ z. slice a z i) 0 h e y l u)

  pub shown-lowest : shown a h i ≡ true → (y : ℕ) × (lowest_shown a h i ≡ some y)
  shown-lowest t = ocase (lowest_shown a h i) (λ e. absurd (never t (lowest-none e))) (λ y e. (y, e))
