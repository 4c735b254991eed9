-- Demand 1 of a refusal: it changes no lent buffer and reports no flash and no copper; answer 9 alone writes and reports marks.
-- Read off the outcomes: each check refuses without a change, and of the two last outcomes only the short allowance is a refusal.
use mathlib.Core.Path.{refl, sym, subst}
use mathlib.Core.List.{List}
use mathlib.Core.Logic.{◌≢◌}
use Prim.Native.Nat.{ℕ}
use lib.Dec.{ltb}
use lib.ListN.{length}
use Rattle.lists.proofs.Truth.{bcase}
use Rattle.grid.specs.Squares.{Area}
use Rattle.grid.specs.Raster.{area_of}
use Rattle.cover.specs.Flashes.{flashes}
use Rattle.cover.specs.Cover.{Given, Gives, answered}
use Rattle.cover.specs.Demand1.{Refused}
use Rattle.cover.specs.declared.entry.Outcome.{Outcome}
use Rattle.cover.proofs.Checks.{outcomes}

answered-refused : (a : Area) (w h k : ℕ) (f m : List ℕ) → (answered a w h k f m).outcome.answer ≢ 0 → Refused f m (answered a w h k f m)
answered-refused a w h k f m =
    bcase (ltb k (length (flashes a w h)))
    (λ t. rw t (λ d. record { flash_room = refl; no-flashes = refl; no_copper = refl; no-area = refl; mark_room = λ n. absurd (n refl); no-marks = λ n. absurd (n refl) }))
    (λ t. rw t (λ d. absurd (d refl)))

pub demand-1 : (w h k : ℕ) (raster f m : List ℕ) (r : Outcome) (f' m' : List ℕ) → Gives w h k raster f m r f' m' → r.answer ≢ 0
    → Refused f m (record { outcome = r; flashes_after = f'; marks_after = m' })
demand-1 w h k raster f m r f' m' gives =
    subst (λ (g : Given). g.outcome.answer ≢ 0 → Refused f m g) (sym gives)
    (outcomes w h k raster f m (λ g. g.outcome.answer ≢ 0 → Refused f m g)
    (λ n x y l u d. record { flash_room = refl; no-flashes = refl; no_copper = refl; no-area = refl; mark_room = λ e. refl; no-marks = λ e. refl })
    (λ q. answered-refused (area_of w h raster) w h k f m))
