-- Demand 2: on success the rooms hold the flashes and marks that the rules give, the flashes cover the copper and nothing else,
-- the counts and the flashed area are those of the records, and the copper number is the area's.
-- A success has passed every check, so the columns are unbroken and the flashes cover; the records are read back as they were written.
use mathlib.Core.Path.{◌≡◌, refl, sym, ap, subst}
use mathlib.Core.List.{List}
use mathlib.Core.Logic.{◌↔◌}
use Prim.Native.Nat.{ℕ, suc, ◌≤◌}
use native.Mathlib.Omega.{arith}
use lib.Dec.{ltb}
use lib.ListN.{length, take}
use Rattle.lists.proofs.Truth.{bcase}
use Rattle.grid.specs.Answers.{allowance_short}
use Rattle.grid.specs.Squares.{Area, InGrid, Unbroken, Cover, NoneShared, copper_number}
use Rattle.grid.specs.Raster.{area_of}
use Rattle.grid.proofs.Areas.{area_in_grid}
use Rattle.cover.specs.Flashes.{flashes, flashed_area}
use Rattle.cover.specs.Marks.{marks}
use Rattle.cover.specs.Cover.{Given, Gives, covered, answered}
use Rattle.cover.specs.Demand2.{Sound, ShortRuled}
use Rattle.cover.specs.declared.entry.Outcome.{Outcome}
use Rattle.cover.proofs.Covering.{flashes-cover}
use Rattle.cover.specs.Records.{flashes_in}
use Rattle.cover.proofs.Overlap.{copper-at-most, copper_equal}
use Rattle.cover.proofs.Records.{flashes-read, marks-read}
use Rattle.cover.proofs.Checks.{outcomes}

covered-sound : (a : Area) (w h : ℕ) (f m : List ℕ) → InGrid w h a → Unbroken a → Sound a w h (covered (copper_number a w h) (flashes a w h) (marks a w h) f m)
covered-sound a w h f m grid unbroken =
    let e = flashes-read (flashes a w h) f in
    record {
      flashes-ruled = e;
      marks-ruled = marks-read (marks a w h) m;
      flash-count = refl;
      mark-count = refl;
      copper-number = refl;
      flashed-area = ap flashed_area (sym e);
      cover = subst (Cover a) (sym e) (flashes-cover a w h grid unbroken);
    }

answered-sound : (a : Area) (w h k : ℕ) (f m : List ℕ) → InGrid w h a → Unbroken a → (answered a w h k f m).outcome.answer ≡ 0 → Sound a w h (answered a w h k f m)
answered-sound a w h k f m grid unbroken =
    bcase (ltb k (length (flashes a w h)))
    (λ t. rw t (λ e. absurd (omega arith)))
    (λ t. rw t (λ e. covered-sound a w h f m grid unbroken))

pub demand-2 : (w h k : ℕ) (raster f m : List ℕ) (r : Outcome) (f' m' : List ℕ) → Gives w h k raster f m r f' m' → r.answer ≡ 0
    → Sound (area_of w h raster) w h (record { outcome = r; flashes_after = f'; marks_after = m' })
demand-2 w h k raster f m r f' m' gives =
    let a = area_of w h raster in
    subst (λ (g : Given). g.outcome.answer ≡ 0 → Sound a w h g) (sym gives)
    (outcomes w h k raster f m (λ g. g.outcome.answer ≡ 0 → Sound a w h g)
    (λ n x y l u e. absurd (omega arith))
    (λ q. answered-sound a w h k f m (area_in_grid w h raster) q.unbroken))

-- the marks of answer 9
answered-short : (a : Area) (w h k : ℕ) (f m : List ℕ) → (answered a w h k f m).outcome.answer ≡ allowance_short → ShortRuled a w h k (answered a w h k f m)
answered-short a w h k f m =
    bcase (ltb k (length (flashes a w h)))
    (λ t. rw t (λ e. record { marks-ruled = marks-read (take (suc k) (marks a w h)) m }))
    (λ t. rw t (λ e. absurd (omega arith)))

pub demand-2-short : (w h k : ℕ) (raster f m : List ℕ) (r : Outcome) (f' m' : List ℕ) → Gives w h k raster f m r f' m' → r.answer ≡ allowance_short
    → ShortRuled (area_of w h raster) w h k (record { outcome = r; flashes_after = f'; marks_after = m' })
demand-2-short w h k raster f m r f' m' gives =
    let a = area_of w h raster in
    subst (λ (g : Given). g.outcome.answer ≡ allowance_short → ShortRuled a w h k g) (sym gives)
    (outcomes w h k raster f m (λ g. g.outcome.answer ≡ allowance_short → ShortRuled a w h k g)
    (λ n x y l u e. absurd (omega arith))
    (λ q. answered-short a w h k f m))

-- The two numbers of a success: the copper number is at most the flashed area, and equal exactly where no two flashes share a square.
pub two-numbers : (w h k : ℕ) (raster f m : List ℕ) (r : Outcome) (f' m' : List ℕ) → Gives w h k raster f m r f' m' → r.answer ≡ 0
    → (r.copper ≤ r.flashed) × ((r.copper ≡ r.flashed) ↔ NoneShared (flashes_in r.flashes f'))
two-numbers w h k raster f m r f' m' gives e =
    let s = demand-2 w h k raster f m r f' m' gives e in
    let grid = area_in_grid w h raster in
    rw (s.copper-number, s.flashed-area) (copper-at-most _ w h grid _ s.cover, copper_equal _ w h grid _ s.cover)
