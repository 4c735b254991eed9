-- The check never gives more marks than the grid has columns, so a print of them has its room.
-- No marks but on sound; there as many as the cover has flashes, which are no more than the columns. The check program uses it.
use mathlib.Core.Path.{refl, sym, subst}
use mathlib.Core.List.{List}
use Prim.Native.Nat.{ℕ, ◌≤◌}
use native.Mathlib.Omega.{arith}
use Rattle.lists.proofs.Truth.{ocase, and_left}
use Rattle.grid.specs.Limits.{side}
use Rattle.grid.specs.Answers.{first_refusal}
use Rattle.grid.specs.Squares.{Area, Rectangle}
use Rattle.grid.specs.Raster.{area_of, side_fits, size_fits}
use Rattle.grid.proofs.Chain.{pcase, chain-passed, check-passed}
use Rattle.cover.proofs.Checks.{fits-side}
use Rattle.cover.proofs.Covering.{flashes-short}
use Rattle.cover.proofs.MarkLaws.{marks-flashes}
use Rattle.listcheck.specs.FlashList.{flashes_of}
use Rattle.listcheck.specs.Verdict.{bad_line, bare_square}
use Rattle.listcheck.specs.Checked.{Given, judged, checks, check_gives, Gives}
use Rattle.listcheck.specs.declared.entry.Checked.{Checked}
use Rattle.listcheck.proofs.Judged.{judged-bad, judged-bare, judged-sound}
use Rattle.listcheck.proofs.Refusals.{refuses, passes}

-- few marks
abbrev Few : Given → Type 0
Few g = g.outcome.marks ≤ side

module _ (a : Area) (w h : ℕ) (qs : List Rectangle) (m : List ℕ) (narrow : w ≤ side) where
  judged-few : Few (judged a w h qs m)
  judged-few =
      ocase (bad_line a w h qs)
      (λ good.
      ocase (bare_square a w h qs)
      (λ held. subst Few (judged-sound a w h qs m refl good held refl) (omega (arith, marks-flashes a w h, flashes-short a w h)))
      (λ s e. subst Few (judged-bare a w h qs m refl good e refl) (omega arith)))
      (λ line e. subst Few (judged-bad a w h qs m refl e refl) (omega arith))

module _ (w h k : ℕ) (raster list m : List ℕ) where
  gives-few : Few (check_gives w h k raster list m)
  unfolding check_gives
  gives-few =
      let a = first_refusal (checks w h k raster list m) in
      let j = judged (area_of w h raster) w h (flashes_of list) m in
      pcase a
      (λ e.
      let fits = check-passed (size_fits w h) 0 (chain-passed (checks w h k raster list m) e).0 in
      subst Few (sym (passes a m j e)) (judged-few (area_of w h raster) w h (flashes_of list) m (fits-side w (and_left (side_fits w) (side_fits h) fits)).1))
      (λ n. subst Few (sym (refuses a m j n)) (omega arith))

pub few-marks : (w h k : ℕ) (raster list m : List ℕ) (r : Checked) (m' : List ℕ) → Gives w h k raster list m r m' → r.marks ≤ side
few-marks w h k raster list m r m' gives = subst Few (sym gives) (gives-few w h k raster list m)
