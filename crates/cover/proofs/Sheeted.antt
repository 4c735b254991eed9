-- The pass over a raster whose columns are unbroken makes its sheet. `Sheet::of` and `Sheet::fill` use it.
use mathlib.Core.HLevel.{is_prop→PathP}
use mathlib.Core.Path.{◌≡◌, sym, ◌∙◌}
use mathlib.Core.List.{List}
use Prim.Native.Nat.{ℕ}
use native.Mathlib.Omega.{arith}
use lib.ListN.{replicate, length-replicate}
use Rattle.std.proofs.Props.{props}
use Rattle.grid.specs.Limits.{side}
use Rattle.grid.specs.Squares.{Unbroken}
use Rattle.grid.specs.Code.{Sized, area_in}
use Rattle.grid.specs.declared.raster.Size.{Size}
use Rattle.grid.proofs.Areas.{area_in_grid}
use Rattle.columns.specs.Columns.{Filled, Reached, bottom_at, end_at}
use Rattle.columns.proofs.Filling.{filled-reached, filled-one}
use Rattle.cover.specs.Code.{Sheeted, between}
use Rattle.cover.specs.Sheets.{SheetOf}
use Rattle.cover.specs.declared.sheet.Sheet.{Sheet}
use Rattle.cover.proofs.StartingByChange.{area-between, columns-sheet}

module _ (size : Size) (bytes : List ℕ) (z : Sized size bytes) (unbroken : Unbroken (area_in size bytes)) {bottoms ends : List ℕ}
    (F : Filled size.width (bottom_at (area_in size bytes) size.height) (replicate side 0) bottoms) (G : Filled size.width (end_at (area_in size bytes) size.height) (replicate side 0) ends) where
  reached : Reached (area_in size bytes) size.width size.height bottoms ends
  reached = let n = z.narrow in filled-reached _ _ _ (omega (arith, length-replicate {A = ℕ} side 0)) (omega (arith, length-replicate {A = ℕ} side 0)) F G

  pub made-sheet : Sheeted size.width size.height bottoms ends
  made-sheet = columns-sheet _ _ _ z.narrow z.low (area_in_grid size.width size.height bytes) unbroken reached

  pub made-area : between size.width bottoms ends ≡ area_in size bytes
  made-area = sym (area-between _ _ _ (area_in_grid size.width size.height bytes) unbroken reached)

-- two sheets of one raster are one: that a sheet's columns are an area's has one proof
same-sheet : (s t : Sheet) → s.size ≡ t.size → s.bottoms ≡ t.bottoms → s.ends ≡ t.ends → s ≡ t
same-sheet s t e f g = λ i. record {
  size = e i;
  bottoms = f i;
  ends = g i;
  sheeted = is_prop→PathP (λ j. Sheeted (e j).width (e j).height (f j) (g j)) (λ j. Prim.hlevel props) s.sheeted t.sheeted i;
}

pub one-sheet : {size : Size} {bytes : List ℕ} {s t : Sheet} → SheetOf size bytes s → SheetOf size bytes t → s ≡ t
one-sheet {s = s} {t = t} p q = same-sheet s t (p.size ∙ sym q.size) (filled-one _ _ p.bottoms q.bottoms) (filled-one _ _ p.ends q.ends)
