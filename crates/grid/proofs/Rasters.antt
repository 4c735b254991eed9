-- Two rasters of one size over one slice are one: that a raster has its size's length has one proof.
-- `Raster::checked` determines its result by it.
use mathlib.Core.HLevel.{is_prop→PathP}
use mathlib.Core.Path.{◌≡◌}
use Rattle.std.proofs.Props.{props}
use Rattle.grid.specs.Code.{Sized}
use Rattle.grid.specs.declared.raster.Raster.{Raster}

pub same-raster : (r s : Raster) → r.size ≡ s.size → r.bytes ≡ s.bytes → r ≡ s
same-raster r s e f = λ i. record {
  size = e i;
  bytes = f i;
  sized = is_prop→PathP (λ j. Sized (e j) (f j).now) (λ j. Prim.hlevel props) r.sized s.sized i;
}
