-- `columns_checked` meets its contract: where every byte fits both checks pass, and else they are asked for their place; bottoms and ends are those of all rows.
use mathlib.Core.Path.{sym}
use mathlib.Core.List.{List}
use Prim.Native.Nat.{ℕ}
use Rattle.grid.specs.Squares.{Area}
use Rattle.columns.specs.Columns.{Filled, bottom_at, end_at}
use Rattle.columns.specs.Code.{bottom_to, end_to}
use Rattle.columns.proofs.Filling.{filled_as}
use Rattle.columns.proofs.BottomsEnds.{end-top, bottom-lowest}
use Rattle.columns.proofs.Whole.{all_pass}
use Rattle.columns.proofs.checks.columns_checked.Goals as goal

-- filled with all rows' bottoms, or ends
low-done : (a : Area) (w h : ℕ) {before after : List ℕ} → Filled w (bottom_to a h) before after → Filled w (bottom_at a h) before after
low-done a w h R = filled_as w _ _ (λ c l. bottom-lowest a c h) R

high-done : (a : Area) (w h : ℕ) {before after : List ℕ} → Filled w (end_to a h) before after → Filled w (end_at a h) before after
high-done a w h R = filled_as w _ _ (λ c l. end-top a c h) R

pub returns-then-take_rows-eq0 : goal.returns-then-take_rows-eq0
returns-then-take_rows-eq0 c = let z = c.args.raster.sized in
    let R = c.take_rows.ensures in record {
      value = sym (all_pass _ _ _ z.wide z.full (R.fit c.if-take_rows-eq0.true));
      filled = low-done _ _ _ R.low;
      filled_2 = high-done _ _ _ R.high;
    }

pub returns : goal.returns
returns c = let R = c.take_rows.ensures in record {
  value = c.refusal.ensures;
  filled = low-done _ _ _ R.low;
  filled_2 = high-done _ _ _ R.high;
}
