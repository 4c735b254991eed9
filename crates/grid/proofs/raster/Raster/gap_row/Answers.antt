-- `gap_row` meets its contract: the next empty row above the lowest copper row is the lowest gap, if copper follows it.
use mathlib.Core.Path.{sym, ap}
use Rattle.grid.specs.Code.{level_of}
use Rattle.grid.proofs.Next.{level_in, level-none}
use Rattle.grid.proofs.Gaps.{gap-bare, gap-filled, gap-edge, gap_open}
use Rattle.grid.proofs.raster.Raster.gap_row.Goals as goal

pub returns-in_err-bottom : goal.returns-in_err-bottom
returns-in_err-bottom c = rw c.from_residual.ensures (sym (ap level_of (gap-bare _ _ _ (level-none _ c.next_row.ensures c.in_err-bottom.was))))

pub returns-in_err-edge : goal.returns-in_err-edge
returns-in_err-edge c =
    rw c.from_residual-in_err-edge.ensures
    (sym (ap level_of (gap-filled _ _ _ (level_in _ c.next_row.ensures c.in_ok-bottom.was) (level-none _ c.next_row-2.ensures c.in_err-edge.was))))

pub returns-in_err-next_row : goal.returns-in_err-next_row
returns-in_err-next_row c =
    rw c.from_residual-in_err-next_row.ensures
    (sym (ap level_of (gap_open _ _ _ (level_in _ c.next_row.ensures c.in_ok-bottom.was) (level_in _ c.next_row-2.ensures c.in_ok-edge.was) (level-none _ c.next_row-3.ensures c.in_err-next_row.was))))

pub returns : goal.returns
returns c =
    sym (ap level_of (gap-edge _ _ _ (level_in _ c.next_row.ensures c.in_ok-bottom.was) (level_in _ c.next_row-2.ensures c.in_ok-edge.was) (level_in _ c.next_row-3.ensures c.in_ok-next_row.was)))
