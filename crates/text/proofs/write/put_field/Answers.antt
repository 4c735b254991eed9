-- The tab, and then the number past it.
use Rattle.std.proofs.Common.{arith}
use mathlib.Core.List.{[], ◌∷◌}
use Rattle.text.specs.Words.{tab}
use Rattle.text.specs.Decimal.{decimal}
use Rattle.grid.proofs.Writing.{then-written}
use Rattle.text.proofs.write.put_field.Goals as goal

pub returns : goal.returns
returns c = let a = c.args in
    then-written a.room.now a.spot (tab ∷ []) (decimal a.value) (omega arith)
    c.put_byte-at.ensures
    c.print_number.ensures
