-- Nothing where the size is the one before.
use Rattle.std.proofs.Common.{arith}
use mathlib.Core.Path.{sym, ◌∙◌}
use Rattle.grid.proofs.Writing.{written_none}
use Rattle.gerber.proofs.SizeLists.{unchanged}
use Rattle.gerber.proofs.lines.put_change.Goals as goal

pub returns-then-eq : goal.returns-then-eq
returns-then-eq c = let a = c.args in
    let f = unchanged a.before a.size (sym c.eq.ensures ∙ c.if-eq.true) in
    rw f (record { past = omega arith; left = sym (written_none a.room.now a.spot) })
