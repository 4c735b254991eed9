-- `next_end` meets its contract: the next bit of the row's word stands for the next end.
use Rattle.std.proofs.Common.{arith}
use mathlib.Core.Path.{sym, ap, ◌∙◌}
use Prim.Native.Nat.{◌-◌}
use Rattle.lists.specs.Lists.{first, from}
use Rattle.grid.specs.Code.{or_end}
use Rattle.words.specs.Words.{bits, on}
use Rattle.intervals.specs.Table.{line_found}
use Rattle.intervals.proofs.TableLaws.{set-listed}
use Rattle.intervals.proofs.TableRows.{next_bit, next_no_bit}
use Rattle.intervals.proofs.Table.next_end.Goals as goal

pub returns-then-k-lt-BITS : goal.returns-then-k-lt-BITS
returns-then-k-lt-BITS c = let t = c.args.self.now in
    let p = c.args.from.0 in
    sym
    (ap line_found
    (next_bit t.tabled.fits (set-listed t.last.0 t.rows) c.args.left.0 p c.next_on-k.result
    (c.next_on-k.ensures ∙ ap (λ w. or_end bits (first (on w) (from p (bits - p)))) c.row.ensures) c.if-k-lt-BITS.true))

pub returns-else-k-lt-BITS : goal.returns-else-k-lt-BITS
returns-else-k-lt-BITS c = let t = c.args.self.now in
    let p = c.args.from.0 in
    sym
    (ap line_found
    (next_no_bit t.tabled.fits (set-listed t.last.0 t.rows) c.args.left.0 p c.next_on-k.result
    (c.next_on-k.ensures ∙ ap (λ w. or_end bits (first (on w) (from p (bits - p)))) c.row.ensures) (omega arith)))
