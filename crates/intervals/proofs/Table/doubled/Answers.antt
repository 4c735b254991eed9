-- `doubled` meets its contract: after the rows before line l the two words have the bits that one of these rows has, and that two of them have.
use Rattle.std.proofs.Common.{arith}
use Rattle.std.proofs.lemmas.List.{get_or-take, length-take}
use mathlib.Core.Path.{◌≡◌, ap, ◌∙◌, subst}
use mathlib.Core.Bool.{◌&&◌, ◌||◌}
use Prim.Native.Nat.{ℕ, ◌<◌}
use lib.ListN.{length, get_or, take}
use Rattle.words.specs.Words.{on}
use Rattle.intervals.specs.declared.Table.{Table}
use Rattle.intervals.proofs.TableLaws.{tabled-length}
use Rattle.intervals.proofs.DoubledLines.{Ends, ends-start, ends_next, ends-done}
use Rattle.intervals.proofs.Table.doubled.Goals as goal

-- the rows before the last line are as many as there are lines before it
rows_before : (t : Table) → length (take t.last.0 t.rows) ≡ t.last.0
rows_before t = let fits = t.tabled.fits in omega (arith, length-take t.last.0 t.rows, tabled-length t.tabled)

same_row : (t : Table) (l : ℕ) → l < length (take t.last.0 t.rows) → get_or (take t.last.0 t.rows) l 0 ≡ get_or t.rows l 0
same_row t l h = get_or-take t.last.0 t.rows l 0 (omega (arith, rows_before t))

pub loop-row-init : goal.loop-row-init
loop-row-init c = ends-start c.args.self.now.rows

pub loop-row-preserved : goal.loop-row-preserved
loop-row-preserved c = let t = c.args.self.now in
    let at = c.loop-row in
    let row = same_row t at.row-index c.loop-row-test.true in
    ends_next t.rows at.row-index at.invariant c.both.result (λ k. c.both.ensures k ∙ ap (λ w. on at.once k && on w k) row)
    c.either-twice.ensures
    (λ k. c.either-once.ensures k ∙ ap (λ w. on at.once k || on w k) row)

pub returns : goal.returns
returns c = let t = c.args.self.now in
    let over : c.loop-row.row-index ≡ t.last.0 = omega (arith, rows_before t) in
    ends-done t.tabled (subst (λ l. Ends t.rows l c.loop-row.once c.loop-row.twice) over c.loop-row.invariant)
