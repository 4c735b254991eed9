-- `begun_from` meets its contract: a search over the lines from the one that is asked about.
use Rattle.std.proofs.Common.{arith, rules, tests}
use Rattle.std.proofs.lemmas.Iterator.{first_from_Range}
use mathlib.Core.Path.{◌≡◌}
use mathlib.Core.Bool.{true, false}
use Rattle.intervals.specs.Table.{begun_at}
use Rattle.intervals.specs.Spans.{spans}
use Rattle.intervals.proofs.TableLaws.{set-listed}
use Rattle.intervals.proofs.BegunRows.{begun-found, row-bare, row-begun}
use Rattle.intervals.proofs.Table.begun_from.Goals as goal

pub returns : goal.returns
returns c =
    let t = c.args.self.now in
    let n = t.last.0 in
    let s = spans t in
    begun-found s c.args.from.0 n c.find.result c.map_or.result
    (first_from_Range _ _ _ _ (λ k. begun_at s k ≡ true) (λ k. begun_at s k ≡ false) c.find.ensures.ran
    (λ x q k. row-begun t.tabled.fits (set-listed n t.rows) x (λ z. grind (arith, tests)))
    (λ x q k. (search rules, row-bare t.tabled.fits (set-listed n t.rows) x (grind (arith, tests)))))
    (search rules)
