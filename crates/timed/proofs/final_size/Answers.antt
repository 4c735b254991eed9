-- `final_size` meets its contract: the starting set's final set, counted.
use mathlib.Core.Path.{ap, ◌∙◌}
use lib.ListN.{length}
use Rattle.method.specs.Final.{final}
use Rattle.method.proofs.Final.{final-listed}
use Rattle.grid.proofs.Edges.{number}
use Rattle.intervals.specs.Table.{table_of}
use Rattle.intervals.proofs.TableLaws.{left_to}
use Rattle.cover.specs.Sheets.{starting_of}
use Rattle.cover.proofs.Starting.{starting-listed}
use Rattle.cover.proofs.StartingByChange.{columned}
use Rattle.timed.proofs.final_size.Goals as goal

pub starting-requires : goal.starting-requires
starting-requires g c = let S = c.args.sheet.now.sheeted in (columned _ _ _ _ S, S.low)

pub returns : goal.returns
returns g c = let s = c.args.sheet.now in
    let w = s.size.width in
    let S = starting_of s in
    let L = starting-listed _ w _ in
    let p = ap number c.starting.ensures.last in
    let q = left_to w S s.sheeted.narrow L p c.starting.ensures.rows in
    c.size.ensures
    ∙ ap length
    (left_to w (final w S) s.sheeted.narrow (final-listed w S L) (ap number c.repeat.ensures.last ∙ p)
    (c.repeat.ensures.rows ∙ (λ i. table_of (final (p i) (q i)))))
