-- `changes` meets its contract: a column is turned over where its copper begins and where it ends.
use Rattle.std.proofs.Common.{arith}
use mathlib.Core.Path.{sym}
use lib.ListN.{length-take}
use Rattle.cover.proofs.RowChanges.{taken-within, both_flipped}
use Rattle.cover.proofs.slices.changes.Goals as goal

pub flip-requires : goal.flip-requires
flip-requires c =
    let g = c.args in
    let z = c.requires.columned in
    (taken-within g.width _ g.edges.bottoms.now (λ k u. omega (arith, z.upright k u, z.low k u)), omega (arith, length-take g.width g.edges.bottoms.now, z.narrow))

pub flip-requires-2 : goal.flip-requires-2
flip-requires-2 c =
    let g = c.args in
    let z = c.requires.columned in
    (taken-within g.width _ g.edges.ends.now (λ k u. omega (arith, z.low k u)), omega (arith, length-take g.width g.edges.ends.now, z.narrow))

pub returns : goal.returns
returns c =
    let g = c.args in
    let z = c.requires.columned in
    both_flipped g.width g.edges.bottoms.now g.edges.ends.now g.rows.now c.flip.new.rows c.flip-2.new.rows z.low-long z.high-long c.requires.rowed (sym c.flip.auto.rows) (sym c.flip-2.auto.rows)
    c.flip.ensures c.flip-2.ensures
