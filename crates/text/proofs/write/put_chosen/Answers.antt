-- The invariant: what was to be written equals what is left of it, at the spot that was reached.
use Rattle.std.proofs.Common.{arith, sym, ◌∙◌}
use Rattle.std.proofs.lemmas.List.{length-map}
use Rattle.text.specs.Words.{chosen}
use Rattle.text.proofs.Turns.{map-turn, map-done}
use Rattle.text.proofs.write.put_chosen.Goals as goal

pub loop-k-preserved : goal.loop-k-preserved
loop-k-preserved c = let l = c.loop-k in
    let a = c.args in
    rw c.chosen_of.ensures (l.invariant ∙ map-turn (chosen a.key a.hit a.miss) l.room a.bytes.now a.spot l.k (omega arith) (omega arith))

pub returns : goal.returns
returns c = let l = c.loop-k in
    let a = c.args in
    record {
      past = omega (arith, length-map a.bytes.now (chosen a.key a.hit a.miss));
      left = sym (l.invariant ∙ map-done (chosen a.key a.hit a.miss) l.room a.bytes.now a.spot l.k (omega arith));
    }
