-- The invariant: what was to be written equals what is left of it, at the spot that was reached.
use Rattle.std.proofs.Common.{arith, refl, sym, ◌∙◌, ◌+◌, drop}
use lib.ListN.{get_or, length-drop, drop_of_length-le}
use Rattle.grid.proofs.Writing.{drop-next, write_turn, write_done}
use Rattle.grid.proofs.rooms.put_bytes.Goals as goal

pub loop-k-preserved : goal.loop-k-preserved
loop-k-preserved c = let l = c.loop-k in
    let a = c.args in
    l.invariant
    ∙ write_turn l.room a.spot l.k (get_or a.bytes.now l.k 0) (drop l.k a.bytes.now) (drop (l.k + 1) a.bytes.now)
    (drop-next a.bytes.now l.k (omega arith))
    (omega (arith, length-drop l.k a.bytes.now))

pub returns : goal.returns
returns c = let l = c.loop-k in
    let a = c.args in
    record {
      past = refl;
      left = sym (l.invariant ∙ write_done l.room a.spot l.k (drop l.k a.bytes.now) (drop_of_length-le a.bytes.now {i = l.k} (omega arith)));
    }
