-- `note_bracket` meets its contract: the two bytes of the record, one behind the other.
use Rattle.std.proofs.Common.{arith}
use mathlib.Core.Path.{sym, ◌∙◌}
use mathlib.Core.List.{[], ◌∷◌}
use Prim.Native.Nat.{◌*◌, ◌+◌}
use lib.ListN.{set, length-set}
use Rattle.grid.specs.Limits.{bracket_record}
use Rattle.grid.proofs.Writing.{written-set, written_next}
use Rattle.intervals.proofs.final_set.note_bracket.Goals as goal

pub returns : goal.returns
returns c = let room = c.args.room.now in
    let s = c.args.n * bracket_record in
    let l = c.args.d.left.0 in
    let r = c.args.d.right.0 in
    written-set (set room s l) (s + 1) r (omega (arith, c.requires.2, length-set room s l))
    ∙ sym (written_next room s l (r ∷ []) (omega (arith, c.requires.2)))
