-- The invariant: what was to be written equals the digits that are left, those before the spot that was reached.
use Rattle.std.proofs.Common.{arith, ℕ, ◌≡◌, ◌-◌, suc, sym, ap, ◌∙◌}
use Rattle.grid.specs.Rooms.{written}
use Rattle.text.specs.Decimal.{last_digits}
use Rattle.text.proofs.Turns.{length_last, print_turn, print_done}
use Rattle.text.proofs.write.put_digits.Goals as goal

pub loop-k-preserved : goal.loop-k-preserved
loop-k-preserved c = let l = c.loop-k in
    let e : l.k ≡ suc (l.k - 1) = omega arith in
    l.invariant ∙ ap (λ (n : ℕ). written l.room c.args.spot (last_digits n l.rest)) e ∙ print_turn l.room c.args.spot l.rest (l.k - 1) (omega arith)

pub returns : goal.returns
returns c = let l = c.loop-k in
    let e : l.k ≡ 0 = omega arith in
    record {
      past = omega (arith, length_last c.args.count c.args.value);
      left = sym (l.invariant ∙ ap (λ (n : ℕ). written l.room c.args.spot (last_digits n l.rest)) e ∙ print_done l.room c.args.spot l.rest);
    }
