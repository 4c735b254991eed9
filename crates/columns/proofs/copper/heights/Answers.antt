-- `heights` meets its contract. The loop's invariant: `n` is the sum over the columns that were seen, and the others are left.
use Rattle.std.proofs.Common.{arith, rules}
use mathlib.Core.Path.{◌≡◌, sym, ap, ap₂, ◌∙◌}
use mathlib.Core.Logic.{⊎_elim}
use Rattle.columns.specs.Columns.{heights_to}
use lib.ListN.{length}
use Prim.Native.Nat.{◌+◌, ◌-◌}
use mathlib.Core.List.{List, [], ◌∷◌, ◌++◌}
use Rattle.std.proofs.lemmas.Grind.{common_steps}
use Rattle.columns.proofs.Heights.{heights-none, heights-next, front, front_end}
use Rattle.columns.proofs.copper.heights.Goals as goal

pub loop-bottom-init : goal.loop-bottom-init
loop-bottom-init c = record {
  can_next = search rules;
  finite = search rules;
  low = search rules;
  high = search rules;
  sum = heights-none _ _;
  small = omega arith;
  few = omega arith;
}

turn : {A : Type 0} (xs : List A) (x : A) → length (xs ++ x ∷ []) ≡ length xs + 1
turn xs x = grind (arith, common_steps)

pub overflow_sub-end : goal.overflow_sub-end
overflow_sub-end c =
    let s = c.in-Some.ensures.steps in
    let i = c.loop-bottom.invariant in
    let low = front _ _ _ _ _ c.requires.width_le_side.1 (sym i.low ∙ s.0) in
    let high = front _ _ _ _ _ c.requires.width_le_side.2 (sym i.high ∙ s.1) in
    omega (arith, low.at, high.at, c.requires.upright _ low.inside)

pub loop-bottom-preserved : goal.loop-bottom-preserved
loop-bottom-preserved c =
    let s = c.in-Some.ensures.steps in
    let i = c.loop-bottom.invariant in
    let low = front _ _ _ _ _ c.requires.width_le_side.1 (sym i.low ∙ s.0) in
    let high = front _ _ _ _ _ c.requires.width_le_side.2 (sym i.high ∙ s.1) in
    let k : length (c.loop-bottom.yielded ++ (c.in-Some.bottom, c.in-Some.end) ∷ []) ≡ length c.loop-bottom.yielded + 1 = turn _ _ in
    record {
      can_next = search rules;
      finite = search rules;
      low = rw k low.left;
      high = rw k high.left;
      sum = rw k (heights-next _ _ _ _ _ i.sum (ap (λ z. c.loop-bottom.n + z) c.from-n.ensures ∙ ap₂ (λ a b. c.loop-bottom.n + (a - b)) high.at low.at));
      small = omega (arith, k, i.small, c.from-n.ensures, high.at, c.type_inv.ends (length c.loop-bottom.yielded));
      few = omega (arith, low.inside);
    }

pub returns : goal.returns
returns c =
    let i = c.loop-bottom.invariant in
    let w = c.requires.width_le_side in
    let e : length c.loop-bottom.yielded ≡ c.args.width =
    ⊎_elim
    (λ z. front_end c.args.bottoms.now _ _ w.1 i.few (ap length (sym i.low) ∙ z.1.0))
    (λ z. front_end c.args.ends.now _ _ w.2 i.few (ap length (sym i.high) ∙ z.1.0))
    c.in-None.ensures.steps in
    i.sum ∙ ap (λ k. heights_to k c.args.bottoms.now c.args.ends.now) e
