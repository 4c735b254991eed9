-- `held_once` meets its contract: a search over the columns from the left.
use Rattle.std.proofs.Common.{arith, rules, tests}
use Rattle.std.proofs.lemmas.Iterator.{first_from_Range}
use Rattle.std.specs.Prelude.{MatchOption, IsSomeAnd, Some, None}
use Rattle.std.specs.Prelude.{Option as Found}
use mathlib.Core.Path.{◌≡◌, sym, ap, ◌∙◌}
use mathlib.Core.Bool.{Bool, true, false}
use Prim.Native.Nat.{ℕ, ◌≤◌, ◌<◌}
use lib.Dec.{eqb}
use Rattle.lists.specs.Lists.{count, first, up_to}
use Rattle.lists.proofs.Searches.{first-least, first-nowhere}
use Rattle.method.specs.Intervals.{holds}
use Rattle.method.specs.Strike.{held_once}
use Rattle.grid.specs.Lines.{column}
use Rattle.grid.specs.declared.lines.Column.{Column}
use Rattle.grid.proofs.Edges.{number}
use Rattle.intervals.specs.Spans.{spans}
use Rattle.intervals.specs.declared.Table.{Table}
use Rattle.counts.specs.Marks.{once_of}
use Rattle.counts.proofs.plain.held_once.Goals as goal

-- what `find` and `map` tell of the first number that passes
as_found : (p : ℕ → Bool) (n : ℕ) (r : Found ℕ) (out : Found Column)
    → MatchOption r ((k : ℕ) → 0 ≤ k → k < n → p k ≡ false) (λ i. (0 ≤ i) × (i < n) × (p i ≡ true) × ((k : ℕ) → 0 ≤ k → k < i → p k ≡ false))
    → MatchOption r (out ≡ None) (λ x. IsSomeAnd out (λ c. c ≡ column x)) → out ≡ once_of (first p (up_to n))
as_found p n None out d m = m ∙ ap once_of (sym (first-nowhere p 0 n (λ y l u. d y l (omega arith))))
as_found p n (Some i) (Some c) d m = ap Some m ∙ ap once_of (sym (first-least p 0 n i d.0 (omega (arith, d.1)) d.2 d.3))
as_found p n (Some i) None d m = absurd m

abbrev once : Table → ℕ → Bool
once t c = eqb (count (holds c) (spans t)) 1

pub returns : goal.returns
unfolding held_once
returns c =
    let t = c.args.t.now in
    as_found (once t) c.column_after-end.result.0 c.find.result c.map.result
    (first_from_Range _ _ _ _ (λ i. once t i ≡ true) (λ i. once t i ≡ false) c.find.ensures.ran (λ x q k. grind (arith, tests)) (λ x q k. (search rules, grind (arith, tests))))
    (search rules) ∙ ap (λ (n : ℕ). once_of (first (once t) (up_to n))) (ap number c.column_after-end.ensures)
