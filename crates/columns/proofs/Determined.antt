-- Every public function's contract determines its outcome: no second result fits, and nothing else behind a reference.
-- The answer and the sum are given by equations; a room that is filled by a rule is one.
use mathlib.Core.Path.{refl, sym, ◌∙◌}
use Rattle.grid.proofs.Outcome.{Determined}
use Rattle.grid.proofs.Refusals.{passed-tells}
use Rattle.columns.proofs.Filling.{filled-one}
use Rattle.columns.proofs.checks.columns_checked
use Rattle.columns.proofs.copper.heights
use Rattle.columns.proofs.reach.greatest
use Rattle.columns.proofs.reach.least

pub columns-checked-determined : Determined columns_checked.Kinds.ps columns_checked.Kinds.r columns_checked.Reads.Pre columns_checked.Reads.Post
columns-checked-determined κs a pre x y v w p q =
    let b = filled-one _ _ p.1.0 q.1.0 in
    let e = filled-one _ _ p.1.1 q.1.1 in
    (passed-tells x y (p.0 ∙ sym q.0), λ i. (tt, (b i, (e i, tt))))

pub heights-determined : Determined heights.Kinds.ps heights.Kinds.r heights.Reads.Pre heights.Reads.Post
heights-determined κs a pre x y v w p q = (p ∙ sym q, refl)

pub greatest-determined : Determined greatest.Kinds.ps greatest.Kinds.r greatest.Reads.Pre greatest.Reads.Post
greatest-determined κs a pre x y v w p q = (p ∙ sym q, refl)

pub least-determined : Determined least.Kinds.ps least.Kinds.r least.Reads.Pre least.Reads.Post
least-determined κs a pre x y v w p q = (p ∙ sym q, refl)
