-- `next_row` meets its contract: a search over the rows from the lowest that is asked about.
use Rattle.std.proofs.Common.{rules}
use Rattle.std.proofs.lemmas.Iterator.{first_from_Range}
use mathlib.Core.Path.{◌≡◌}
use mathlib.Core.Bool.{Bool, true, false}
use Prim.Native.Nat.{ℕ}
use Rattle.grid.specs.Code.{area_in, as_asked}
use Rattle.grid.proofs.Next.{level-found}
use Rattle.grid.proofs.raster.Raster.next_row.Goals as goal

pub returns : goal.returns
returns c =
    let r = c.args.self in
    let p : ℕ → Bool = λ k. as_asked c.args.copper (area_in r.size r.bytes.now c.args.column.0 k) in
    level-found p c.args.from.0 r.size.height c.find.result c.map.result
    (first_from_Range _ _ _ _ (λ k. p k ≡ true) (λ k. p k ≡ false) c.find.ensures.ran (λ x q k. (search rules)) (λ x q k. (search rules)))
    (search rules)
