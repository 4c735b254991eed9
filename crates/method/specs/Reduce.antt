-- The reduction of a bracket (rule 4).
use Rattle.std.specs.Prelude.{not, ◌&&◌, ◌||◌, List, [], ◌∷◌, ◌++◌, ℕ}
use Rattle.lists.specs.Lists.{keep, any}
use Rattle.method.specs.Intervals.{Interval, proper, inside, same, meet, select, member}

-- "the set's intervals inside it that no other one inside it properly contains, ordered by left line": s is in this order already
unfoldable pub outermost : List Interval → Interval → List Interval
outermost s d =
    let within = keep (inside d) s in
    keep (λ i. not (any (λ j. inside j i && not (same j i)) within)) within

-- "the meet of each neighbouring pair", where it is not empty
unfoldable pub meets : List Interval → List Interval
meets [] = []
meets (i ∷ []) = []
meets (i ∷ j ∷ rest) = keep proper (meet i j ∷ []) ++ meets (j ∷ rest)

-- "With one such interval, drop it. With several, drop them all and add the meet of each neighbouring pair": one alone has no neighbour
unfoldable pub reduce : ℕ → List Interval → Interval → List Interval
reduce n s d =
    let dropped = outermost s d in
    let added = meets dropped in
    select n (λ i. (member i s && not (member i dropped)) || member i added)
