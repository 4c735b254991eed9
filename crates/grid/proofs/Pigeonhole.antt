-- No cover is shorter than a list of independent squares: each of the squares lies in some rectangle of the cover, and no two in the same.
-- So where a cover and a list of independent squares are equally long, that length is the least number.
use mathlib.Core.Path.{◌≡◌, refl, subst}
use mathlib.Core.List.{List}
use mathlib.Core.Logic.{by_cases, ◌⊎◌, inl, inr, ⊎_elim, ◌≢◌}
use Prim.Native.Nat.{ℕ, zero, suc, ◌≤◌, ◌<◌}
use native.Mathlib.Decide.{ℕ_discrete}
use native.Mathlib.Omega.{arith}
use lib.ListN.{length}
use Rattle.grid.specs.Squares.{Area, Rectangle, Square, Within, Cover, Least, Evidence, rectangle_at, square_at}

-- m things, each put into one of n places, no two into one: then m is at most n.
-- With one place less: what was put into place n - 1 is put where thing m - 1 is, which is taken away.
pub places : (m n : ℕ) (R : ℕ → ℕ → Type 0)
    → ((k : ℕ) → k < m → (i : ℕ) × (i < n) × R k i)
    → ((j k i : ℕ) → j < m → k < m → j ≢ k → R j i → R k i → ⊥)
    → m ≤ n
places zero n R put apart = omega arith
places (suc m) zero R put apart = absurd (let p = put m (omega arith) in omega arith)
places (suc m) (suc n) R put apart =
    let last = put m (omega arith) in
    let less =
    places m n (λ k i. R k i ⊎ (R k n × R m i))
    (λ k l.
    let p = put k (omega arith) in
    by_cases (ℕ_discrete p.0 n)
    (λ e.
    let here : R k n = subst (R k) e p.2 in
    by_cases (ℕ_discrete last.0 n)
    (λ f. absurd (apart k m n (omega arith) (omega arith) (omega arith) here (subst (R m) f last.2)))
    (λ f. (last.0, omega arith, inr (here, last.2))))
    (λ e. (p.0, omega arith, inl p.2)))
    (λ j k i p q d r s.
    ⊎_elim
    (λ x.
    ⊎_elim (λ y. apart j k i (omega arith) (omega arith) d x y)
    (λ y. apart j m i (omega arith) (omega arith) (omega arith) x y.1) s)
    (λ x.
    ⊎_elim (λ y. apart k m i (omega arith) (omega arith) (omega arith) y x.1)
    (λ y. apart j k n (omega arith) (omega arith) d x.0 y.0) s)
    r) in
    omega arith

pub pigeonhole : (a : Area) (qs : List Rectangle) (ss : List Square) → Cover a qs → Evidence a ss → length ss ≤ length qs
pigeonhole a qs ss cover evidence =
    places (length ss) (length qs) (λ k i. (i < length qs) × Within (rectangle_at qs i) (square_at ss k))
    (λ k l. let r = cover.whole (square_at ss k) (evidence.copper k l) in (r.0, r.1, (r.1, r.2)))
    (λ j k i l m d p q. evidence.apart j k l m d (rectangle_at qs i) (cover.inside i p.0) p.1 q.1)

-- as many independent squares as rectangles: the cover is shortest
pub least : (a : Area) (qs : List Rectangle) (ss : List Square) → Cover a qs → Evidence a ss → length qs ≡ length ss → Least a (length qs)
least a qs ss cover evidence e =
    record { reached = (qs, cover, refl); fewest = λ rs other. omega (arith, pigeonhole a rs ss other evidence) }

-- there is one least number
pub one-least : (a : Area) (m n : ℕ) → Least a m → Least a n → m ≡ n
one-least a m n p q =
    let s = p.reached in
    let t = q.reached in
    omega (arith, p.fewest t.0 t.1, q.fewest s.0 s.1)
