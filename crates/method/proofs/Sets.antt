-- The theory's own view of a set: a test on a left and a right line. Counts in boxes, the staircase of a bracket, and the reduction row by row.
-- Definitions only; the laws stand in the files that follow.
use mathlib.Core.Bool.{Bool, true, false, cond}
use mathlib.Core.Logic.{ite}
use mathlib.Core.List.{List}
use mathlib.Core.Path.{◌≡◌}
use Prim.Native.Nat.{ℕ, zero, suc, ◌+◌, ◌≤◌, ◌<◌, max}
use native.Mathlib.Decide.{dec_le, dec_lt, ℕ_discrete}
use Rattle.method.specs.Intervals.{Interval, span, member}

-- S l r: the interval from line l to line r is in the set
abbrev pub Set : Type 0
Set = ℕ → ℕ → Bool

-- a listed set as such a test
abbrev pub has : List Interval → Set
has s l r = member (span l r) s

abbrev pub bit : Bool → ℕ
bit b = cond b 1 0

-- the sum of g i over a ≤ i < b
unfoldable pub sum : (ℕ → ℕ) → ℕ → ℕ → ℕ
sum g a zero = zero
sum g a (suc b) = ite (dec_le a b) (sum g a b + g b) zero

-- how many members of row l end after line r0 and not after line r1
unfoldable pub row : Set → ℕ → ℕ → ℕ → ℕ
row S l r0 r1 = sum (λ r. bit (S l r)) (suc r0) (suc r1)

-- the box: how many members (l, r) have l0 ≤ l < l1 and r0 < r ≤ r1
unfoldable pub K : Set → ℕ → ℕ → ℕ → ℕ → ℕ
K S l0 l1 r0 r1 = sum (λ l. row S l r0 r1) l0 l1

-- how many members inside the bracket (c, d) hold column x
abbrev pub N : Set → ℕ → ℕ → ℕ → ℕ
N S x c d = K S c (suc x) x d

-- rule 2, by counts
pub record Dep (S : Set) (a b : ℕ) : Type 0 where
  pub proper : a < b
  pub twice : (x : ℕ) → a ≤ x → x < b → 2 ≤ N S x a b

-- a dependent bracket of which no shorter one with the same left line is dependent
pub record Prefix (S : Set) (a b : ℕ) : Type 0 where
  pub dep : Dep S a b
  pub shortest : (q : ℕ) → a < q → q < b → Dep S a q → ⊥

-- rule 3, by counts: no other bracket inside is dependent
pub record Minimal (S : Set) (a b : ℕ) : Type 0 where
  pub dep : Dep S a b
  pub smallest : (c d : ℕ) → a ≤ c → d ≤ b → Dep S c d → (c ≡ a) × (d ≡ b)

-- the greatest r ≤ n that passes, and 0 where none does
unfoldable pub top : (ℕ → Bool) → ℕ → ℕ
top f zero = zero
top f (suc n) = cond (f (suc n)) (suc n) (top f n)

-- the staircase of the bracket (a, b): the greatest right line ≤ b of a member in the rows a ≤ l < p, and a where there is none
unfoldable pub e : Set → ℕ → ℕ → ℕ → ℕ
e S a b zero = a
e S a b (suc p) = ite (dec_le a p) (max (e S a b p) (top (S p) b)) a

-- rule 4 row by row: at a jump l of the staircase drop (l, e (l + 1)) and add (l, e l) where that is an interval
unfoldable pub red : Set → ℕ → ℕ → Set
red S a b l r =
    ite (dec_le a l)
    (ite (dec_lt l b)
    (ite (dec_lt (e S a b l) (e S a b (suc l)))
    (ite (ℕ_discrete r (e S a b (suc l))) false (ite (ℕ_discrete r (e S a b l)) (ite (dec_lt l r) true (S l r)) (S l r)))
    (S l r))
    (S l r))
    (S l r)
