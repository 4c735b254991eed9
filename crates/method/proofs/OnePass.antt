-- The counts of all columns in one pass: going one column on, a column's count gains the intervals that begin at its line and loses those that end there.
-- Interval by interval, for any list of them: sets and bags of brackets alike. Code that counts starts and ends by line uses it.
use mathlib.Core.Path.{◌≡◌, refl}
use mathlib.Core.List.Memᴰ
use mathlib.Core.List.{List, [], ◌∷◌}
use mathlib.Core.Logic.{by_cases}
use Prim.Native.Nat.{ℕ, suc, ◌+◌, ◌<◌}
use native.Mathlib.Omega.{arith}
use native.Mathlib.Decide.{dec_le, dec_lt, ℕ_discrete}
use lib.Dec.{eqb}
use borrow.Author.Tests.{le-leb, lt-leb, lt-ltb, le-ltb, eq-eqb, ne_eqb}
use Rattle.lists.specs.Lists.{count}
use Rattle.lists.proofs.Members.{In}
use Rattle.method.specs.Intervals.{Interval, span, holds}
use Rattle.method.proofs.Sets.{bit}

-- how many begin, and how many end, at a line
abbrev pub begins : ℕ → List Interval → ℕ
begins l s = count (λ i. eqb i.left l) s

abbrev pub ends : ℕ → List Interval → ℕ
ends r s = count (λ i. eqb i.right r) s

-- one interval
module _ (l r : ℕ) (proper : l < r) where
  first_one : bit (holds 0 (span l r)) ≡ bit (eqb l 0)
  first_one =
      by_cases (ℕ_discrete l 0)
      (λ e. rw (eq-eqb l 0 e, le-leb l 0 (omega arith), lt-ltb 0 r (omega arith)))
      (λ e. rw (ne_eqb l 0 e, lt-leb l 0 (omega arith)))

  next_one : (c : ℕ) → bit (holds (suc c) (span l r)) + bit (eqb r (suc c)) ≡ bit (holds c (span l r)) + bit (eqb l (suc c))
  next_one c =
      by_cases (dec_le l c)
      (λ u.
      rw (le-leb l c u, le-leb l (suc c) (omega arith), ne_eqb l (suc c) (omega arith))
      (by_cases (dec_lt r (suc c)) (λ v. rw (le-ltb c r (omega arith), le-ltb (suc c) r (omega arith), ne_eqb r (suc c) (omega arith)))
      (λ v. rw (lt-ltb c r (omega arith)) (by_cases (ℕ_discrete r (suc c))
      (λ w. rw (le-ltb (suc c) r (omega arith), eq-eqb r (suc c) w))
      (λ w. rw (lt-ltb (suc c) r (omega arith), ne_eqb r (suc c) w))))))
      (λ u.
      rw (lt-leb l c (omega arith), ne_eqb r (suc c) (omega arith))
      (by_cases (ℕ_discrete l (suc c))
      (λ v. rw (eq-eqb l (suc c) v, le-leb l (suc c) (omega arith), lt-ltb (suc c) r (omega arith)))
      (λ v. rw (ne_eqb l (suc c) v, lt-leb l (suc c) (omega arith)))))

-- any list of intervals, none of them empty
pub held_first : (s : List Interval) → ((i : Interval) → In i s → i.left < i.right) → count (holds 0) s ≡ begins 0 s
held_first [] h = refl
held_first (i ∷ s) h = omega (arith, first_one i.left i.right (h i (Memᴰ.head refl)), held_first s (λ j m. h j (Memᴰ.tail m)))

pub held_next : (s : List Interval) → ((i : Interval) → In i s → i.left < i.right) → (c : ℕ)
    → count (holds (suc c)) s + ends (suc c) s ≡ count (holds c) s + begins (suc c) s
held_next [] h c = refl
held_next (i ∷ s) h c = omega (arith, next_one i.left i.right (h i (Memᴰ.head refl)) c, held_next s (λ j m. h j (Memᴰ.tail m)) c)
