-- The laws of the box K: it adds up over adjoining rows and over adjoining lines, so it grows, and it is not 0 exactly where it has a member.
-- Each is a law of `sum`, used on the lines of a row and on the rows. All counting of the theory goes by these laws.
use mathlib.Core.Bool.{Bool, true, false}
use mathlib.Core.Logic.{by_cases}
use mathlib.Core.Path.{◌≡◌, refl, ap, ◌∙◌}
use Prim.Native.Nat.{ℕ, suc, ◌+◌, ◌≤◌, ◌<◌}
use native.Mathlib.Decide.{dec_lt}
use native.Mathlib.Omega.{arith}
use Rattle.method.proofs.Sets.{Set, bit, row, K}
use Rattle.method.proofs.Sums.{sum-none, sum-split, sum_same, sum-add, sum_le, sum-part, sum-term, sum-zero, sum_find}

pub true_bit : (b : Bool) → 0 < bit b → b ≡ true
true_bit true h = refl
true_bit false h = absurd (omega arith)

pub bit-same : (b c : Bool) → bit b ≡ bit c → b ≡ c
bit-same true true h = refl
bit-same true false h = absurd (omega arith)
bit-same false true h = absurd (omega arith)
bit-same false false h = refl

-- the second box holds the first
abbrev pub BoxInside : (l0 l1 r0 r1 k0 k1 s0 s1 : ℕ) → Type 0
BoxInside l0 l1 r0 r1 k0 k1 s0 s1 = (k0 ≤ l0) × (l1 ≤ k1) × (s0 ≤ r0) × (r1 ≤ s1)

-- (l, r) lies in the box
abbrev pub InBox : (l r l0 l1 r0 r1 : ℕ) → Type 0
InBox l r l0 l1 r0 r1 = (l0 ≤ l) × (l < l1) × (r0 < r) × (r ≤ r1)

module _ (S : Set) where
  pub K-rows : (l0 m l1 r0 r1 : ℕ) → l0 ≤ m → m ≤ l1 → K S l0 l1 r0 r1 ≡ K S l0 m r0 r1 + K S m l1 r0 r1
  unfolding K
  K-rows l0 m l1 r0 r1 low high = sum-split (λ l. row S l r0 r1) l0 m l1 low high

  pub K-lines : (l0 l1 r0 m r1 : ℕ) → r0 ≤ m → m ≤ r1 → K S l0 l1 r0 r1 ≡ K S l0 l1 r0 m + K S l0 l1 m r1
  unfolding K row
  K-lines l0 l1 r0 m r1 low high =
      sum_same (λ l. row S l r0 r1) (λ l. row S l r0 m + row S l m r1) l0 l1
      (λ l _ _. sum-split (λ r. bit (S l r)) (suc r0) (suc m) (suc r1) (omega arith) (omega arith))
      ∙ sum-add (λ l. row S l r0 m) (λ l. row S l m r1) l0 l1

  pub K-no-rows : (l0 l1 r0 r1 : ℕ) → l1 ≤ l0 → K S l0 l1 r0 r1 ≡ 0
  unfolding K
  K-no-rows l0 l1 r0 r1 h = sum-none (λ l. row S l r0 r1) l0 l1 h

  pub K-no-lines : (l0 l1 r0 r1 : ℕ) → r1 ≤ r0 → K S l0 l1 r0 r1 ≡ 0
  unfolding K row
  K-no-lines l0 l1 r0 r1 h =
      (sum-zero (λ l. row S l r0 r1) l0 l1).1 (λ l _ _. sum-none (λ r. bit (S l r)) (suc r0) (suc r1) (omega arith))

  pub K-grows : (l0 l1 r0 r1 k0 k1 s0 s1 : ℕ) → BoxInside l0 l1 r0 r1 k0 k1 s0 s1 → K S l0 l1 r0 r1 ≤ K S k0 k1 s0 s1
  unfolding K row
  K-grows l0 l1 r0 r1 k0 k1 s0 s1 w =
      omega (
        arith,
        sum-part (λ l. row S l s0 s1) k0 l0 l1 k1 w.0 w.1,
        sum_le (λ l. row S l r0 r1) (λ l. row S l s0 s1) l0 l1
            (λ l _ _. sum-part (λ r. bit (S l r)) (suc s0) (suc r0) (suc r1) (suc s1) (omega arith) (omega arith)),
      )

  -- a box within an empty one is empty
  pub K-empty : (l0 l1 r0 r1 k0 k1 s0 s1 : ℕ) → K S k0 k1 s0 s1 ≡ 0 → BoxInside l0 l1 r0 r1 k0 k1 s0 s1 → K S l0 l1 r0 r1 ≡ 0
  K-empty l0 l1 r0 r1 k0 k1 s0 s1 z w = omega (arith, K-grows l0 l1 r0 r1 k0 k1 s0 s1 w)

  pub K-has : (l r l0 l1 r0 r1 : ℕ) → S l r ≡ true → InBox l r l0 l1 r0 r1 → 0 < K S l0 l1 r0 r1
  unfolding K row
  K-has l r l0 l1 r0 r1 m i =
      omega (
        arith,
        ap bit m,
        sum-term (λ r. bit (S l r)) (suc r0) r (suc r1) (omega arith) (omega arith),
        sum-term (λ l. row S l r0 r1) l0 l l1 i.0 i.1,
      )

  pub K-find : (l0 l1 r0 r1 : ℕ) → 0 < K S l0 l1 r0 r1 → (l r : ℕ) × (S l r ≡ true) × InBox l r l0 l1 r0 r1
  unfolding K row
  K-find l0 l1 r0 r1 h =
      let i = sum_find (λ l. row S l r0 r1) l0 l1 h in
      let j = sum_find (λ r. bit (S i.0 r)) (suc r0) (suc r1) i.3 in
      (i.0, j.0, true_bit (S i.0 j.0) j.3, omega arith)

pub K-same : (S T : Set) (l0 l1 r0 r1 : ℕ) → ((l r : ℕ) → InBox l r l0 l1 r0 r1 → S l r ≡ T l r) → K S l0 l1 r0 r1 ≡ K T l0 l1 r0 r1
unfolding K row
K-same S T l0 l1 r0 r1 each =
    sum_same (λ l. row S l r0 r1) (λ l. row T l r0 r1) l0 l1
    (λ l u v. sum_same (λ r. bit (S l r)) (λ r. bit (T l r)) (suc r0) (suc r1) (λ r p q. ap bit (each l r (omega arith))))

-- members of a proper set end after they start
pub K-proper : (S : Set) → ((l r : ℕ) → S l r ≡ true → l < r) → (l0 l1 r0 r1 : ℕ) → r1 ≤ l0 → K S l0 l1 r0 r1 ≡ 0
K-proper S proper l0 l1 r0 r1 h =
    by_cases (dec_lt 0 (K S l0 l1 r0 r1)) (λ z. let m = K-find S l0 l1 r0 r1 z in absurd (omega (arith, proper m.0 m.1 m.2)))
    (λ z. omega arith)
