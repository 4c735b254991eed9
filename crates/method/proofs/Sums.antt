-- The laws of `sum`. Steps, splits and the telescope go by induction on the upper end; the others follow from them.
-- Every count of the theory is such a sum: the boxes and the reduction rest on this file.
use mathlib.Core.Logic.{by_cases, if_pos, if_neg, ◌↔◌}
use mathlib.Core.Path.{◌≡◌, refl}
use Prim.Native.Nat.{ℕ, zero, suc, ◌+◌, ◌-◌, ◌≤◌, ◌<◌}
use native.Mathlib.Decide.{dec_le, dec_lt, le_ind}
use native.Mathlib.Omega.{arith}
use Rattle.method.proofs.Sets.{sum}

pub sum_step : (g : ℕ → ℕ) (a b : ℕ) → a ≤ b → sum g a (suc b) ≡ sum g a b + g b
unfolding sum
sum_step g a b h = if_pos (dec_le a b) h _ _

pub sum-none : (g : ℕ → ℕ) (a b : ℕ) → b ≤ a → sum g a b ≡ 0
unfolding sum
sum-none g a zero h = refl
sum-none g a (suc b) h = if_neg (dec_le a b) (omega arith) _ _

pub sum_one : (g : ℕ → ℕ) (a : ℕ) → sum g a (suc a) ≡ g a
sum_one g a = omega (arith, sum_step g a a (omega arith), sum-none g a a (omega arith))

-- at a middle line a sum comes apart
pub sum-split : (g : ℕ → ℕ) (a m b : ℕ) → a ≤ m → m ≤ b → sum g a b ≡ sum g a m + sum g m b
sum-split g a m b low high =
    le_ind (λ k. sum g a k ≡ sum g a m + sum g m k) (omega (arith, sum-none g m m (omega arith)))
    (λ k h ih. omega (arith, sum_step g a k (omega arith), sum_step g m k h)) b high

-- what each term hands on to the next comes in at the lower end and goes out at the upper end
pub sum_telescope : (f g h : ℕ → ℕ) (a b : ℕ) → a ≤ b → ((i : ℕ) → a ≤ i → i < b → f i + h (suc i) ≡ g i + h i)
    → sum f a b + h b ≡ sum g a b + h a
sum_telescope f g h a b low each =
    le_ind (λ k. ((i : ℕ) → a ≤ i → i < k → f i + h (suc i) ≡ g i + h i) → sum f a k + h k ≡ sum g a k + h a)
    (λ _. omega (arith, sum-none f a a (omega arith), sum-none g a a (omega arith)))
    (λ k u ih each. omega (arith, sum_step f a k u, sum_step g a k u, ih (λ i v w. each i v (omega arith)), each k u (omega arith)))
    b low each

pub sum_same : (f g : ℕ → ℕ) (a b : ℕ) → ((i : ℕ) → a ≤ i → i < b → f i ≡ g i) → sum f a b ≡ sum g a b
sum_same f g a b each =
    by_cases (dec_le a b) (λ h. omega (arith, sum_telescope f g (λ _. 0) a b h (λ i u v. omega (arith, each i u v))))
    (λ h. omega (arith, sum-none f a b (omega arith), sum-none g a b (omega arith)))

pub sum-add : (f g : ℕ → ℕ) (a b : ℕ) → sum (λ i. f i + g i) a b ≡ sum f a b + sum g a b
sum-add f g a b =
    by_cases (dec_le a b)
    (λ h. omega (
      arith,
      sum-none g a a (omega arith),
      sum_telescope f (λ i. f i + g i) (sum g a) a b h (λ i u v. omega (arith, sum_step g a i u)),
    ))
    (λ h. omega (arith, sum-none f a b (omega arith), sum-none g a b (omega arith), sum-none (λ i. f i + g i) a b (omega arith)))

pub sum_le : (f g : ℕ → ℕ) (a b : ℕ) → ((i : ℕ) → a ≤ i → i < b → f i ≤ g i) → sum f a b ≤ sum g a b
sum_le f g a b each =
    omega (arith, sum-add f (λ i. g i - f i) a b, sum_same g (λ i. f i + (g i - f i)) a b (λ i u v. omega (arith, each i u v)))

-- a part is at most the whole
pub sum-part : (g : ℕ → ℕ) (a c d b : ℕ) → a ≤ c → d ≤ b → sum g c d ≤ sum g a b
sum-part g a c d b low high =
    by_cases (dec_le c d) (λ h. omega (arith, sum-split g a c b low (omega arith), sum-split g c d b h high))
    (λ h. omega (arith, sum-none g c d (omega arith)))

pub sum-term : (g : ℕ → ℕ) (a i b : ℕ) → a ≤ i → i < b → g i ≤ sum g a b
sum-term g a i b low high = omega (arith, sum_one g i, sum-part g a i (suc i) b low high)

pub sum-zero : (g : ℕ → ℕ) (a b : ℕ) → sum g a b ≡ 0 ↔ ((i : ℕ) → a ≤ i → i < b → g i ≡ 0)
sum-zero g a b =
    (λ z i u v. omega (arith, sum-term g a i b u v), λ each. omega (arith, sum_zeros, sum_same g (λ _. 0) a b each))
  where
    sum_zeros : sum (λ _. 0) a b ≡ 0
    sum_zeros = omega (arith, sum-add (λ _. 0) (λ _. 0) a b)

-- a sum that is not zero has a term that is not
pub sum_find : (g : ℕ → ℕ) (a b : ℕ) → 0 < sum g a b → (i : ℕ) × (a ≤ i) × (i < b) × (0 < g i)
sum_find g a zero h = absurd (omega (arith, sum-none g a zero (omega arith)))
sum_find g a (suc b) h =
    by_cases (dec_le a b)
    (λ k. by_cases (dec_lt 0 (g b)) (λ z. (b, k, omega arith, z))
    (λ z. let t = sum_find g a b (omega (arith, sum_step g a b k)) in (t.0, t.1, omega arith, t.3)))
    (λ k. absurd (omega (arith, sum-none g a (suc b) (omega arith))))
