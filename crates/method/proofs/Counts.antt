-- How many intervals of a listed set pass a test that cuts out a box: the theory's count K of that box.
-- A count over every interval is a sum over left lines of sums over right lines; outside the box, and outside the set, the terms are 0.
use mathlib.Core.Path.{◌≡◌, refl, sym, ap, ◌∙◌}
use mathlib.Core.Logic.{by_cases}
use mathlib.Core.Bool.{Bool, true, ◌&&◌}
use mathlib.Core.List.{List}
use Prim.Native.Nat.{ℕ, zero, suc, ◌+◌, ◌-◌, ◌≤◌, ◌<◌, max}
use native.Mathlib.Omega.{arith}
use native.Mathlib.Nat.{zero-add}
use native.Mathlib.Decide.{dec_le, dec_lt}
use lib.ListN.{length}
use Rattle.lists.specs.Lists.{count, gather, from}
use Rattle.lists.proofs.Truth.{bcase, and_left, and_right, and_both}
use Rattle.lists.proofs.Keep.{count-keep}
use Rattle.lists.proofs.Counting.{count-append, count_map, length-count}
use Rattle.method.specs.Intervals.{Interval, span, holds, inside, beginning_at, every, member}
use Rattle.method.specs.Dependent.{covered_inside}
use Rattle.method.specs.Runs.{Listed}
use Rattle.method.proofs.Sets.{has, bit, sum, row, K, N}
use Rattle.method.proofs.Sums.{sum-none, sum_one, sum-split, sum_same, sum-zero, sum_find}
use Rattle.method.proofs.Boxes.{true_bit}
use Rattle.method.proofs.Lines.{holds-lines, lines_hold, inside-lines, lines-inside}
use Rattle.method.proofs.Listed.{listed-lines}

-- the first term apart
sum_first : (g : ℕ → ℕ) (a n : ℕ) → sum g a (a + suc n) ≡ g a + sum g (suc a) (suc a + n)
sum_first g a n =
    let e : a + suc n ≡ suc a + n = omega arith in
    omega (arith, sum_one g a, sum-split g a (suc a) (a + suc n) (omega arith) (omega arith), ap (sum g (suc a)) e)

count-from : (p : ℕ → Bool) (a n : ℕ) → count p (from a n) ≡ sum (λ i. bit (p i)) a (a + n)
count-from p a zero = sym (sum-none (λ i. bit (p i)) a (a + 0) (omega arith))
count-from p a (suc n) = omega (arith, sum_first (λ i. bit (p i)) a n, count-from p (suc a) n)

count-gather {ℓ} : {B : Type ℓ} (p : B → Bool) (f : ℕ → List B) (a n : ℕ) → count p (gather f (from a n)) ≡ sum (λ i. count p (f i)) a (a + n)
count-gather p f a zero = sym (sum-none (λ i. count p (f i)) a (a + 0) (omega arith))
count-gather p f a (suc n) =
    omega (arith, sum_first (λ i. count p (f i)) a n, count-gather p f (suc a) n, count-append p (f a) (gather f (from (suc a) n)))

count-every : (n : ℕ) (p : Interval → Bool) → count p (every n) ≡ sum (λ l. sum (λ r. bit (p (span l r))) (suc l) (suc n)) 0 n
count-every n p =
    count-gather p (beginning_at n) 0 n ∙ ap (sum (λ l. count p (beginning_at n l)) 0) (zero-add n)
    ∙ sum_same (λ l. count p (beginning_at n l)) (λ l. sum (λ r. bit (p (span l r))) (suc l) (suc n)) 0 n
    (λ l u v. let e : suc l + (n - l) ≡ suc n = omega arith in
    count_map p (λ r. span l r) (from (suc l) (n - l)) ∙ count-from (λ r. p (span l r)) (suc l) (n - l) ∙ ap (sum (λ r. bit (p (span l r))) (suc l)) e)

-- where a sum's terms are 0 outside two ranges, both ranges give the same
sum-wide : (g : ℕ → ℕ) (a b w : ℕ) → b ≤ w → ((i : ℕ) → 0 < g i → (a ≤ i) × (i < b)) → sum g a b ≡ sum g 0 w
sum-wide g a b w u h =
    by_cases (dec_le a b)
    (λ v. omega (arith, sum-split g 0 a w (omega arith) (omega arith), sum-split g a b w v u, none 0 a (λ i x y. omega arith), none b w (λ i x y. omega arith)))
    (λ v. omega (arith, sum-none g a b (omega arith), none 0 w (λ i x y. omega arith)))
  where
    none : (x y : ℕ) → ((i : ℕ) → x ≤ i → i < y → (a ≤ i) × (i < b) → ⊥) → sum g x y ≡ 0
    none x y k = (sum-zero g x y).1 (λ i v z. by_cases (dec_lt 0 (g i)) (λ q. absurd (k i v z (h i q))) (λ q. omega arith))

sum_range : (g : ℕ → ℕ) (a b c d : ℕ) → ((i : ℕ) → 0 < g i → (a ≤ i) × (i < b) × (c ≤ i) × (i < d)) → sum g a b ≡ sum g c d
sum_range g a b c d h =
    sum-wide g a b (max b d) (omega arith) (λ i q. let r = h i q in (r.0, r.1))
    ∙ sym (sum-wide g c d (max b d) (omega arith) (λ i q. let r = h i q in (r.2, r.3)))

module _ (n : ℕ) (s : List Interval) (listed : Listed n s) where
  -- a test that passes, in the set, inside the box and nowhere else
  pub count-box : (p : Interval → Bool) (l0 l1 r0 r1 : ℕ)
      → ((l r : ℕ) → has s l r ≡ true → p (span l r) ≡ true → (l0 ≤ l) × (l < l1) × (r0 < r) × (r ≤ r1))
      → ((l r : ℕ) → has s l r ≡ true → l0 ≤ l → l < l1 → r0 < r → r ≤ r1 → p (span l r) ≡ true)
      → count p s ≡ K (has s) l0 l1 r0 r1
  unfolding K row
  count-box p l0 l1 r0 r1 only each =
      ap (count p) listed ∙ count-keep (λ i. member i s) p (every n) ∙ count-every n (λ i. member i s && p i)
      ∙ sum_same (λ l. sum (term l) (suc l) (suc n)) (λ l. sum (term l) (suc r0) (suc r1)) 0 n
      (λ l u v. sum_range (term l) (suc l) (suc n) (suc r0) (suc r1) (λ r q. let t = in_box l r q in omega arith))
      ∙ sum_range (λ l. sum (term l) (suc r0) (suc r1)) 0 n l0 l1
      (λ l q. let f = sum_find (term l) (suc r0) (suc r1) q in let t = in_box l f.0 f.3 in omega arith)
      ∙ sum_same (λ l. sum (term l) (suc r0) (suc r1)) (λ l. row (has s) l r0 r1) l0 l1
      (λ l u v. sum_same (term l) (λ r. bit (has s l r)) (suc r0) (suc r1)
      (λ r x y. bcase (has s l r) (λ m. rw (m, each l r m u v x (omega arith))) (λ m. rw m)))
    where
      term : ℕ → ℕ → ℕ
      term l r = bit (has s l r && p (span l r))

      in_box : (l r : ℕ) → 0 < term l r → (l < r) × (r ≤ n) × (l0 ≤ l) × (l < l1) × (r0 < r) × (r ≤ r1)
      in_box l r q =
          let t = true_bit (has s l r && p (span l r)) q in
          let m = and_left (has s l r) (p (span l r)) t in
          let b = only l r m (and_right (has s l r) (p (span l r)) t) in
          omega (arith, listed-lines n s listed (span l r) m)

  -- the size of the set
  pub length-box : length s ≡ K (has s) 0 n 0 n
  length-box =
      length-count s
      ∙ count-box (λ i. true) 0 n 0 n (λ l r m h. let b = listed-lines n s listed (span l r) m in omega arith) (λ l r m u v x y. refl)

  -- how many of its intervals hold column c
  pub holds-box : (c : ℕ) → count (holds c) s ≡ K (has s) 0 (suc c) c n
  holds-box c =
      count-box (holds c) 0 (suc c) c n
      (λ l r m h. let b = listed-lines n s listed (span l r) m in let t = holds-lines c (span l r) h in omega arith)
      (λ l r m u v x y. lines_hold c (span l r) (omega arith) x)

  -- how many of those inside the bracket (a, b) hold it
  pub covered-box : (a b c : ℕ) → covered_inside s (span a b) c ≡ N (has s) c a b
  unfolding covered_inside
  covered-box a b c =
      count-box (λ i. inside (span a b) i && holds c i) a (suc c) c b
      (λ l r m h.
      let i = inside-lines (span a b) (span l r) (and_left (inside (span a b) (span l r)) (holds c (span l r)) h) in
      let j = holds-lines c (span l r) (and_right (inside (span a b) (span l r)) (holds c (span l r)) h) in
      omega arith)
      (λ l r m u v x y.
      and_both (inside (span a b) (span l r)) (holds c (span l r)) (lines-inside (span a b) (span l r) u y) (lines_hold c (span l r) (omega arith) x))
