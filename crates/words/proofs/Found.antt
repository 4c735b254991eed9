-- The first bit that is on, upwards and downwards: what the machine counts, the zeros at either end of a word, is what a search finds.
-- By induction on the bits that are looked at; by the highest digit.
use mathlib.Core.Path.{◌≡◌, refl, sym, ap, subst, ◌∙◌}
use mathlib.Core.Bool.{true, ◌&&◌}
use Prim.Native.Nat.{ℕ, zero, suc, ◌+◌, ◌-◌, ◌/◌, ◌%◌, ◌^◌, ◌≤◌, ◌<◌}
use native.Mathlib.Nat.{pow-suc, div-eq_of_lt-le}
use native.Mathlib.Omega.{arith}
use native.Mathlib.Numerals.{add-one}
use lib.Dec.{eqb, ltb}
use lib.Arith.{lt-one}
use lib.Pow.{shr-shr, shr_lt}
use lib.Count.{count_trailing_zeros, trailing_of_zero, count_leading_zeros, leading_of_zero, leading_top}
use borrow.Author.Tests.{lt-ltb, ltb-true, eqb-true, eqb-false}
use Rattle.lists.specs.Lists.{first, from, down}
use Rattle.lists.proofs.Truth.{bcase, and_left, and_right}
use Rattle.lists.proofs.Searches.{first-end, down-greatest, down-nowhere}
use Rattle.grid.specs.Code.{or_end}
use Rattle.words.specs.Words.{bits, on, Bits, past_of}
use Rattle.words.proofs.Digits.{on-zero, half-below}
use Rattle.words.proofs.Words.{high-off}

-- a search upwards over n bits from a on counts the zeros below the first that is on
counted : (w n a : ℕ) → or_end (a + n) (first (on w) (from a n)) ≡ a + count_trailing_zeros n (w / 2 ^ a)
unfolding on count_trailing_zeros
counted w zero a = refl
counted w (suc n) a =
    bcase (eqb (w / 2 ^ a % 2) 1)
    (λ u. rw (u, eqb-true (w / 2 ^ a % 2) 1 u) (omega arith))
    (λ u.
    let even : w / 2 ^ a % 2 ≡ 0 = omega (arith, eqb-false (w / 2 ^ a % 2) 1 u) in
    let half : w / 2 ^ a / 2 ≡ w / 2 ^ suc a = shr-shr w a 1 ∙ ap (λ k. w / 2 ^ k) (add-one a) in
    let e : a + suc n ≡ suc a + n = omega arith in
    rw (u, even, half, e) (counted w n (suc a) ∙ omega arith))

-- in a number of m bits that is not 0 it makes no difference how many more are looked at
enough : (m d x : ℕ) → 0 < x → x < 2 ^ m → count_trailing_zeros (m + d) x ≡ count_trailing_zeros m x
unfolding count_trailing_zeros
enough zero d x p h = absurd (omega (arith, lt-one h))
enough (suc m) d x p h =
    let e : suc m + d ≡ suc (m + d) = omega arith in
    bcase (eqb (x % 2) 1)
    (λ u. rw (e, eqb-true (x % 2) 1 u))
    (λ u.
    let even : x % 2 ≡ 0 = omega (arith, eqb-false (x % 2) 1 u) in
    rw (e, even) (ap suc (enough m d (x / 2) (omega arith) (half-below m x h))))

module _ (w a : ℕ) where
  pub next_out : bits ≤ a → bits ≡ or_end bits (first (on w) (from a (bits - a)))
  next_out h = rw (first-end (on w) a bits h)

  module _ (inside : a < bits) where
    whole : or_end bits (first (on w) (from a (bits - a))) ≡ a + count_trailing_zeros (bits - a) (w / 2 ^ a)
    whole = let e : a + (bits - a) ≡ bits = omega arith in ap (λ n. or_end n (first (on w) (from a (bits - a)))) (sym e) ∙ counted w (bits - a) a

    pub next-none : w / 2 ^ a ≡ 0 → bits ≡ or_end bits (first (on w) (from a (bits - a)))
    next-none z = sym (whole ∙ rw (z, trailing_of_zero (bits - a)) (omega arith))

    pub next-some : w < 2 ^ bits → 0 < w / 2 ^ a → a + count_trailing_zeros bits (w / 2 ^ a) ≡ or_end bits (first (on w) (from a (bits - a)))
    next-some h p =
        let e : bits - a + a ≡ bits = omega arith in
        let short = shr_lt (bits - a) a (subst (λ n. w < 2 ^ n) (sym e) h) in
        ap (λ n. a + count_trailing_zeros n (w / 2 ^ a)) (sym e) ∙ ap (λ n. a + n) (enough (bits - a) a (w / 2 ^ a) p short) ∙ sym whole

-- the bit of a number's highest digit is on
highest_on : (v j : ℕ) → 2 ^ j ≤ v → v < 2 ^ suc j → on v j ≡ true
unfolding on
highest_on v j l h =
    let one : v / 2 ^ j ≡ 1 = div-eq_of_lt-le (2 ^ j) (omega arith) (omega (arith, pow-suc 2 j)) in ap (λ n. eqb (n % 2) 1) one

-- the zeros above the highest digit of the bits before an end say where a search downwards from there ends
module _ (w end : ℕ) where
  same : (v j : ℕ) → Bits v (λ j. ltb j end && on w j) → j < end → on w j ≡ on v j
  same v j cut u = sym (cut j ∙ rw (lt-ltb j end u))

  pub last : (n v : ℕ) → v < 2 ^ n → Bits v (λ j. ltb j end && on w j) → n - count_leading_zeros n v ≡ past_of (first (on w) (down end))
  last n zero h cut = rw (leading_of_zero n, down-nowhere (on w) end (λ j u. same 0 j cut u ∙ on-zero j)) (omega arith)
  last n (suc v) h cut =
      let t = leading_top n (suc v) (omega arith) h in
      let j = t.0 in
      let both = sym (cut j) ∙ highest_on (suc v) j t.2 t.3 in
      rw (down-greatest (on w) end j (ltb-true j end (and_left (ltb j end) (on w j) both)) (and_right (ltb j end) (on w j) both) (λ y l u. same (suc v) y cut u ∙ high-off (suc j) (suc v) y t.3 l))
      (omega arith)
