-- Words by their bits: equal bits are equal words, and the word of given bits has these and no other.
-- Inductions on the number of bits; callers use them.
use mathlib.Core.Path.{◌≡◌, sym, ap, ◌∙◌}
use mathlib.Core.Bool.{Bool, false, cond}
use mathlib.Core.Logic.{by_cases}
use Prim.Native.Nat.{ℕ, zero, suc, ◌+◌, ◌*◌, ◌/◌, ◌%◌, ◌^◌, ◌≤◌, ◌<◌}
use native.Mathlib.Nat.{pow-suc, div-eq_of_lt, lt_of_lt_of_le}
use native.Mathlib.Omega.{arith}
use native.Mathlib.Decide.{ℕ_discrete}
use lib.Dec.{eqb}
use lib.Arith.{lt-one}
use lib.Pow.{pow_mono, high, low}
use borrow.Author.Tests.{lt-ltb, eqb-true, eqb-false}
use Rattle.lists.proofs.Truth.{bcase}
use Rattle.words.specs.Words.{bits, on, Bits, word_to, word_of}
pub use Rattle.words.proofs.Digits.{on-zero}
use Rattle.words.proofs.Digits.{on-parity, on-half, on-mod, half-below}

-- two words of n bits with the same bits are one
same-to : (n a b : ℕ) → a < 2 ^ n → b < 2 ^ n → ((k : ℕ) → k < n → on a k ≡ on b k) → a ≡ b
same-to zero a b s t h = lt-one s ∙ sym (lt-one t)
same-to (suc n) a b s t h =
    let halves = same-to n (a / 2) (b / 2) (half-below n a s) (half-below n b t) (λ k u. sym (on-half a k) ∙ h (suc k) (omega arith) ∙ on-half b k) in
    let lowest : eqb (a % 2) 1 ≡ eqb (b % 2) 1 = sym (on-parity a) ∙ h 0 (omega arith) ∙ on-parity b in
    bcase (eqb (a % 2) 1)
    (λ u. omega (arith, eqb-true (a % 2) 1 u, eqb-true (b % 2) 1 (sym lowest ∙ u)))
    (λ u. omega (arith, eqb-false (a % 2) 1 u, eqb-false (b % 2) 1 (sym lowest ∙ u)))

pub on_ext : (a b : ℕ) → a < 2 ^ bits → b < 2 ^ bits → ((k : ℕ) → k < bits → on a k ≡ on b k) → a ≡ b
on_ext = same-to bits

below_power : (n : ℕ) → n < 2 ^ n
below_power zero = omega arith
below_power (suc n) = omega (arith, below_power n, pow-suc 2 n)

-- two numbers with the same bits, every one, are one
pub bits_determine : (a b : ℕ) {p : ℕ → Bool} → Bits a p → Bits b p → a ≡ b
bits_determine a b s t =
    same-to (a + b) a b (lt_of_lt_of_le (below_power a) (pow_mono (omega arith))) (lt_of_lt_of_le (below_power b) (pow_mono (omega arith))) (λ k u. s k ∙ sym (t k))

pub high-off : (n w k : ℕ) → w < 2 ^ n → n ≤ k → on w k ≡ false
unfolding on
high-off n w k h l = ap (λ m. eqb (m % 2) 1) (div-eq_of_lt (lt_of_lt_of_le h (pow_mono l)))

pub on-high : (w k : ℕ) → w < 2 ^ bits → bits ≤ k → on w k ≡ false
on-high = high-off bits

-- a number by one digit above its n lowest ones
on-low : (q n : ℕ) {r : ℕ} (k : ℕ) → r < 2 ^ n → k < n → on (q * 2 ^ n + r) k ≡ on r k
on-low q n {r} k h l = sym (ap (λ m. on m k) (sym (low q n h)) ∙ on-mod (q * 2 ^ n + r) n k ∙ rw (lt-ltb k n l))

on-top : (q n : ℕ) {r : ℕ} → r < 2 ^ n → on (q * 2 ^ n + r) n ≡ eqb (q % 2) 1
unfolding on
on-top q n h = ap (λ m. eqb (m % 2) 1) (high q n h)

-- the word of given bits, such a digit after the other
module _ (p : ℕ → Bool) where
  word_step : (n : ℕ) → word_to (suc n) p ≡ cond (p n) 1 0 * 2 ^ n + word_to n p
  unfolding word_to
  word_step n = bcase (p n) (λ u. rw u (omega arith)) (λ u. rw u (omega arith))

  lt_to : (n : ℕ) → word_to n p < 2 ^ n
  unfolding word_to
  lt_to zero = omega arith
  lt_to (suc n) = bcase (p n) (λ u. rw u (omega (arith, lt_to n, pow-suc 2 n))) (λ u. rw u (omega (arith, lt_to n, pow-suc 2 n)))

  on-to : (n k : ℕ) → k < n → on (word_to n p) k ≡ p k
  on-to zero k h = absurd (omega arith)
  on-to (suc n) k h =
      by_cases (ℕ_discrete k n)
      (λ e. rw (e, word_step n, on-top (cond (p n) 1 0) n (lt_to n)) (bcase (p n) (λ u. rw u) (λ u. rw u)))
      (λ d. rw (word_step n) (on-low (cond (p n) 1 0) n k (lt_to n) (omega arith) ∙ on-to n k (omega arith)))

pub word_lt : (p : ℕ → Bool) → word_of p < 2 ^ bits
unfolding word_of
word_lt p = lt_to p bits

pub on_word : (p : ℕ → Bool) (k : ℕ) → k < bits → on (word_of p) k ≡ p k
unfolding word_of
on_word p k h = on-to p bits k h

-- a word with these bits is the word of these bits
pub word_bits : {w : ℕ} {p : ℕ → Bool} → w < 2 ^ bits → ((k : ℕ) → k < bits → on w k ≡ p k) → w ≡ word_of p
word_bits {w} {p} h e = on_ext w (word_of p) h (word_lt p) (λ k u. e k u ∙ sym (on_word p k u))
