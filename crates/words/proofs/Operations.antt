-- The machine's operations as the functions use them, on words of n bits: what is on in the result.
-- Each by the laws of one bit. The functions' proofs are these at the word's own number of bits.
use mathlib.Core.Path.{◌≡◌, refl, sym, ap, ap₂, ◌∙◌}
use mathlib.Core.Bool.{Bool, true, false, not, cond, ◌&&◌, ◌||◌, and_comm, or_comm}
use mathlib.Core.Logic.{by_cases}
use Prim.Native.Nat.{ℕ, zero, suc, ◌+◌, ◌-◌, ◌*◌, ◌/◌, ◌%◌, ◌^◌, ◌≤◌, ◌<◌}
use native.Mathlib.Nat.{one-mul, mod-eq_of_lt}
use native.Mathlib.Omega.{arith}
use native.Mathlib.Decide.{dec_lt}
use native.Mathlib.Numerals.{add-one, one-add}
use lib.Dec.{eqb, ltb}
use lib.Bits.{bit_and, bit_or, bit_xor, and_mask}
use lib.Pow.{pow_pos, pow-lt}
use borrow.Author.Tests.{lt-ltb, le-ltb}
use Rattle.lists.specs.Lists.{first, from, down}
use Rattle.lists.proofs.Members.{first-same}
use Rattle.lists.proofs.Ranges.{from_in}
use Rattle.grid.specs.Code.{or_end}
use Rattle.words.specs.Words.{on, Bits, past_of}
use Rattle.words.proofs.Digits.{on-digit, on-rest, on_and, on_or, on_xor, on-mod, on-not, on_shr, on-pow, unlike}
use Rattle.words.proofs.Words.{high-off}

unlike_comm : (a b : Bool) → unlike a b ≡ unlike b a
unlike_comm true true = refl
unlike_comm true false = refl
unlike_comm false true = refl
unlike_comm false false = refl

on-double : (w j : ℕ) → on (w * 2 ^ 1) j ≡ ltb 0 j && on w (j - 1)
on-double w zero = let e : w * 2 ≡ w * 2 + 0 = omega arith in rw e (on-digit w 0 (omega arith))
on-double w (suc j) =
    let e : w * 2 ≡ w * 2 + 0 = omega arith in
    let f : suc j - 1 ≡ j = omega arith in
    rw (f, lt-ltb 0 (suc j) (omega arith)) (ap (λ m. on m (suc j)) e ∙ on-rest w 0 j (omega arith))

pub is-on-bit : (w k : ℕ) → eqb (bit_and (w / 2 ^ k) 1) 1 ≡ on w k
unfolding on
is-on-bit w k = ap (λ m. eqb m 1) (and_mask (w / 2 ^ k) 1)

module _ (n : ℕ) where
  -- one bit, shifted to its place
  one_bit : (k : ℕ) → k < n → (1 * 2 ^ k) % 2 ^ n ≡ 2 ^ k
  one_bit k h = ap (λ m. m % 2 ^ n) (one-mul (2 ^ k)) ∙ mod-eq_of_lt (pow-lt h)

  pub one_positive : (k : ℕ) → k < n → 1 ≤ (1 * 2 ^ k) % 2 ^ n
  one_positive k h = rw (one_bit k h) (pow_pos k)

  on_one : (k j : ℕ) → k < n → on ((1 * 2 ^ k) % 2 ^ n) j ≡ eqb j k
  on_one k j h = ap (λ m. on m j) (one_bit k h) ∙ on-pow k j

  pub with-bits : (w k : ℕ) → k < n → Bits (bit_or w ((1 * 2 ^ k) % 2 ^ n)) (λ j. eqb j k || on w j)
  with-bits w k h j = on_or w ((1 * 2 ^ k) % 2 ^ n) j ∙ ap (λ b. on w j || b) (on_one k j h) ∙ or_comm (on w j) (eqb j k)

  pub without-bits : (w k : ℕ) → w < 2 ^ n → k < n → Bits (bit_and w (2 ^ n - 1 - (1 * 2 ^ k) % 2 ^ n)) (λ j. not (eqb j k) && on w j)
  without-bits w k u h j =
      on_and w (2 ^ n - 1 - (1 * 2 ^ k) % 2 ^ n) j
      ∙ ap (λ b. on w j && b) (on-not n ((1 * 2 ^ k) % 2 ^ n) j (rw (one_bit k h) (pow-lt h)) ∙ ap (λ b. ltb j n && not b) (on_one k j h))
      ∙ by_cases (dec_lt j n)
      (λ l. rw (lt-ltb j n l) (and_comm (on w j) (not (eqb j k))))
      (λ l. rw (high-off n w j u (omega arith)) (and_comm false (not (eqb j k))))

  pub below-bits : (w end : ℕ) → end < n → Bits (bit_and w ((1 * 2 ^ end) % 2 ^ n - 1)) (λ j. ltb j end && on w j)
  below-bits w end h j = ap (λ m. on (bit_and w (m - 1)) j) (one_bit end h) ∙ ap (λ m. on m j) (and_mask w end) ∙ on-mod w end j

  pub whole-bits : (w end : ℕ) → w < 2 ^ n → n ≤ end → Bits w (λ j. ltb j end && on w j)
  whole-bits w end u h j =
      by_cases (dec_lt j n)
      (λ l. rw (lt-ltb j end (omega arith)))
      (λ l. rw (high-off n w j u (omega arith)) (and_comm false (ltb j end)))

  pub flipped_bits : (w k : ℕ) → k < n → Bits (bit_xor w ((1 * 2 ^ k) % 2 ^ n)) (λ j. cond (eqb j k) (not (on w j)) (on w j))
  flipped_bits w k h j = on_xor w ((1 * 2 ^ k) % 2 ^ n) j ∙ ap (λ b. unlike (on w j) b) (on_one k j h) ∙ unlike_comm (on w j) (eqb j k)

  pub spread_bits : (w : ℕ) → w < 2 ^ n
      → Bits (bit_or (bit_or w (w / 2 ^ 1)) ((w * 2 ^ 1) % 2 ^ n)) (λ j. ltb j n && (on w j || on w (j + 1) || (ltb 0 j && on w (j - 1))))
  spread_bits w u j =
      on_or (bit_or w (w / 2 ^ 1)) ((w * 2 ^ 1) % 2 ^ n) j
      ∙ ap₂ ◌||◌
      (on_or w (w / 2 ^ 1) j ∙ ap (λ b. on w j || b) (on_shr w 1 j ∙ ap (on w) (one-add j ∙ sym (add-one j))))
      (on-mod (w * 2 ^ 1) n j ∙ ap (λ b. ltb j n && b) (on-double w j))
      ∙ by_cases (dec_lt j n)
      (λ l. rw (lt-ltb j n l))
      (λ l. rw (le-ltb j n (omega arith), high-off n w j u (omega arith), high-off n w (j + 1) u (omega arith)))

  -- a search for what is off is one in the word turned over
  module _ (w : ℕ) (u : w < 2 ^ n) where
    turned : (j : ℕ) → j < n → on (2 ^ n - 1 - w) j ≡ not (on w j)
    turned j l = on-not n w j u ∙ rw (lt-ltb j n l)

    pub turned_up : (a : ℕ) → or_end n (first (on (2 ^ n - 1 - w)) (from a (n - a))) ≡ or_end n (first (λ k. not (on w k)) (from a (n - a)))
    turned_up a =
        ap (or_end n) (first-same (on (2 ^ n - 1 - w)) (λ k. not (on w k)) (from a (n - a)) (λ j m. let r = from_in a (n - a) m in turned j (omega arith)))

    pub turned_down : (m : ℕ) → m ≤ n → past_of (first (on (2 ^ n - 1 - w)) (down m)) ≡ past_of (first (λ k. not (on w k)) (down m))
    turned_down m h = ap past_of (same m h)
      where
        same : (m : ℕ) → m ≤ n → first (on (2 ^ n - 1 - w)) (down m) ≡ first (λ k. not (on w k)) (down m)
        same zero h = refl
        same (suc m) h = rw (turned m h, same m (omega arith))

-- what the goals of the functions of one operation close by
pub ruleset steps = (on_and, on_or, on_xor, is-on-bit, turned_up)
