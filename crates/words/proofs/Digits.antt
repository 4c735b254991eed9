-- One bit of a word under each operation of the machine: by the lowest digit, and by halving.
-- Inductions on the bit's place; functions' proofs use them, callers do not need them.
use mathlib.Core.Path.{◌≡◌, refl, sym, ap, ap₂, ◌∙◌}
use mathlib.Core.Bool.{Bool, false, not, cond, ◌&&◌, ◌||◌}
use Prim.Native.Nat.{ℕ, zero, suc, ◌+◌, ◌-◌, ◌*◌, ◌/◌, ◌%◌, ◌^◌, ◌<◌, min, max}
use native.Mathlib.Nat.{pow-suc, div-div-eq-div-mul, mod-lt, div-one, mul_comm}
use native.Mathlib.Omega.{arith}
use native.Mathlib.Numerals.{add-one}
use lib.Dec.{eqb, ltb, leb-suc-suc, eqb-suc-suc}
use lib.Arith.{digits_div, digits_mod, lt-one}
use lib.Bits.{bit_and, bit_or, bit_xor, differ, and_step, or_step, xor_step}
use lib.Pow.{pow_pos, mod-pow-add, shr-shr}
use borrow.Author.Tests.{lt-ltb, le-ltb, ne_eqb}
use Rattle.words.specs.Words.{on}

-- the lowest bit is the parity, and every other a bit of the half
pub on-parity : (w : ℕ) → on w 0 ≡ eqb (w % 2) 1
unfolding on
on-parity w = ap (λ n. eqb (n % 2) 1) (div-one w)

pub on-half : (w k : ℕ) → on w (suc k) ≡ on (w / 2) k
unfolding on
on-half w k = ap (λ n. eqb (n % 2) 1) (ap (λ n. w / n) (pow-suc 2 k ∙ mul_comm (2 ^ k) 2) ∙ sym (div-div-eq-div-mul w 2 (2 ^ k)))

-- the same of a number that is written by its lowest digit
pub on-digit : (q c : ℕ) → c < 2 → on (q * 2 + c) 0 ≡ eqb c 1
on-digit q c h = on-parity (q * 2 + c) ∙ ap (λ n. eqb n 1) (digits_mod q h)

pub on-rest : (q c k : ℕ) → c < 2 → on (q * 2 + c) (suc k) ≡ on q k
on-rest q c k h = on-half (q * 2 + c) k ∙ ap (λ n. on n k) (digits_div q h)

pub on-zero : (k : ℕ) → on 0 k ≡ false
on-zero zero = on-parity 0
on-zero (suc k) = on-half 0 k ∙ on-zero k

parity : (w : ℕ) → w % 2 < 2
parity w = omega arith

-- an operation digit by digit is one bit by bit
module _ (op digit : ℕ → ℕ → ℕ) (join : Bool → Bool → Bool)
    (step : (a b : ℕ) → op a b ≡ op (a / 2) (b / 2) * 2 + digit (a % 2) (b % 2))
    (small : (x y : ℕ) → x < 2 → y < 2 → digit x y < 2)
    (table : (x y : ℕ) → x < 2 → y < 2 → eqb (digit x y) 1 ≡ join (eqb x 1) (eqb y 1)) where
  on_op : (a b k : ℕ) → on (op a b) k ≡ join (on a k) (on b k)
  on_op a b zero =
      let s = parity a in
      let t = parity b in
      rw (step a b, on-digit (op (a / 2) (b / 2)) (digit (a % 2) (b % 2)) (small (a % 2) (b % 2) s t), on-parity a, on-parity b) (table (a % 2) (b % 2) s t)
  on_op a b (suc k) =
      rw (step a b, on-rest (op (a / 2) (b / 2)) (digit (a % 2) (b % 2)) k (small (a % 2) (b % 2) (parity a) (parity b)), on-half a k, on-half b k)
      (on_op (a / 2) (b / 2) k)

-- what holds of two digits
digits-two : (P : ℕ → ℕ → Type 0) → P 0 0 → P 0 1 → P 1 0 → P 1 1 → (x y : ℕ) → x < 2 → y < 2 → P x y
digits-two P a b c d zero zero h k = a
digits-two P a b c d zero (suc zero) h k = b
digits-two P a b c d zero (suc (suc y)) h k = absurd (omega arith)
digits-two P a b c d (suc zero) zero h k = c
digits-two P a b c d (suc zero) (suc zero) h k = d
digits-two P a b c d (suc zero) (suc (suc y)) h k = absurd (omega arith)
digits-two P a b c d (suc (suc x)) y h k = absurd (omega arith)

pub on_and : (a b k : ℕ) → on (bit_and a b) k ≡ on a k && on b k
on_and =
    on_op bit_and min ◌&&◌ and_step
    (digits-two (λ x y. min x y < 2) (omega arith) (omega arith) (omega arith) (omega arith))
    (digits-two (λ x y. eqb (min x y) 1 ≡ eqb x 1 && eqb y 1) refl refl refl refl)

pub on_or : (a b k : ℕ) → on (bit_or a b) k ≡ on a k || on b k
on_or =
    on_op bit_or max ◌||◌ or_step
    (digits-two (λ x y. max x y < 2) (omega arith) (omega arith) (omega arith) (omega arith))
    (digits-two (λ x y. eqb (max x y) 1 ≡ eqb x 1 || eqb y 1) refl refl refl refl)

-- one of two, and not both
abbrev pub unlike : Bool → Bool → Bool
unlike x y = cond x (not y) y

pub on_xor : (a b k : ℕ) → on (bit_xor a b) k ≡ unlike (on a k) (on b k)
on_xor =
    on_op bit_xor differ unlike xor_step
    (digits-two (λ x y. differ x y < 2) (omega arith) (omega arith) (omega arith) (omega arith))
    (digits-two (λ x y. eqb (differ x y) 1 ≡ unlike (eqb x 1) (eqb y 1)) refl refl refl refl)

-- a word cut off at n bits
pub on-mod : (x n k : ℕ) → on (x % 2 ^ n) k ≡ ltb k n && on x k
on-mod x zero k = rw (lt-one (mod-lt x (pow_pos 0)), le-ltb k 0 (omega arith)) (on-zero k)
on-mod x (suc n) zero =
    rw (sym (add-one n), mod-pow-add x n 1, lt-ltb 0 (n + 1) (omega arith)) (on-digit (x / 2 % 2 ^ n) (x % 2) (parity x) ∙ sym (on-parity x))
on-mod x (suc n) (suc k) =
    ap (λ m. on (x % 2 ^ m) (suc k)) (sym (add-one n)) ∙ ap (λ m. on m (suc k)) (mod-pow-add x n 1) ∙ on-rest (x / 2 % 2 ^ n) (x % 2) k (parity x) ∙ on-mod (x / 2) n k
    ∙ ap₂ ◌&&◌ (sym (leb-suc-suc (suc k) n)) (sym (on-half x k))

pub half-below : (n w : ℕ) → w < 2 ^ suc n → w / 2 < 2 ^ n
half-below n w h = omega (arith, pow-suc 2 n)

complement : (n w : ℕ) → w < 2 ^ suc n → 2 ^ suc n - 1 - w ≡ (2 ^ n - 1 - w / 2) * 2 + (1 - w % 2)
complement n w h = omega (arith, pow-suc 2 n)

-- every bit of n turned over
pub on-not : (n w k : ℕ) → w < 2 ^ n → on (2 ^ n - 1 - w) k ≡ ltb k n && not (on w k)
on-not zero w k h = let e : 2 ^ 0 - 1 - w ≡ 0 = omega arith in rw (e, le-ltb k 0 (omega arith)) (on-zero k)
on-not (suc n) w zero h = rw (complement n w h, lt-ltb 0 (suc n) (omega arith)) (on-digit _ _ (omega arith) ∙ turned (w % 2) (parity w) ∙ ap not (sym (on-parity w)))
  where
    turned : (c : ℕ) → c < 2 → eqb (1 - c) 1 ≡ not (eqb c 1)
    turned zero u = refl
    turned (suc zero) u = refl
    turned (suc (suc c)) u = absurd (omega arith)
on-not (suc n) w (suc k) h =
    rw (complement n w h)
    (on-rest (2 ^ n - 1 - w / 2) (1 - w % 2) k (omega arith) ∙ on-not n (w / 2) k (half-below n w h) ∙ ap₂ (λ b c. b && not c) (sym (leb-suc-suc (suc k) n)) (sym (on-half w k)))

-- shifted down
pub on_shr : (x s k : ℕ) → on (x / 2 ^ s) k ≡ on x (s + k)
unfolding on
on_shr x s k = ap (λ n. eqb (n % 2) 1) (shr-shr x s k)

twice : {w : ℕ} (h : ℕ) → w ≡ h * 2 → w ≡ h * 2 + 0
twice h e = omega arith

-- the one bit of a power of two
pub on-pow : (s k : ℕ) → on (2 ^ s) k ≡ eqb k s
on-pow zero zero = on-parity 1
on-pow zero (suc k) = on-half 1 k ∙ on-zero k ∙ sym (ne_eqb (suc k) 0 (λ e. omega arith))
on-pow (suc s) zero = rw (twice (2 ^ s) (pow-suc 2 s)) (on-digit (2 ^ s) 0 (omega arith) ∙ sym (ne_eqb 0 (suc s) (λ e. omega arith)))
on-pow (suc s) (suc k) = rw (twice (2 ^ s) (pow-suc 2 s)) (on-rest (2 ^ s) 0 k (omega arith) ∙ on-pow s k ∙ sym (eqb-suc-suc k s))
