-- Printed numbers are apart: two that stand at one spot, with no digit behind them, are one number. The same of lengths, coordinates, and of the lines that hold them.
-- The digits at the front of a text are as many as there are, so they tell the number. What may stand at a spot is found once by this.
use mathlib.Core.Path.{◌≡◌, refl, sym, ap, ◌∙◌}
use mathlib.Core.Bool.{true, false≢true}
use mathlib.Core.List.{List, [], ◌∷◌, ◌++◌, append_assoc}
use Prim.Native.Nat.{ℕ, zero, suc, ◌+◌, ◌/◌, ◌%◌, ◌^◌}
use native.Mathlib.Omega.{arith}
use lib.IntN.{ℤ, pos, negsuc}
use lib.ListN.{length, take, drop}
use lib.Seq.{take-append_seam, drop-append_seam}
use Rattle.text.specs.Decimal.{digit, decimal, run, value, plain, last_digits}
use Rattle.text.specs.Signed.{minus, signed}
use Rattle.text.specs.Words.{stands}
use Rattle.text.proofs.Decimals.{value-decimal, all-decimal, plain-decimal}
use Rattle.text.proofs.Inverse.{run-digits}
use Rattle.text.proofs.Stands.{stands-front}
use Rattle.gerber.specs.File.{millimetres}
use Rattle.text.proofs.Turns.{length_last}

-- two texts that are equal, parted at the same place
pub parted : (a b p q : List ℕ) → length a ≡ length b → a ++ p ≡ b ++ q → (a ≡ b) × (p ≡ q)
parted a b p q n e = (
  sym (take-append_seam a p) ∙ ap (take (length a)) e ∙ ap (λ (k : ℕ). take k (b ++ q)) n ∙ take-append_seam b q,
  sym (drop-append_seam a p) ∙ ap (drop (length a)) e ∙ ap (λ (k : ℕ). drop k (b ++ q)) n ∙ drop-append_seam b q,
)

-- two words that stand at one spot are the fronts of one text
pub both_stand : (t : List ℕ) (i : ℕ) (v w : List ℕ) → stands t i v ≡ true → stands t i w ≡ true → v ++ drop (i + length v) t ≡ w ++ drop (i + length w) t
both_stand t i v w s r = sym (stands-front t i v s) ∙ stands-front t i w r

-- numbers
pub number-apart : (m n : ℕ) (p q : List ℕ) → run p ≡ [] → run q ≡ [] → decimal m ++ p ≡ decimal n ++ q → (m ≡ n) × (p ≡ q)
number-apart m n p q a b e =
    let d : decimal m ≡ decimal n = sym (run-digits (decimal m) p (all-decimal m) a) ∙ ap run e ∙ run-digits (decimal n) q (all-decimal n) b in
    (sym (value-decimal m) ∙ ap (value 0) d ∙ value-decimal n, (parted (decimal m) (decimal n) p q (ap length d) e).1)

-- the last digits, as many as k, and what stands before them
tenths : ℕ → ℕ → ℕ
tenths zero n = n
tenths (suc k) n = tenths k (n / 10)

last_apart : (k m n : ℕ) → last_digits k m ≡ last_digits k n → tenths k m ≡ tenths k n → m ≡ n
unfolding last_digits tenths
last_apart zero m n e h = h
last_apart (suc k) m n e h =
    let c = parted (last_digits k (m / 10)) (last_digits k (n / 10)) (digit (m % 10) ∷ []) (digit (n % 10) ∷ []) (length_last k (m / 10) ∙ sym (length_last k (n / 10))) e in
    let a : m / 10 ≡ n / 10 = last_apart k (m / 10) (n / 10) c.0 h in
    let d : digit (m % 10) ≡ digit (n % 10) = ap front c.1 in
    omega arith
  where
    front : List ℕ → ℕ
    front [] = 0
    front (b ∷ l) = b

six_tenths : (n : ℕ) → tenths 6 n ≡ n / 10 ^ 6
unfolding tenths
six_tenths n = omega arith

-- lengths
pub length-apart : (m n : ℕ) (p q : List ℕ) → millimetres m ++ p ≡ millimetres n ++ q → (m ≡ n) × (p ≡ q)
unfolding millimetres run
length-apart m n p q e =
    let c = number-apart (m / 10 ^ 6) (n / 10 ^ 6) (46 ∷ (last_digits 6 m ++ p)) (46 ∷ (last_digits 6 n ++ q)) refl refl
    (sym (append_assoc (decimal (m / 10 ^ 6)) (46 ∷ last_digits 6 m) p) ∙ e ∙ append_assoc (decimal (n / 10 ^ 6)) (46 ∷ last_digits 6 n) q) in
    let d = parted (last_digits 6 m) (last_digits 6 n) p q (length_last 6 m ∙ sym (length_last 6 n)) (ap (drop 1) c.1) in
    (last_apart 6 m n d.0 (six_tenths m ∙ c.0 ∙ sym (six_tenths n)), d.1)

-- coordinates: a digit is no minus
no_sign : (n : ℕ) (p q : List ℕ) → run p ≡ [] → decimal n ++ p ≡ minus ∷ q → ⊥
unfolding run
no_sign n p q a e =
    let d : decimal n ≡ [] = sym (run-digits (decimal n) p (all-decimal n) a) ∙ ap run e in
    false≢true (sym (ap plain d) ∙ plain-decimal n)

pub coordinate_apart : (y z : ℤ) (p q : List ℕ) → run p ≡ [] → run q ≡ [] → signed y ++ p ≡ signed z ++ q → (y ≡ z) × (p ≡ q)
unfolding signed
coordinate_apart (pos m) (pos n) p q a b e = let c = number-apart m n p q a b e in (ap pos c.0, c.1)
coordinate_apart (pos m) (negsuc n) p q a b e = absurd (no_sign m p (decimal (suc n) ++ q) a e)
coordinate_apart (negsuc m) (pos n) p q a b e = absurd (no_sign n q (decimal (suc m) ++ p) b (sym e))
coordinate_apart (negsuc m) (negsuc n) p q a b e =
    let c = number-apart (suc m) (suc n) p q a b (ap (drop 1) e) in
    let k : m ≡ n = omega (arith, c.0) in
    (ap negsuc k, c.1)
