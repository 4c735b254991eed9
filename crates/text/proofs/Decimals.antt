-- The digits of a number: one digit below 10, else the digits of a tenth and one more; and what the digits say is the number.
-- By strong induction on the number; the bound on how deep `digits` goes never shows.
-- The inverse of printing and reading stands on this.
use mathlib.Core.Path.{◌≡◌, refl, sym, ap, ◌∙◌}
use mathlib.Core.Bool.{Bool, true, not}
use mathlib.Core.List.{List, [], ◌∷◌, ◌++◌, append_assoc, append-nil}
use mathlib.Core.Logic.{by_cases, ◌≢◌}
use Prim.Native.Nat.{ℕ, zero, suc, ◌+◌, ◌-◌, ◌*◌, ◌/◌, ◌%◌, ◌≤◌, ◌<◌}
use native.Mathlib.Omega.{arith}
use native.Mathlib.Decide.{dec_lt}
use lib.Dec.{leb, eqb}
use borrow.Author.Tests.{lt-ltb, le-ltb, le-leb, ne_eqb, leb-true, eqb-false, not-true}
use Rattle.lists.specs.Lists.{all}
use Rattle.lists.proofs.Truth.{never, and_left, and_right, and_both}
use Rattle.text.specs.Decimal.{digit, is_digit_byte, digits, decimal, value, plain}

digits-small : (deep n : ℕ) → n < 10 → digits (suc deep) n ≡ digit n ∷ []
unfolding digits
digits-small deep n h = rw (lt-ltb n 10 h, digits)

digits_more : (deep n : ℕ) → 10 ≤ n → digits (suc deep) n ≡ digits deep (n / 10) ++ (digit (n % 10) ∷ [])
unfolding digits
digits_more deep n h = rw (le-ltb n 10 h, digits)

digits_deep : (f g n : ℕ) → n < f → n < g → digits f n ≡ digits g n
digits_deep zero g n a b = absurd (omega arith)
digits_deep (suc f) zero n a b = absurd (omega arith)
digits_deep (suc f) (suc g) n a b =
    by_cases (dec_lt n 10)
    (λ h. digits-small f n h ∙ sym (digits-small g n h))
    (λ h.
    digits_more f n (omega arith)
    ∙ ap (λ (l : List ℕ). l ++ (digit (n % 10) ∷ [])) (digits_deep f g (n / 10) (omega arith) (omega arith))
    ∙ sym (digits_more g n (omega arith)))

pub decimal-small : (n : ℕ) → n < 10 → decimal n ≡ digit n ∷ []
unfolding decimal
decimal-small n h = digits-small n n h

pub decimal-more : (n : ℕ) → 10 ≤ n → decimal n ≡ decimal (n / 10) ++ (digit (n % 10) ∷ [])
unfolding decimal
decimal-more n h =
    digits_more n n h
    ∙ ap (λ (l : List ℕ). l ++ (digit (n % 10) ∷ [])) (digits_deep n (suc (n / 10)) (n / 10) (omega arith) (omega arith))

-- a claim of every number, from one digit and from a tenth
by_tenths-below : (P : ℕ → Type 0) → ((n : ℕ) → n < 10 → P n) → ((n : ℕ) → 10 ≤ n → P (n / 10) → P n) → (m n : ℕ) → n < m → P n
by_tenths-below P one more zero n h = absurd (omega arith)
by_tenths-below P one more (suc m) n h =
    by_cases (dec_lt n 10) (one n) (λ k. more n (omega arith) (by_tenths-below P one more m (n / 10) (omega arith)))

pub by_tenths : (P : ℕ → Type 0) → ((n : ℕ) → n < 10 → P n) → ((n : ℕ) → 10 ≤ n → P (n / 10) → P n) → (n : ℕ) → P n
by_tenths P one more n = by_tenths-below P one more (suc n) n (omega arith)

pub value-append : (v : ℕ) (ds : List ℕ) (b : ℕ) → value v (ds ++ (b ∷ [])) ≡ value v ds * 10 + (b - digit 0)
unfolding value
value-append v [] b = refl
value-append v (d ∷ ds) b = value-append (v * 10 + (d - digit 0)) ds b

value-one : (n : ℕ) → value 0 (digit n ∷ []) ≡ n
unfolding value
value-one n = omega arith

-- the digits of a number say it
pub value-decimal : (n : ℕ) → value 0 (decimal n) ≡ n
value-decimal =
    by_tenths (λ n. value 0 (decimal n) ≡ n)
    (λ n h. ap (value 0) (decimal-small n h) ∙ value-one n)
    (λ n h r. ap (value 0) (decimal-more n h) ∙ value-append 0 (decimal (n / 10)) (digit (n % 10)) ∙ omega arith)

-- every byte of a number is a digit
is_digit : (d : ℕ) → d < 10 → is_digit_byte (digit d) ≡ true
is_digit d h = and_both (leb (digit 0) (digit d)) (leb (digit d) (digit 9)) (le-leb (digit 0) (digit d) (omega arith)) (le-leb (digit d) (digit 9) (omega arith))

pub digit_low : (b : ℕ) → is_digit_byte b ≡ true → digit 0 ≤ b
digit_low b t = leb-true (digit 0) b (and_left (leb (digit 0) b) (leb b (digit 9)) t)

pub digit-high : (b : ℕ) → is_digit_byte b ≡ true → b ≤ digit 9
digit-high b t = leb-true b (digit 9) (and_right (leb (digit 0) b) (leb b (digit 9)) t)

all-last : (p : ℕ → Bool) (xs : List ℕ) (b : ℕ) → all p xs ≡ true → p b ≡ true → all p (xs ++ (b ∷ [])) ≡ true
all-last p [] b h t = and_both (p b) true t refl
all-last p (x ∷ xs) b h t = and_both (p x) (all p (xs ++ (b ∷ []))) (and_left (p x) (all p xs) h) (all-last p xs b (and_right (p x) (all p xs) h) t)

pub all-decimal : (n : ℕ) → all is_digit_byte (decimal n) ≡ true
all-decimal =
    by_tenths (λ n. all is_digit_byte (decimal n) ≡ true)
    (λ n h. ap (all is_digit_byte) (decimal-small n h) ∙ and_both (is_digit_byte (digit n)) true (is_digit n h) refl)
    (λ n h r. ap (all is_digit_byte) (decimal-more n h) ∙ all-last is_digit_byte (decimal (n / 10)) (digit (n % 10)) r (is_digit (n % 10) (omega arith)))

-- the first digit of a number that is not 0 is not 0
pub Leads : List ℕ → Type 0
Leads ds = (b : ℕ) × (rest : List ℕ) × (ds ≡ b ∷ rest) × (b ≢ digit 0)

leads : (n : ℕ) → 1 ≤ n → Leads (decimal n)
unfolding Leads
leads =
    by_tenths (λ n. 1 ≤ n → Leads (decimal n))
    (λ n h k. (digit n, [], decimal-small n h, omega arith))
    (λ n h r k.
    let l = r (omega arith) in
    (l.0, l.1 ++ (digit (n % 10) ∷ []), decimal-more n h ∙ ap (λ (ds : List ℕ). ds ++ (digit (n % 10) ∷ [])) l.2, l.3))

leads-plain : (ds : List ℕ) → Leads ds → plain ds ≡ true
unfolding Leads
leads-plain ds l = ap plain l.2 ∙ two l.0 l.1 l.3
  where
    two : (b : ℕ) (rest : List ℕ) → b ≢ digit 0 → plain (b ∷ rest) ≡ true
    two b [] h = refl
    two b (c ∷ rest) h = ap not (ne_eqb b (digit 0) h)

pub plain-decimal : (n : ℕ) → plain (decimal n) ≡ true
plain-decimal zero = ap plain (decimal-small 0 (omega arith))
plain-decimal (suc n) = leads-plain (decimal (suc n)) (leads (suc n) (omega arith))

-- digits after a number that is not 0 are the digits of what they say
decimal_step : (v b : ℕ) → 1 ≤ v → is_digit_byte b ≡ true → decimal (v * 10 + (b - digit 0)) ≡ decimal v ++ (b ∷ [])
decimal_step v b h t =
    let low = digit_low b t in
    let high = digit-high b t in
    let n : ℕ = v * 10 + (b - digit 0) in
    let tenth : n / 10 ≡ v = omega arith in
    let last : digit (n % 10) ≡ b = omega arith in
    decimal-more n (omega arith) ∙ ap (λ (x : ℕ). decimal x ++ (digit (n % 10) ∷ [])) tenth ∙ ap (λ (x : ℕ). decimal v ++ (x ∷ [])) last

pub decimal-value : (v : ℕ) (ds : List ℕ) → 1 ≤ v → all is_digit_byte ds ≡ true → decimal (value v ds) ≡ decimal v ++ ds
unfolding value
decimal-value v [] h a = sym (append-nil (decimal v))
decimal-value v (b ∷ ds) h a =
    let t : is_digit_byte b ≡ true = and_left (is_digit_byte b) (all is_digit_byte ds) a in
    decimal-value (v * 10 + (b - digit 0)) ds (omega arith) (and_right (is_digit_byte b) (all is_digit_byte ds) a)
    ∙ ap (λ (l : List ℕ). l ++ ds) (decimal_step v b h t)
    ∙ append_assoc (decimal v) (b ∷ []) ds

-- digits with no leading zero are the digits of what they say
pub decimal-plain : (ds : List ℕ) → all is_digit_byte ds ≡ true → plain ds ≡ true → decimal (value 0 ds) ≡ ds
unfolding value
decimal-plain [] a p = absurd (never p refl)
decimal-plain (b ∷ []) a p =
    let t : is_digit_byte b ≡ true = and_left (is_digit_byte b) true a in
    let low = digit_low b t in
    let high = digit-high b t in
    let e : digit (0 * 10 + (b - digit 0)) ≡ b = omega arith in
    decimal-small (0 * 10 + (b - digit 0)) (omega arith) ∙ ap (λ (x : ℕ). x ∷ []) e
decimal-plain (b ∷ c ∷ ds) a p =
    let t : is_digit_byte b ≡ true = and_left (is_digit_byte b) (all is_digit_byte (c ∷ ds)) a in
    let low = digit_low b t in
    let high = digit-high b t in
    let first : b ≢ digit 0 = eqb-false b (digit 0) (not-true (eqb b (digit 0)) p) in
    let e : digit (0 * 10 + (b - digit 0)) ≡ b = omega arith in
    decimal-value (0 * 10 + (b - digit 0)) (c ∷ ds) (omega arith) (and_right (is_digit_byte b) (all is_digit_byte (c ∷ ds)) a)
    ∙ ap (λ (l : List ℕ). l ++ (c ∷ ds)) (decimal-small (0 * 10 + (b - digit 0)) (omega arith) ∙ ap (λ (x : ℕ). x ∷ []) e)
