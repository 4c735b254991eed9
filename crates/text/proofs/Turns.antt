-- One turn of each leaf's loop: what was asked equals what is left to do, a byte further on.
-- Each opens the list at the spot, or the number at its last digit, once; the functions' proofs cite nothing else.
use Rattle.std.specs.Bool.{then_some}
use Rattle.std.proofs.Common.{Some, None, ◌^◌}
use Rattle.std.proofs.Math.Nat.{pow-succ'}
use Rattle.std.proofs.lemmas.List.{length-map}
use mathlib.Core.Path.{◌≡◌, refl, sym, ap, ◌∙◌}
use mathlib.Core.Bool.{Bool, true, false}
use mathlib.Core.Logic.{by_cases}
use mathlib.Core.List.{List, [], ◌∷◌, ◌++◌, map}
use Prim.Native.Nat.{ℕ, zero, suc, ◌+◌, ◌-◌, ◌*◌, ◌/◌, ◌%◌, ◌≤◌, ◌<◌}
use native.Mathlib.Decide.{dec_le}
use native.Mathlib.Omega.{arith}
use lib.Dec.{leb}
use lib.ListN.{length, take, drop, get_or, set, length-append, length-drop, length-take, drop_of_length-le}
use lib.Seq.{drop-drop, take_at}
use mir.Val.{bool_byte}
use borrow.Author.Tests.{le-leb, lt-leb}
use Rattle.lists.proofs.Truth.{bcase}
use Rattle.grid.specs.Rooms.{written}
use Rattle.text.specs.Decimal.{digit, is_digit_byte, decimal, run, value, plain, number, read_on, digits_at, number_at, last_digits}
use Rattle.grid.proofs.Writing.{drop-next, write_turn, write_done, written_none, written_last}
use Rattle.text.proofs.Inverse.{run-front, number_true}
use Rattle.text.proofs.Decimals.{decimal-small, decimal-more, by_tenths}

-- digits
value_grows : (v : ℕ) (ds : List ℕ) → v ≤ value v ds
unfolding value
value_grows v [] = omega arith
value_grows v (b ∷ ds) = omega (arith, value_grows (v * 10 + (b - digit 0)) ds)

on-stop : (t : List ℕ) (i v limit : ℕ) → run (drop i t) ≡ [] → v ≤ limit → read_on v t i limit ≡ Some (v, i)
unfolding read_on value
on-stop t i v limit e h = let z : leb v limit ≡ true = le-leb v limit h in let n : i + 0 ≡ i = omega arith in rw (e, z, n)

on-over : (t : List ℕ) (i v limit : ℕ) → limit < v → read_on v t i limit ≡ None
unfolding read_on
on-over t i v limit h = let z : leb (value v (run (drop i t))) limit ≡ false = lt-leb (value v (run (drop i t))) limit (omega (arith, value_grows v (run (drop i t)))) in rw z

-- s is the text from the spot i on; k of its bytes were read, which said v, and `at` is the spot that was reached
module _ (t : List ℕ) (i k at v limit : ℕ) {s : List ℕ} (d : s ≡ drop i t) (n : at ≡ i + k) where
  further : drop at t ≡ drop k s
  further = rw (d, n) (sym (drop-drop k i t))

  pub on-ended : length s ≤ k → v ≤ limit → read_on v t at limit ≡ Some (v, at)
  unfolding run
  on-ended h l = on-stop t at v limit (ap run (further ∙ drop_of_length-le s h)) l

  module _ (h : k < length s) where
    here : drop at t ≡ get_or s k 0 ∷ drop (at + 1) t
    here = let e : at + 1 ≡ i + (k + 1) = omega arith in further ∙ drop-next s k h ∙ ap (get_or s k 0 ∷◌) (rw (d, e) (drop-drop (k + 1) i t))

    pub on-other : is_digit_byte (get_or s k 0) ≡ false → v ≤ limit → read_on v t at limit ≡ Some (v, at)
    unfolding run
    on-other f l = on-stop t at v limit (ap run here ∙ rw f) l

    pub on-digit : is_digit_byte (get_or s k 0) ≡ true → read_on v t at limit ≡ read_on (v * 10 + (get_or s k 0 - digit 0)) t (at + 1) limit
    unfolding read_on value run
    on-digit f =
        let m : at + suc (length (run (drop (at + 1) t))) ≡ at + 1 + length (run (drop (at + 1) t)) = omega arith in
        rw (here, f, m)

    pub digit-over : is_digit_byte (get_or s k 0) ≡ true → limit < v * 10 + (get_or s k 0 - digit 0) → read_on v t at limit ≡ None
    digit-over f l = on-digit f ∙ on-over t (at + 1) (v * 10 + (get_or s k 0 - digit 0)) limit l

-- the number of digits
pub count_small : (n : ℕ) → n < 10 → length (decimal n) ≡ 1
count_small n h = ap length (decimal-small n h)

pub count-more : (n : ℕ) → 10 ≤ n → length (decimal n) ≡ length (decimal (n / 10)) + 1
count-more n h = ap length (decimal-more n h) ∙ length-append (decimal (n / 10)) (digit (n % 10) ∷ [])

pub count-tens : (k n : ℕ) → 10 ^ k ≤ n → n < 10 * 10 ^ k → length (decimal n) ≡ k + 1
count-tens zero n l h = count_small n h
count-tens (suc k) n l h =
    let p : 10 ^ suc k ≡ 10 * 10 ^ k = pow-succ' 10 k in
    let r = count-tens k (n / 10) (omega arith) (omega arith) in
    omega (arith, count-more n (omega arith))

-- below 100 it is one, and one more from 10 on
pub count-two : (n : ℕ) {r : ℕ} → n < 100 → r ≡ bool_byte (leb 10 n) → 1 + r ≡ length (decimal n)
count-two n h e =
    by_cases (dec_le 10 n)
    (λ y. let b : bool_byte (leb 10 n) ≡ 1 = ap bool_byte (le-leb 10 n y) in omega (arith, e, b, count-tens 1 n (omega arith) (omega arith)))
    (λ y. let l : n < 10 = omega arith in let b : bool_byte (leb 10 n) ≡ 0 = ap bool_byte (lt-leb 10 n l) in omega (arith, e, b, count_small n l))

-- the same with every byte changed by f
module _ (f : ℕ → ℕ) (room xs : List ℕ) (spot k : ℕ) where
  pub map-turn : k < length xs → spot + length xs ≤ length room
      → written room (spot + k) (map f (drop k xs)) ≡ written (set room (spot + k) (f (get_or xs k 0))) (spot + (k + 1)) (map f (drop (k + 1) xs))
  map-turn h fits =
      write_turn room spot k (f (get_or xs k 0)) (map f (drop k xs)) (map f (drop (k + 1) xs)) (ap (map f) (drop-next xs k h))
      (omega (arith, length-map (drop k xs) f, length-drop k xs))

  pub map-done : length xs ≤ k → written room (spot + k) (map f (drop k xs)) ≡ room
  map-done h = write_done room spot k (map f (drop k xs)) (ap (map f) (drop_of_length-le xs h))

-- the last digits of a number, from the last to the first
pub length_last : (k n : ℕ) → length (last_digits k n) ≡ k
unfolding last_digits
length_last zero n = refl
length_last (suc k) n = length-append (last_digits k (n / 10)) (digit (n % 10) ∷ []) ∙ omega (arith, length_last k (n / 10))

last_one : (n : ℕ) → n < 10 → decimal n ≡ last_digits (length (decimal n)) n
unfolding last_digits
last_one n h = let e : n % 10 ≡ n = omega arith in rw (decimal-small n h, e)

last_more : (n : ℕ) → 10 ≤ n → decimal (n / 10) ≡ last_digits (length (decimal (n / 10))) (n / 10) → decimal n ≡ last_digits (length (decimal n)) n
unfolding last_digits
last_more n h r =
    let e : length (decimal n) ≡ suc (length (decimal (n / 10))) = omega (arith, count-more n h) in
    decimal-more n h ∙ ap (λ (l : List ℕ). l ++ (digit (n % 10) ∷ [])) r ∙ ap (λ (k : ℕ). last_digits k n) (sym e)

pub all-last-digits : (n : ℕ) → decimal n ≡ last_digits (length (decimal n)) n
all-last-digits = by_tenths (λ n. decimal n ≡ last_digits (length (decimal n)) n) last_one last_more

module _ (room : List ℕ) (spot n : ℕ) where
  pub print_turn : (k : ℕ) → spot + k < length room → written room spot (last_digits (suc k) n) ≡ written (set room (spot + k) (digit (n % 10))) spot (last_digits k (n / 10))
  unfolding last_digits
  print_turn k h =
      let l = length_last k (n / 10) in
      written_last room spot (digit (n % 10)) (last_digits k (n / 10)) (omega arith)
      ∙ ap (λ (x : ℕ). written (set room (spot + x) (digit (n % 10))) spot (last_digits k (n / 10))) l

  pub print_done : written room spot (last_digits 0 n) ≡ room
  unfolding last_digits
  print_done = written_none room spot

-- a number: its digits, judged for a leading zero
module _ (t : List ℕ) (i limit : ℕ) where
  pub number-none : digits_at t i limit ≡ None → number_at t i limit ≡ None
  unfolding number_at read_on
  number-none e = bcase (plain (run (drop i t))) (λ p. rw p e) (λ p. rw p)

  module _ (v next : ℕ) (read : digits_at t i limit ≡ Some (v, next)) where
    -- as many digits as lie between the spots
    pub count-read : i + length (run (drop i t)) ≡ next
    unfolding read_on
    count-read = (number_true (leb (value 0 (run (drop i t))) limit) (value 0 (run (drop i t))) (i + length (run (drop i t))) v next read).2

    module _ {s : List ℕ} (d : s ≡ drop i t) where
      pub digits-read : take (next - i) s ≡ run (drop i t)
      digits-read =
          let n : length (run (drop i t)) ≡ next - i = omega (arith, count-read) in
          ap (take (next - i)) (d ∙ run-front (drop i t)) ∙ take_at (run (drop i t)) (drop (length (run (drop i t))) (drop i t)) (next - i) n

      pub digits-fit : next - i ≤ length s
      digits-fit = omega (arith, count-read, ap length digits-read, length-take (next - i) s)

      pub number-judged : {r : Bool} → r ≡ plain (take (next - i) s) → number_at t i limit ≡ number r v next
      unfolding number_at read_on
      number-judged {r} e =
          let p : plain (run (drop i t)) ≡ r = sym (e ∙ ap plain digits-read) in
          bcase r (λ q. rw (p, q) read) (λ q. rw (p, q))

-- `then_some`, of a number and the spot past it
pub some-number : (r : Bool) (v next : ℕ) → then_some r (v, next) ≡ number r v next
some-number true v next = refl
some-number false v next = refl
