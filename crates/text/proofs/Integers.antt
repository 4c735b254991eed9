-- Printing and reading a signed number are inverse, for every number of 64 bits with a sign.
-- The digits are those of the distance from 0, and a text that begins with a digit begins with no minus. Readers of signed numbers use the two theorems.
use Rattle.std.proofs.Common.{None, Option, Some}
use Rattle.std.proofs.lemmas.Option.{none-some, cond_some}
use mathlib.Core.Path.{◌≡◌, refl, sym, ap, ◌∙◌}
use mathlib.Core.Bool.{Bool, true, false, false≢true}
use mathlib.Core.List.{List, [], ◌∷◌, ◌++◌}
use Prim.Native.Nat.{ℕ, zero, suc, ◌+◌, ◌-◌, ◌≤◌, ◌^◌}
use native.Mathlib.Omega.{arith}
use lib.Dec.{eqb}
use lib.IntN.{ℤ, pos, negsuc, nat_abs}
use lib.ListN.{length, drop}
use lib.Seq.{drop-drop}
use mir.Syntax.{w64}
use mir.Val.{SFits}
use borrow.Author.Tests.{ne_eqb}
use Rattle.lists.specs.Lists.{all}
use Rattle.lists.proofs.Truth.{bcase, and_left}
use Rattle.text.specs.Words.{begins, stands, found, word_at}
use Rattle.grid.specs.Rooms.{Written}
use Rattle.text.specs.Decimal.{is_digit_byte, digits, decimal, run, value, plain, number_at}
use Rattle.text.specs.Signed.{minus, signed, in_range, upward, downward, signed_at}
use Rattle.text.proofs.Decimals.{digit_low, all-decimal, plain-decimal}
use Rattle.text.proofs.Inverse.{read_stated, stated_read}
use Rattle.grid.proofs.Writing.{from-written, after-written}
use Rattle.text.proofs.Stands.{stands_at, stands-front}
use Rattle.text.proofs.Passes.{found-spot}
use Rattle.text.proofs.Signs.{in_range_lem, range_fits}

-- by the reading of the minus
found_nothing : (b : Bool) (n : ℕ) → found b n ≡ None → b ≡ false
found_nothing true n e = absurd (none-some n (sym e))
found_nothing false n e = refl

module _ (t : List ℕ) (i limit : ℕ) where
  pub signed-minus : {at : ℕ} → word_at t i (minus ∷ []) ≡ Some at → signed_at t i limit ≡ downward (number_at t at limit)
  unfolding signed_at word_at
  signed-minus e = let f = found-spot (stands t i (minus ∷ [])) (i + 1) e in rw (f.0, f.1)

  pub signed-plain : word_at t i (minus ∷ []) ≡ None → signed_at t i limit ≡ upward (number_at t i limit)
  unfolding signed_at word_at
  signed-plain e = rw (found_nothing (stands t i (minus ∷ [])) (i + 1) e)

-- the number z, at most the limit away from 0, is what stands in the text from spot to next, and no digit follows
pub record Stands (t : List ℕ) (i limit : ℕ) (z : ℤ) (next : ℕ) : Type 0 where
  pub small : nat_abs z ≤ limit
  pub range : in_range z ≡ true
  pub past : next ≡ i + length (signed z)
  pub there : drop i t ≡ signed z ++ drop next t
  pub ends : run (drop next t) ≡ []

up-from : (x : Option (ℕ × ℕ)) {z : ℤ} {next : ℕ} → upward x ≡ Some (z, next) → (n : ℕ) × (x ≡ Some (n, next)) × (z ≡ pos n) × (in_range (pos n) ≡ true)
up-from (Some (n, at)) {z} {next} e =
    let c = cond_some (in_range (pos n)) (pos n, at) (z, next) e in
    (n, ap (λ (p : ℤ × ℕ). Some (n, p.1)) c.1, sym (ap (λ (p : ℤ × ℕ). p.0) c.1), c.0)
up-from None {z} {next} e = absurd (none-some (z, next) e)

down-from : (x : Option (ℕ × ℕ)) {z : ℤ} {next : ℕ} → downward x ≡ Some (z, next) → (n : ℕ) × (x ≡ Some (suc n, next)) × (z ≡ negsuc n) × (in_range (negsuc n) ≡ true)
down-from (Some (zero, at)) {z} {next} e = absurd (none-some (z, next) e)
down-from (Some (suc n, at)) {z} {next} e =
    let c = cond_some (in_range (negsuc n)) (negsuc n, at) (z, next) e in
    (n, ap (λ (p : ℤ × ℕ). Some (suc n, p.1)) c.1, sym (ap (λ (p : ℤ × ℕ). p.0) c.1), c.0)
down-from None {z} {next} e = absurd (none-some (z, next) e)

-- what is read stands there
pub read-stands : (t : List ℕ) (i limit : ℕ) {z : ℤ} {next : ℕ} → signed_at t i limit ≡ Some (z, next) → Stands t i limit z next
unfolding signed_at signed
read-stands t i limit {z} {next} e =
    bcase (stands t i (minus ∷ []))
    (λ u.
    let d = down-from (number_at t (i + 1) limit) (rw u at e) in
    let s = read_stated t (i + 1) limit (suc d.0) next d.1 in
    rw d.2
    record {
      small = s.small;
      range = d.3;
      past = omega (arith, s.past);
      there = stands-front t i (minus ∷ []) u ∙ ap (minus ∷◌) s.there;
      ends = s.ends;
    })
    (λ u.
    let d = up-from (number_at t i limit) (rw u at e) in
    let s = read_stated t i limit d.0 next d.1 in
    rw d.2 (record { small = s.small; range = d.3; past = s.past; there = s.there; ends = s.ends }))

-- what stands there is read: a digit is no minus
no_minus : (ds q : List ℕ) → all is_digit_byte ds ≡ true → plain ds ≡ true → begins (minus ∷ []) (ds ++ q) ≡ false
unfolding begins
no_minus [] q a p = absurd (false≢true p)
no_minus (b ∷ ds) q a p =
    let low = digit_low b (and_left (is_digit_byte b) (all is_digit_byte ds) a) in
    let z : eqb minus b ≡ false = ne_eqb minus b (λ e. omega arith) in
    rw z

pub stands_read : (t : List ℕ) (i limit : ℕ) (z : ℤ) {next : ℕ} → Stands t i limit z next → signed_at t i limit ≡ Some (z, next)
unfolding signed_at signed
stands_read t i limit (pos n) {next} s =
    let none : stands t i (minus ∷ []) ≡ false = ap (begins (minus ∷ [])) s.there ∙ no_minus (decimal n) (drop next t) (all-decimal n) (plain-decimal n) in
    rw (none, stated_read t i limit n next (record { small = s.small; past = s.past; there = s.there; ends = s.ends }), s.range)
stands_read t i limit (negsuc n) {next} s =
    let there : stands t i (minus ∷ []) ≡ true = stands_at t i (minus ∷ []) (decimal (suc n) ++ drop next t) s.there in
    let rest : drop (i + 1) t ≡ decimal (suc n) ++ drop next t = sym (drop-drop 1 i t) ∙ ap (drop 1) s.there in
    rw (there, stated_read t (i + 1) limit (suc n) next (record { small = s.small; past = omega (arith, s.past); there = rest; ends = s.ends }), s.range)

-- The two theorems. Every i64 that was printed into a room is read there, unless a digit follows it,
pub printed-read : (room after : List ℕ) (spot : ℕ) (z : ℤ) (next limit : ℕ) → SFits w64 z → spot + length (signed z) ≤ length room → Written room spot (signed z) next after
    → nat_abs z ≤ limit → run (drop next room) ≡ [] → signed_at after spot limit ≡ Some (z, next)
printed-read room after spot z next limit f fits w small ends =
    let past : spot + length (signed z) ≡ next = sym w.past in
    let same : drop next after ≡ drop next room = ap (drop next) w.left ∙ rw past at (after-written room spot (signed z) fits) in
    stands_read after spot limit z
    record {
      small = small;
      range = in_range_lem z f;
      past = w.past;
      there = ap (drop spot) w.left ∙ from-written room spot (signed z) fits ∙ ap (λ (k : ℕ). signed z ++ drop k room) past ∙ ap (signed z ++◌) (sym same);
      ends = ap run same ∙ ends;
    }

-- and a number that is read is an i64, and what stands in the text is what printing it gives.
pub read-printed : (text : List ℕ) (spot limit : ℕ) (z : ℤ) (next : ℕ) → signed_at text spot limit ≡ Some (z, next)
    → SFits w64 z × (next ≡ spot + length (signed z)) × (drop spot text ≡ signed z ++ drop next text)
read-printed text spot limit z next e = let s = read-stands text spot limit e in (range_fits z s.range, s.past, s.there)

-- Tried by evaluation: 0, the ends of i64, and `-0`.
pub at_zero : signed (pos 0) ≡ 48 ∷ []
unfolding signed decimal digits
at_zero = refl

pub at_least : signed (negsuc (2 ^ 63 - 1)) ≡ 45 ∷ 57 ∷ 50 ∷ 50 ∷ 51 ∷ 51 ∷ 55 ∷ 50 ∷ 48 ∷ 51 ∷ 54 ∷ 56 ∷ 53 ∷ 52 ∷ 55 ∷ 55 ∷ 53 ∷ 56 ∷ 48 ∷ 56 ∷ []
unfolding signed decimal digits
at_least = refl

pub at-greatest : signed (pos (2 ^ 63 - 1)) ≡ 57 ∷ 50 ∷ 50 ∷ 51 ∷ 51 ∷ 55 ∷ 50 ∷ 48 ∷ 51 ∷ 54 ∷ 56 ∷ 53 ∷ 52 ∷ 55 ∷ 55 ∷ 53 ∷ 56 ∷ 48 ∷ 55 ∷ []
unfolding signed decimal digits
at-greatest = refl

pub minus-zero : signed_at (45 ∷ 48 ∷ []) 0 9 ≡ None
unfolding signed_at number_at begins run value
minus-zero = refl
