-- Printing and reading a number are inverse: what is printed, with no digit behind it, is read as that number, and what is read is what printing gives.
-- The digits at a spot are as many as there are; with no leading zero they are the digits of what they say.
-- Every reader of a number and the round trips of jobs use the two theorems.
use Rattle.std.proofs.Common.{Some}
use Rattle.std.proofs.lemmas.Option.{none-some, some_pair_parts}
use mathlib.Core.Path.{◌≡◌, refl, sym, ap, ◌∙◌}
use mathlib.Core.Bool.{Bool, true, false, ◌&&◌}
use mathlib.Core.List.{List, [], ◌∷◌, ◌++◌}
use Prim.Native.Nat.{ℕ, ◌+◌, ◌-◌, ◌≤◌}
use native.Mathlib.Omega.{arith}
use lib.Dec.{leb}
use lib.ListN.{length, take, drop}
use lib.Seq.{drop-drop, take-append_seam}
use borrow.Author.Tests.{le-leb, leb-true}
use Rattle.lists.specs.Lists.{all}
use Rattle.lists.proofs.Truth.{bcase, and_left, and_right, and_both}
use Rattle.grid.specs.Rooms.{Written}
use Rattle.text.specs.Decimal.{is_digit_byte, decimal, run, value, plain, number, number_at}
use Rattle.grid.proofs.Writing.{from-written, after-written}
use Rattle.text.proofs.Decimals.{value-decimal, all-decimal, plain-decimal, decimal-plain}

-- the digits at the front are digits, and what follows them is none
pub all-run : (t : List ℕ) → all is_digit_byte (run t) ≡ true
unfolding run
all-run [] = refl
all-run (b ∷ t) = bcase (is_digit_byte b) (λ u. rw u (and_both (is_digit_byte b) (all is_digit_byte (run t)) u (all-run t))) (λ u. rw u)

pub run-front : (t : List ℕ) → t ≡ run t ++ drop (length (run t)) t
unfolding run
run-front [] = refl
run-front (b ∷ t) = bcase (is_digit_byte b) (λ u. rw u (ap (b ∷◌) (run-front t))) (λ u. rw u)

pub run_ends : (t : List ℕ) → run (drop (length (run t)) t) ≡ []
unfolding run
run_ends [] = refl
run_ends (b ∷ t) = bcase (is_digit_byte b) (λ u. rw u (run_ends t)) (λ u. rw u (rw u))

pub run-digits : (ds q : List ℕ) → all is_digit_byte ds ≡ true → run q ≡ [] → run (ds ++ q) ≡ ds
unfolding run
run-digits [] q a e = e
run-digits (b ∷ ds) q a e =
    rw (and_left (is_digit_byte b) (all is_digit_byte ds) a) (ap (b ∷◌) (run-digits ds q (and_right (is_digit_byte b) (all is_digit_byte ds) a) e))

-- the number n, at most the limit, is what stands in the text from spot to next, and no digit follows
pub record Stated (text : List ℕ) (spot limit n next : ℕ) : Type 0 where
  pub small : n ≤ limit
  pub past : next ≡ spot + length (decimal n)
  pub there : drop spot text ≡ decimal n ++ drop next text
  pub ends : run (drop next text) ≡ []

pub number_true : (b : Bool) (v next n next' : ℕ) → number b v next ≡ Some (n, next') → (b ≡ true) × (v ≡ n) × (next ≡ next')
number_true true v next n next' e = let p = some_pair_parts v n next next' e in (refl, p.0, p.1)
number_true false v next n next' e = absurd (none-some (n, next') e)

-- what is read was printed
pub read_stated : (text : List ℕ) (spot limit n next : ℕ) → number_at text spot limit ≡ Some (n, next) → Stated text spot limit n next
unfolding number_at
read_stated text spot limit n next e =
    let ds : List ℕ = run (drop spot text) in
    let r = number_true (plain ds && leb (value 0 ds) limit) (value 0 ds) (spot + length ds) n next e in
    let p : plain ds ≡ true = and_left (plain ds) (leb (value 0 ds) limit) r.0 in
    let l : value 0 ds ≤ limit = leb-true (value 0 ds) limit (and_right (plain ds) (leb (value 0 ds) limit) r.0) in
    let d : decimal n ≡ ds = ap decimal (sym r.1) ∙ decimal-plain ds (all-run (drop spot text)) p in
    let here : drop (length ds) (drop spot text) ≡ drop next text = drop-drop (length ds) spot text ∙ ap (λ (k : ℕ). drop k text) r.2 in
    record {
      small = omega arith;
      past = omega (arith, ap length d);
      there = run-front (drop spot text) ∙ ap (ds ++◌) here ∙ ap (λ (l : List ℕ). l ++ drop next text) (sym d);
      ends = ap run (sym here) ∙ run_ends (drop spot text);
    }

-- what is printed is read
pub stated_read : (text : List ℕ) (spot limit n next : ℕ) → Stated text spot limit n next → number_at text spot limit ≡ Some (n, next)
unfolding number_at
stated_read text spot limit n next s =
    let d : run (drop spot text) ≡ decimal n = ap run s.there ∙ run-digits (decimal n) (drop next text) (all-decimal n) s.ends in
    let v = value-decimal n in
    let b : (plain (decimal n) && leb (value 0 (decimal n)) limit) ≡ true =
    and_both (plain (decimal n)) (leb (value 0 (decimal n)) limit) (plain-decimal n) (le-leb (value 0 (decimal n)) limit (omega arith)) in
    rw (d, b, v, ← s.past)

-- The two theorems of printing: a number that was printed into a room is read there, unless a digit follows it,
pub printed-read : (room after : List ℕ) (spot n next limit : ℕ) → spot + length (decimal n) ≤ length room → Written room spot (decimal n) next after
    → n ≤ limit → run (drop next room) ≡ [] → number_at after spot limit ≡ Some (n, next)
printed-read room after spot n next limit fits w small ends =
    let past : spot + length (decimal n) ≡ next = sym w.past in
    let same : drop next after ≡ drop next room =
    ap (drop next) w.left ∙ rw past at (after-written room spot (decimal n) fits) in
    stated_read after spot limit n next
    record {
      small = small;
      past = w.past;
      there = ap (drop spot) w.left ∙ from-written room spot (decimal n) fits ∙ ap (λ (k : ℕ). decimal n ++ drop k room) past ∙ ap (decimal n ++◌) (sym same);
      ends = ap run same ∙ ends;
    }

-- and a number that was read, printed into a room, puts the same bytes there as stood in the text.
pub read-printed : (text room after : List ℕ) (spot limit n next from to : ℕ) → from + length (decimal n) ≤ length room → number_at text spot limit ≡ Some (n, next)
    → Written room from (decimal n) to after → take (to - from) (drop from after) ≡ take (next - spot) (drop spot text)
read-printed text room after spot limit n next from to fits e w =
    let s = read_stated text spot limit n next e in
    let k : to - from ≡ length (decimal n) = omega (arith, w.past) in
    let m : next - spot ≡ length (decimal n) = omega (arith, s.past) in
    ap (λ (x : ℕ). take x (drop from after)) k
    ∙ ap (take (length (decimal n))) (ap (drop from) w.left ∙ from-written room from (decimal n) fits)
    ∙ take-append_seam (decimal n) (drop (from + length (decimal n)) room)
    ∙ sym (ap (λ (x : ℕ). take x (drop spot text)) m ∙ ap (take (length (decimal n))) s.there ∙ take-append_seam (decimal n) (drop next text))
