-- Lent numbers filled one after the other: what is wanted is what the first k hold, and then what is still to come.
-- A number stored takes it off the front of what is to come. `read_fields` goes by this.
use Rattle.std.proofs.Common.{None, Option, Some}
use Rattle.std.specs.Option.{is_some}
use mathlib.Core.Bool.{true, false, false≢true}
use mathlib.Core.Path.{◌≡◌, sym, ap, subst, ◌∙◌}
use mathlib.Core.List.{List, [], ◌∷◌, ◌++◌, append_assoc, append-nil}
use Prim.Native.Nat.{ℕ, suc, ◌+◌, ◌-◌, ◌≤◌, ◌<◌}
use native.Mathlib.Omega.{arith}
use native.Mathlib.Numerals.{add-one}
use lib.ListN.{length, take, set, length-set}
use lib.Seq.{take-suc-set, take_all}
use Rattle.text.specs.Decimal.{field_at}
use Rattle.text.specs.Line.{numbers_from, line_numbers, zeros, numbers_left, ReadLine}
use Rattle.text.specs.Steps.{fields_at, Filled, LineTried}
use Rattle.text.proofs.Lines.{numbers-next, fields-next, fields-stop, fields-none, length-numbers}

pub record Filling (wanted numbers : List ℕ) (k : ℕ) (rest : List ℕ) : Type 0 where
  pub many : length numbers ≡ length wanted
  pub few : k ≤ length wanted
  pub same : wanted ≡ take k numbers ++ rest

module _ {wanted numbers : List ℕ} {k : ℕ} {rest : List ℕ} (f : Filling wanted numbers k rest) where
  pub fill_next : (v : ℕ) (more : List ℕ) → k < length wanted → rest ≡ v ∷ more → Filling wanted (set numbers k v) (k + 1) more
  fill_next v more h e =
      let inside : k < length numbers = omega (arith, f.many) in
      record {
        many = length-set numbers k v ∙ f.many;
        few = omega arith;
        same =
            f.same
            ∙ ap (take k numbers ++◌) e
            ∙ sym (append_assoc (take k numbers) (v ∷ []) more)
            ∙ ap (λ (l : List ℕ). l ++ more) (sym (take-suc-set numbers k v inside))
            ∙ ap (λ (n : ℕ). take n (set numbers k v) ++ more) (sym (add-one k));
      }

  pub filled : length wanted ≤ k → rest ≡ [] → numbers ≡ wanted
  filled h e =
      sym (f.same ∙ ap (take k numbers ++◌) e ∙ append-nil (take k numbers) ∙ take_all k numbers (omega (arith, f.many)))

-- fields from a spot on: k of n are read, and the others are to come
pub record Reading (t : List ℕ) (spot limit n : ℕ) (numbers : List ℕ) (at k : ℕ) : Type 0 where
  pub steps : fields_at t spot limit n ≡ fields_at t at limit (n - k)
  pub filling : Filling (numbers_from t spot n) numbers k (numbers_from t at (n - k))

pub reading : (t : List ℕ) (spot limit : ℕ) (numbers : List ℕ) → Reading t spot limit (length numbers) numbers spot 0
reading t spot limit numbers =
    let n = length numbers in
    let e : n - 0 ≡ n = omega arith in
    record {
      steps = rw e;
      filling = record { many = sym (length-numbers t spot n); few = omega arith; same = rw e };
    }

module _ {t : List ℕ} {spot limit n : ℕ} {numbers : List ℕ} {at k : ℕ} (r : Reading t spot limit n numbers at k) where
  module _ (h : k < n) where
    left : n - k ≡ suc (n - (k + 1))
    left = omega arith

    pub read_next : {v next : ℕ} → field_at t at limit ≡ Some (v, next) → Reading t spot limit n (set numbers k v) next (k + 1)
    read_next {v} {next} e =
        record {
          steps = r.steps ∙ ap (fields_at t at limit) left ∙ fields-next t at limit (n - (k + 1)) e;
          filling =
              fill_next r.filling v (numbers_from t next (n - (k + 1))) (omega (arith, length-numbers t spot n))
              (ap (numbers_from t at) left ∙ numbers-next t at limit (n - (k + 1)) e);
        }

    pub read-stop : field_at t at limit ≡ None → fields_at t spot limit n ≡ None
    read-stop e = r.steps ∙ ap (fields_at t at limit) left ∙ fields-stop t at limit (n - (k + 1)) e

  pub read_done : n ≤ k → (fields_at t spot limit n ≡ Some at) × (numbers ≡ numbers_from t spot n)
  unfolding numbers_from
  read_done h =
      let e : n - k ≡ 0 = omega arith in (
        r.steps ∙ ap (fields_at t at limit) e ∙ fields-none t at limit,
        filled r.filling (omega (arith, length-numbers t spot n)) (ap (numbers_from t at) e),
      )

-- the numbers after a success
pub on-spot : {x : Option ℕ} {after numbers : List ℕ} {j : ℕ} → x ≡ Some j → Filled x after numbers → after ≡ numbers
on-spot {after} {numbers} e f = subst (λ (x : Option ℕ). Filled x after numbers) e f

pub all-filled : (x : Option ℕ) {after numbers : List ℕ} → after ≡ numbers → Filled x after numbers
all-filled (Some j) e = e
all-filled None e = tt

pub none-filled : {x : Option ℕ} (after numbers : List ℕ) → x ≡ None → Filled x after numbers
none-filled after numbers e = subst (λ (x : Option ℕ). Filled x after numbers) (sym e) tt

-- a line that was tried, and what `read_line` makes of it
module _ (t : List ℕ) (s : ℕ) (word : List ℕ) (limit : ℕ) (numbers : List ℕ) where
  abbrev ns : List ℕ
  ns = line_numbers t s word (length numbers)

  pub line_read : (x : Option ℕ) {after : List ℕ} → LineTried t s word limit numbers x after → is_some x ≡ true → ReadLine t s word limit numbers x after
  line_read (Some j) l e = record { past = l.past; left = l.filled ∙ ap (λ (y : Option ℕ). numbers_left y ns) l.past }
  line_read None l e = absurd (false≢true e)

  pub line_refused : (x : Option ℕ) {after cleared : List ℕ} → LineTried t s word limit numbers x after → is_some x ≡ false → length after ≡ length numbers → cleared ≡ zeros (length after)
      → ReadLine t s word limit numbers x cleared
  line_refused (Some j) l e n z = absurd (false≢true (sym e))
  line_refused None l e n z =
      record { past = l.past; left = z ∙ ap zeros (n ∙ sym (length-numbers t (s + length word) (length numbers))) ∙ ap (λ (y : Option ℕ). numbers_left y ns) l.past }
