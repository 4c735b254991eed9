-- Counts by line give each column's count in one pass, line by line (method's OnePass, of set and bag). `held_once` and the marks' turns use it.
use mathlib.Core.Path.{◌≡◌, refl, ap, ◌∙◌}
use mathlib.Core.Bool.{Bool, false}
use mathlib.Core.List.{List}
use Prim.Native.Nat.{ℕ, zero, suc, ◌+◌, ◌-◌, ◌^◌, ◌≤◌, ◌<◌}
use native.Mathlib.Omega.{arith}
use native.Mathlib.Numerals.{add-one}
use lib.Dec.{eqb}
use lib.ListN.{length, get_or}
use borrow.Author.Tests.{ne_eqb}
use Rattle.lists.specs.Lists.{count, first, from, up_to}
use Rattle.lists.proofs.Members.{In, none_any, first-append-none}
use Rattle.lists.proofs.Ranges.{from-append}
use Rattle.lists.proofs.Searches.{first-nowhere}
use Rattle.lists.proofs.Passes.{up_from}
use Rattle.lists.proofs.Keep.{count-zero, count-at-most}
use Rattle.method.specs.Intervals.{Interval as Span, holds}
use Rattle.method.proofs.OnePass.{held_first, held_next}
use Rattle.counts.specs.Tally.{beginning, ending, Lined, held_to, is_held_in, Steps}

pub held_none : (rises falls : List ℕ) → 0 ≡ held_to rises falls 0
unfolding held_to
held_none rises falls = refl

pub up-from : (p : ℕ → Bool) (n a : ℕ) → first p (from a (n - a)) ≡ up_from p n a
unfolding up_from
up-from p n a = refl

-- one more line of the pass
pub line-next : (rises falls : List ℕ) (x : ℕ) → held_to rises falls (x + 1) ≡ held_to rises falls x + get_or rises x 0 - get_or falls x 0
unfolding held_to
line-next rises falls x = rw (add-one x) refl

pub held_in : (rises falls : List ℕ) (x : ℕ) → is_held_in rises falls x ≡ held_to rises falls (x + 1)
held_in rises falls x = rw (add-one x) refl

-- one line back
module _ {n : ℕ} {rises falls : List ℕ} (S : Steps n rises falls) where
  pub held_back : (x : ℕ) → 0 < x → x ≤ n
      → (held_to rises falls x + get_or falls (x - 1) 0 ≡ held_to rises falls (x - 1) + get_or rises (x - 1) 0) × (held_to rises falls x + get_or falls (x - 1) 0 < 2 ^ 16)
  held_back x h u =
      let e : (x - 1) + 1 ≡ x = omega arith in
      let q = S.fits (x - 1) (omega arith) in
      let r = line-next rises falls (x - 1) in
      let p = ap (held_to rises falls) e in
      (omega arith, omega arith)

  pub steps_fewer : (m : ℕ) → m ≤ n → Steps m rises falls
  steps_fewer m h = record { rise-wide = omega (arith, S.rise-wide); fall-wide = omega (arith, S.fall-wide); fits = λ x u. S.fits x (omega arith) }

-- counts that are the same before a line give the same before it
pub held_same : (rises falls rises' falls' : List ℕ) (x : ℕ) → ((y : ℕ) → y < x → (get_or rises' y 0 ≡ get_or rises y 0) × (get_or falls' y 0 ≡ get_or falls y 0))
    → held_to rises' falls' x ≡ held_to rises falls x
unfolding held_to
held_same rises falls rises' falls' zero h = refl
held_same rises falls rises' falls' (suc x) h =
    let q = h x (omega arith) in
    omega (arith, held_same rises falls rises' falls' x (λ y u. h y (omega arith)))

-- a search that skips what does not pass
pub skip_none : (p : ℕ → Bool) (n a : ℕ) → a ≤ n → ((x : ℕ) → x < a → p x ≡ false) → first p (up_to n) ≡ first p (from a (n - a))
skip_none p n a h f =
    let e : n ≡ a + (n - a) = omega arith in
    let z : 0 + a ≡ a = omega arith in
    ap (first p) (ap (from 0) e ∙ from-append 0 a (n - a))
    ∙ first-append-none p (from 0 a) (from (0 + a) (n - a)) (first-nowhere p 0 a (λ x l u. f x (omega arith)))
    ∙ ap (λ k. first p (from k (n - a))) z

abbrev pub AllProper : List Span → Type 0
AllProper s = (i : Span) → In i s → i.left < i.right

-- no interval ends at the first line
none_first : (s : List Span) → AllProper s → ending s 0 ≡ 0
none_first s h = count-zero (λ i. eqb i.right 0) s (none_any (λ i. eqb i.right 0) s (λ i m. ne_eqb i.right 0 (λ e. omega (arith, h i m))))

-- a column's count is that in the set less that in the bag, f of it
module _ {s b : List Span} {rises falls : List ℕ} (L : Lined s b rises falls) (ps : AllProper s) (pb : AllProper b)
    (f : ℕ → ℕ) (less : (x : ℕ) → f x + count (holds x) b ≡ count (holds x) s) where
  pub held-is : (x : ℕ) → x < length rises → x < length falls → is_held_in rises falls x ≡ f x
  unfolding held_to
  held-is zero u v = omega (arith, L.up 0 u, L.down 0 v, held_first s ps, held_first b pb, none_first s ps, none_first b pb, less 0)
  held-is (suc x) u v =
      omega (arith, held-is x (omega arith) (omega arith), L.up (suc x) u, L.down (suc x) v, held_next s ps x, held_next b pb x, less x, less (suc x))

  module _ (n : ℕ) (wide : (n ≤ length rises) × (n ≤ length falls)) (few : (length s < 2 ^ 14) × (length b < 2 ^ 14)) where
    small : (x : ℕ) → beginning s x + ending b x < 2 ^ 15
    small x = omega (arith, count-at-most (λ i. eqb i.left x) s, count-at-most (λ i. eqb i.right x) b)

    fits-at : (x : ℕ) → x < n → (get_or falls x 0 ≤ held_to rises falls x + get_or rises x 0) × (held_to rises falls x + get_or rises x 0 < 2 ^ 16)
    unfolding held_to
    fits-at zero h =
        let u = L.up 0 (omega arith) in
        let v = L.down 0 (omega arith) in
        let m = small 0 in
        (omega (arith, held_first s ps, held_first b pb, none_first s ps, none_first b pb, less 0), omega arith)
    fits-at (suc x) h =
        let u = L.up (suc x) (omega arith) in
        let v = L.down (suc x) (omega arith) in
        let m = small (suc x) in
        let e = held-is x (omega arith) (omega arith) in
        (omega (arith, held_next s ps x, held_next b pb x, less x, less (suc x)), omega (arith, less x, count-at-most (holds x) s))

    pub has-steps : Steps n rises falls
    has-steps = record { rise-wide = wide.0; fall-wide = wide.1; fits = fits-at }
