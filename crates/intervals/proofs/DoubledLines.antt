-- The lines at which two intervals end: as words, row by row, and why no dependent bracket ends at another line.
-- Its last column is held by two intervals inside it, and these end where it does. `doubled` and the engine go by it.
use mathlib.Core.Path.{◌≡◌, refl, sym, ap, ◌∙◌}
use mathlib.Core.Bool.{Bool, true, false, ◌&&◌, ◌||◌}
use mathlib.Core.List.{List}
use mathlib.Core.Logic.{by_cases}
use Prim.Native.Nat.{ℕ, zero, suc, ◌+◌, ◌-◌, ◌≤◌, ◌<◌}
use native.Mathlib.Omega.{arith}
use native.Mathlib.Numerals.{add-one}
use native.Mathlib.Decide.{dec_le}
use lib.Dec.{leb}
use lib.ListN.{get_or}
use borrow.Author.Tests.{le-leb}
use Rattle.lists.specs.Lists.{count, first, from, up_to}
use Rattle.lists.proofs.Truth.{never, ocase}
use Rattle.lists.proofs.Keep.{count_same}
use Rattle.lists.proofs.Ranges.{from_in, from-append, first-from}
use Rattle.lists.proofs.Counting.{count-append}
use Rattle.lists.proofs.Searches.{first-within, first-missed}
use Rattle.method.specs.Intervals.{Interval as Span, span, member}
use Rattle.method.specs.Dependent.{dependent}
use Rattle.method.specs.Runs.{Listed}
use Rattle.method.proofs.Sets.{has, bit, K}
use Rattle.method.proofs.Boxes.{K-rows, K-no-rows, K-grows}
use Rattle.method.proofs.Counts.{covered-box}
use Rattle.method.proofs.Lines.{lines_hold}
use Rattle.method.proofs.Minimal.{dependent-proper, dependent-twice, dependent-within}
use Rattle.grid.specs.Code.{or_end}
use Rattle.grid.proofs.Next.{end-some}
use Rattle.words.specs.Words.{bits, on, Bits}
use Rattle.words.proofs.Words.{on-zero}
use Rattle.intervals.specs.Table.{set_of, Tabled, ended_twice}
use Rattle.intervals.specs.Search.{NoneBefore}
use Rattle.intervals.specs.Sweep.{EndsAmong}
use Rattle.intervals.proofs.TableLaws.{tabled-on}
use Rattle.intervals.proofs.TopLines.{one_place}

count_next : (p : ℕ → Bool) (l : ℕ) → count p (up_to (l + 1)) ≡ count p (up_to l) + bit (p l)
count_next p l =
    let e : 0 + l ≡ l = omega arith in
    omega (arith, ap (count p) (from-append 0 l 1), count-append p (up_to l) (from (0 + l) 1), ap (λ z. bit (p z)) e)

once_more : (c : ℕ) (b : Bool) → (leb 1 c || b) ≡ leb 1 (c + bit b)
once_more zero true = refl
once_more zero false = refl
once_more (suc c) b = rw (le-leb 1 (suc c) (omega arith)) (sym (le-leb 1 (suc c + bit b) (omega arith)))

twice-more : (c : ℕ) (b : Bool) → (leb 2 c || leb 1 c && b) ≡ leb 2 (c + bit b)
twice-more zero b = sym (few b)
  where
    few : (b : Bool) → leb 2 (0 + bit b) ≡ false
    few true = refl
    few false = refl
twice-more (suc zero) true = refl
twice-more (suc zero) false = refl
twice-more (suc (suc c)) b = rw (le-leb 2 (suc (suc c)) (omega arith)) (sym (le-leb 2 (suc (suc c) + bit b) (omega arith)))

-- how many of the first l words have bit k on
abbrev ended : List ℕ → ℕ → ℕ → ℕ
ended t l k = count (λ j. on (get_or t j 0) k) (up_to l)

-- the bits that one of the first l words has, and that two of them have
pub record Ends (t : List ℕ) (l once twice : ℕ) : Type 0 where
  pub one : Bits once (λ k. leb 1 (ended t l k))
  pub two : Bits twice (λ k. leb 2 (ended t l k))

module _ (t : List ℕ) where
  pub ends-start : Ends t 0 0 0
  ends-start = record { one = on-zero; two = on-zero }

  -- a word comes in
  pub ends_next : (l : ℕ) {once twice once' twice' : ℕ} → Ends t l once twice → (shared : ℕ) → Bits shared (λ k. on once k && on (get_or t l 0) k)
      → Bits twice' (λ k. on twice k || on shared k) → Bits once' (λ k. on once k || on (get_or t l 0) k) → Ends t (l + 1) once' twice'
  ends_next l E shared both more any =
      record {
        one = λ k.
            any k
            ∙ ap (λ b. b || on (get_or t l 0) k) (E.one k)
            ∙ once_more (ended t l k) (on (get_or t l 0) k)
            ∙ ap (leb 1) (sym (count_next (λ j. on (get_or t j 0) k) l));
        two = λ k.
            more k
            ∙ (λ i. E.two k i || (both k ∙ ap (λ b. b && on (get_or t l 0) k) (E.one k)) i)
            ∙ twice-more (ended t l k) (on (get_or t l 0) k)
            ∙ ap (leb 2) (sym (count_next (λ j. on (get_or t j 0) k) l));
      }

-- all words before line n are in
pub ends-done : {n : ℕ} {t : List ℕ} → Tabled n t → {once twice : ℕ} → Ends t n once twice → Bits twice (λ k. ended_twice n (set_of n t) (k + 1))
unfolding ended_twice
ends-done {n} {t} T E k =
    let fits = T.fits in
    E.two k
    ∙ ap (leb 2)
    (count_same (λ j. on (get_or t j 0) k) (λ j. member (span j (k + 1)) (set_of n t)) (up_to n)
    (λ j m. let r = from_in 0 n m in tabled-on T j k (omega arith)))

-- how many intervals end at a line is a box of one line
column-box : (s : List Span) (c n : ℕ) → count (λ l. member (span l (suc c)) s) (up_to n) ≡ K (has s) 0 n c (suc c)
column-box s c zero = sym (K-no-rows (has s) 0 0 c (suc c) (omega arith))
column-box s c (suc n) =
    omega (
      arith,
      ap (λ z. count (λ l. member (span l (suc c)) s) (up_to z)) (add-one n),
      count_next (λ l. member (span l (suc c)) s) n,
      column-box s c n,
      K-rows (has s) 0 n (suc n) c (suc c) (omega arith) (omega arith),
      one_place (has s) n c,
    )

module _ (n : ℕ) {s : List Span} (listed : Listed n s) where
  dependent-ends : (d : Span) → dependent s d ≡ true → ended_twice n s (d.right - 1 + 1) ≡ true
  unfolding ended_twice
  dependent-ends d t =
      let a = d.left in
      let b = d.right in
      let c = d.right - 1 in
      let p = dependent-proper s d t in
      let e : suc c ≡ b = omega arith in
      le-leb 2 (count (λ l. member (span l (c + 1)) s) (up_to n))
      (omega (
        arith,
        ap (λ z. count (λ l. member (span l z) s) (up_to n)) (add-one c),
        column-box s c n,
        ap (λ z. K (has s) a (suc c) c z) e,
        K-grows (has s) a (suc c) c (suc c) 0 n c (suc c) (omega (arith, dependent-within n s d listed t)),
        covered-box n s listed a b c,
        dependent-twice s d t c (lines_hold c d (omega arith) (omega arith)),
      ))

  -- no dependent bracket ends at another line
  pub doubled_ends : (w : ℕ) → Bits w (λ k. ended_twice n s (k + 1)) → EndsAmong w s
  doubled_ends w told d t = told (d.right - 1) ∙ dependent-ends d t

-- the search goes on to the next of the lines
module _ (w b k : ℕ) (found : k ≡ or_end bits (first (on w) (from b (bits - b)))) where
  off-between : (y : ℕ) → b ≤ y → y < k → on w y ≡ false
  off-between y low high =
      ocase (first (on w) (from b (bits - b)))
      (λ e. first-missed (on w) b (bits - b) e y low (omega (arith, ap (or_end bits) e)))
      (λ x e. first-from (on w) b (bits - b) e y low (omega (arith, ap (or_end bits) e)))

  pub next-beyond : k < bits → b ≤ k
  next-beyond h = (first-within (on w) b (bits - b) (end-some bits k (first (on w) (from b (bits - b))) found h)).0

  pub none_between : (s : List Span) → EndsAmong w s → NoneBefore s (b + 1) → NoneBefore s (k + 1)
  none_between s among before d t =
      by_cases (dec_le (k + 1) d.right) (λ h. h)
      (λ h. absurd (never (among d t) (off-between (d.right - 1) (omega (arith, before d t)) (omega (arith, before d t)))))
