-- Printing and reading a line are inverse: a printed line is read as its numbers, and a line that is read is the printed line of its numbers.
-- By induction over the fields: a number's digits are fixed by the tab or line feed behind them. The definition, which judges the line as a whole,
-- and the reading step by step therefore give the same answer. The proofs of `read_line` and of every reader of such a line use this.
use Rattle.std.proofs.Common.{None, Option, Some}
use mathlib.Core.Path.{◌≡◌, refl, sym, ap, ◌∙◌}
use mathlib.Core.Bool.{true, ◌&&◌}
use mathlib.Core.List.{List, [], ◌∷◌, ◌++◌, append-nil}
use Prim.Native.Nat.{ℕ, zero, suc, ◌+◌, ◌≤◌}
use native.Mathlib.Omega.{arith}
use native.Mathlib.Nat.{zero-add, le_refl}
use lib.Dec.{leb}
use lib.ListN.{length, drop, drop_of_length-le}
use lib.Seq.{drop-append_seam}
use borrow.Author.Tests.{le-leb, leb-true}
use Rattle.lists.specs.Lists.{gather}
use Rattle.lists.proofs.Truth.{and_left, and_right, and_both}
use Rattle.text.specs.Words.{tab, feed, stands, word_at}
use Rattle.grid.specs.Rooms.{Written}
use Rattle.text.specs.Decimal.{decimal, run, value, plain, number_at, field, field_at}
use Rattle.text.specs.Line.{fields, line, numbers_from, within, line_numbers, line_at, numbers_left, ReadLine}
use Rattle.std.specs.Option.{option_and_then}
use Rattle.text.specs.Steps.{fields_at}
use Rattle.text.proofs.Decimals.{value-decimal, all-decimal}
use Rattle.text.proofs.Inverse.{number_true, run-digits}
use Rattle.grid.proofs.Writing.{from-written, after-written}
use Rattle.text.proofs.Passes.{Passes, passes-stands, stands-passes, passes-both, passes-first, passes-second, found-spot, word_passes, passes_word, ends, field-passes, passes-field}
use Rattle.text.proofs.Ahead.{fields-more, line-fields}
use Rattle.text.proofs.Steps.{went}

pub length-numbers : (t : List ℕ) (i n : ℕ) → length (numbers_from t i n) ≡ n
unfolding numbers_from
length-numbers t i zero = refl
length-numbers t i (suc n) = ap suc (length-numbers t (i + 1 + length (run (drop (i + 1) t))) n)

-- one field
module _ (t : List ℕ) (i limit : ℕ) where
  -- its number is what the digits behind the tab say
  number-value : {v j : ℕ} → number_at t i limit ≡ Some (v, j) → (value 0 (run (drop i t)) ≡ v) × (i + length (run (drop i t)) ≡ j)
  unfolding number_at
  number-value {v} {j} e =
      let ds : List ℕ = run (drop i t) in
      let r = number_true (plain ds && leb (value 0 ds) limit) (value 0 ds) (i + length ds) v j e in
      (r.1, r.2)

module _ (t : List ℕ) (i limit : ℕ) where
  field-value : {v j : ℕ} → field_at t i limit ≡ Some (v, j) → (value 0 (run (drop (i + 1) t)) ≡ v) × (i + 1 + length (run (drop (i + 1) t)) ≡ j)
  unfolding field_at
  field-value {v} {j} e =
      let f = went (λ at. number_at t at limit) (word_at t i (tab ∷ [])) e in
      let a : f.0 ≡ i + 1 = (word_passes t i (tab ∷ []) f.1).past in
      rw a at (number-value t f.0 limit f.2)

  module _ {v j : ℕ} (n : ℕ) (e : field_at t i limit ≡ Some (v, j)) where
    pub numbers-next : numbers_from t i (suc n) ≡ v ∷ numbers_from t j n
    unfolding numbers_from
    numbers-next = let f = field-value e in rw (f.0, f.1)

    pub fields-next : fields_at t i limit (suc n) ≡ fields_at t j limit n
    unfolding fields_at
    fields-next = rw e

  pub fields-stop : (n : ℕ) → field_at t i limit ≡ None → fields_at t i limit (suc n) ≡ None
  unfolding fields_at
  fields-stop n e = rw e

  pub fields-none : fields_at t i limit 0 ≡ Some i
  unfolding fields_at
  fields-none = refl

-- fields that were read step by step stand there
steps-fields : (t : List ℕ) (limit n i : ℕ) {j : ℕ} → fields_at t i limit n ≡ Some j
    → (within limit (numbers_from t i n) ≡ true) × Passes t i (gather field (numbers_from t i n)) j
unfolding fields_at
steps-fields t limit zero i {j} e = none (numbers_from t i zero) (length-numbers t i zero)
  where
    none : (ns : List ℕ) → length ns ≡ 0 → (within limit ns ≡ true) × Passes t i (gather field ns) j
    none [] z = let same : i ≡ j = cc in (refl, record { past = omega arith; there = ap (λ (k : ℕ). drop k t) same })
    none (m ∷ ms) z = absurd (omega arith)
steps-fields t limit (suc n) i {j} e =
    let c = went (λ (p : ℕ × ℕ). fields_at t p.1 limit n) (field_at t i limit) e in
    let v : ℕ = c.0.0 in
    let a : ℕ = c.0.1 in
    let f = field-passes t i limit v c.1 in
    let r = steps-fields t limit n a c.2 in
    rw (numbers-next t i limit n c.1) (
      and_both (leb v limit) (within limit (numbers_from t a n)) (le-leb v limit f.0) r.0,
      passes-both t i (field v) (gather field (numbers_from t a n)) f.1 r.1,
    )

-- fields that stand there, with the line feed behind them, are read step by step, and their numbers are those behind the tabs
fields-end : (t : List ℕ) (i : ℕ) (ns : List ℕ) {j : ℕ} → Passes t i (fields ns) j → run (drop i t) ≡ []
fields-end t i [] p = ends t i feed [] refl p
fields-end t i (n ∷ ns) p = ends t i tab (decimal n ++ gather field ns ++ (feed ∷ [])) refl p

record Found (t : List ℕ) (i limit : ℕ) (ns : List ℕ) (j : ℕ) : Type 0 where
  at : ℕ
  steps : fields_at t i limit (length ns) ≡ Some at
  end : Passes t at (feed ∷ []) j
  numbers : numbers_from t i (length ns) ≡ ns

fields-found : (t : List ℕ) (limit i : ℕ) (ns : List ℕ) {j : ℕ} → within limit ns ≡ true → Passes t i (fields ns) j → Found t i limit ns j
unfolding numbers_from
fields-found t limit i [] w p = record { at = i; steps = fields-none t i limit; end = p; numbers = refl }
fields-found t limit i (n ∷ ns) {j} w p =
    let q : Passes t i (field n ++ fields ns) j = rw (fields-more n ns) at p in
    let a : ℕ = i + length (field n) in
    let rest = passes-second t i (field n) (fields ns) q in
    let small : n ≤ limit = leb-true n limit (and_left (leb n limit) (within limit ns) w) in
    let e : field_at t i limit ≡ Some (n, a) = passes-field t i limit n small (passes-first t i (field n) (fields ns) q) (fields-end t a ns rest) in
    let r = fields-found t limit a ns (and_right (leb n limit) (within limit ns) w) rest in
    record {
      at = r.at;
      steps = fields-next t i limit (length ns) e ∙ r.steps;
      end = r.end;
      numbers = numbers-next t i limit (length ns) e ∙ ap (n ∷◌) r.numbers;
    }

-- the text goes on with the line of these numbers, each at most the limit
pub record Ruled (t : List ℕ) (s : ℕ) (word : List ℕ) (limit : ℕ) (ns : List ℕ) (j : ℕ) : Type 0 where
  pub small : within limit ns ≡ true
  pub there : Passes t s (line word ns) j

-- the line step by step
pub line_steps : List ℕ → ℕ → List ℕ → ℕ → ℕ → Option ℕ
line_steps t s word limit n = option_and_then (λ a. option_and_then (λ d. word_at t d (feed ∷ [])) (fields_at t a limit n)) (word_at t s word)

module _ (t : List ℕ) (s : ℕ) (word : List ℕ) (limit : ℕ) where
  -- as a whole
  pub whole-ruled : (n : ℕ) {j : ℕ} → line_at t s word limit n ≡ Some j → Ruled t s word limit (line_numbers t s word n) j
  unfolding line_at
  whole-ruled n {j} e =
      let ns : List ℕ = line_numbers t s word n in
      let f = found-spot (within limit ns && stands t s (line word ns)) (s + length (line word ns)) e in
      record {
        small = and_left (within limit ns) (stands t s (line word ns)) f.0;
        there = rw f.1 at (stands-passes t s (line word ns) (and_right (within limit ns) (stands t s (line word ns)) f.0));
      }

  module _ (ns : List ℕ) {j : ℕ} (r : Ruled t s word limit ns j) where
    split : Passes t s (word ++ fields ns) j
    split = rw (line-fields word ns) at r.there

    found : Found t (s + length word) limit ns j
    found = fields-found t limit (s + length word) ns r.small (passes-second t s word (fields ns) split)

    pub ruled-numbers : line_numbers t s word (length ns) ≡ ns
    ruled-numbers = found.numbers

    pub ruled-whole : line_at t s word limit (length ns) ≡ Some j
    unfolding line_at
    ruled-whole = rw (ruled-numbers, r.small, passes-stands t s (line word ns) r.there, ← r.there.past)

    ruled-steps : line_steps t s word limit (length ns) ≡ Some j
    unfolding line_steps
    ruled-steps =
        let f = found in
        rw (passes_word t s word (passes-first t s word (fields ns) split), f.steps, passes_word t f.at (feed ∷ []) f.end)

  steps-ruled : (n : ℕ) {j : ℕ} → line_steps t s word limit n ≡ Some j → Ruled t s word limit (line_numbers t s word n) j
  unfolding line_steps
  steps-ruled n {j} e =
      let a = went (λ a. option_and_then (λ d. word_at t d (feed ∷ [])) (fields_at t a limit n)) (word_at t s word) e in
      let w = word_passes t s word a.1 in
      let d = went (λ d. word_at t d (feed ∷ [])) (fields_at t a.0 limit n) a.2 in
      let f = steps-fields t limit n a.0 d.1 in
      let ns : List ℕ = numbers_from t a.0 n in
      rw (← w.past) (record {
        small = f.0;
        there =
            rw (line-fields word ns)
            (passes-both t s word (fields ns) w (passes-both t a.0 (gather field ns) (feed ∷ []) f.1 (word_passes t d.0 (feed ∷ []) d.2)));
      })

  -- so both are the same
  pub line-steps : (n : ℕ) → line_at t s word limit n ≡ line_steps t s word limit n
  line-steps n = go (line_at t s word limit n) (line_steps t s word limit n) refl refl
    where
      go : (x y : Option ℕ) → line_at t s word limit n ≡ x → line_steps t s word limit n ≡ y → line_at t s word limit n ≡ line_steps t s word limit n
      go (Some j) y a b = a ∙ sym (rw (length-numbers t (s + length word) n) at (ruled-steps (line_numbers t s word n) (whole-ruled n a)))
      go None (Some j) a b = rw (length-numbers t (s + length word) n) at (ruled-whole (line_numbers t s word n) (steps-ruled n b)) ∙ sym b
      go None None a b = a ∙ sym b

  -- what each step says of the whole
  pub line_no_word : (n : ℕ) → word_at t s word ≡ None → line_at t s word limit n ≡ None
  unfolding line_steps
  line_no_word n e = line-steps n ∙ rw e

  pub line_no_fields : (n : ℕ) {a : ℕ} → word_at t s word ≡ Some a → fields_at t a limit n ≡ None → line_at t s word limit n ≡ None
  unfolding line_steps
  line_no_fields n e f = line-steps n ∙ rw (e, f)

  pub line-end : (n : ℕ) {a d : ℕ} → word_at t s word ≡ Some a → fields_at t a limit n ≡ Some d → line_at t s word limit n ≡ word_at t d (feed ∷ [])
  unfolding line_steps
  line-end n e f = line-steps n ∙ rw (e, f)

  pub numbers-past : (n : ℕ) {a : ℕ} → word_at t s word ≡ Some a → numbers_from t a n ≡ line_numbers t s word n
  numbers-past n e = ap (λ (k : ℕ). numbers_from t k n) (word_passes t s word e).past

-- the first field of a text that is the fields of a line, and the rest
split-field : (n : ℕ) (ns t : List ℕ) → t ≡ fields (n ∷ ns) → (n ≡ value 0 (run (drop 1 t))) × (fields ns ≡ drop (length (field n)) t)
split-field n ns t e =
    let f : t ≡ field n ++ fields ns = e ∙ fields-more n ns in
    let rest : drop (length (field n)) t ≡ fields ns = ap (drop (length (field n))) f ∙ drop-append_seam (field n) (fields ns) in
    let end : drop (length (fields ns)) (fields ns) ≡ [] = drop_of_length-le (fields ns) {i = length (fields ns)} (le_refl (length (fields ns))) in
    let none : run (fields ns) ≡ [] =
    fields-end (fields ns) 0 ns (record { past = sym (zero-add (length (fields ns))); there = sym (append-nil (fields ns)) ∙ ap (fields ns ++◌) (sym end) }) in
    let digits : run (drop 1 t) ≡ decimal n = ap (λ (l : List ℕ). run (drop 1 l)) f ∙ run-digits (decimal n) (fields ns) (all-decimal n) none in
    (sym (ap (value 0) digits ∙ value-decimal n), sym rest)

-- The theorems of lines. A line that was printed into a room is read there, as its numbers and to the spot past it;
pub printed-read : (room : List ℕ) (spot : ℕ) (word ns : List ℕ) (limit : ℕ) (numbers : List ℕ) {next : ℕ} {after left : List ℕ} {x : Option ℕ}
    → spot + length (line word ns) ≤ length room → Written room spot (line word ns) next after → within limit ns ≡ true → length numbers ≡ length ns
    → ReadLine after spot word limit numbers x left → (x ≡ Some next) × (left ≡ ns)
printed-read room spot word ns limit numbers {next} {after} {left} {x} fits w small many r =
    let there : Passes after spot (line word ns) next =
    record {
      past = w.past;
      there =
          ap (drop spot) w.left
          ∙ from-written room spot (line word ns) fits
          ∙ ap (line word ns ++◌) (sym (ap (drop next) w.left ∙ rw (← w.past) at (after-written room spot (line word ns) fits) ∙ ap (λ (k : ℕ). drop k room) w.past));
    } in
    let ruled : Ruled after spot word limit ns next = record { small = small; there = there } in
    let e : x ≡ Some next = r.past ∙ ap (line_at after spot word limit) many ∙ ruled-whole after spot word limit ns ruled in
    let lent : left ≡ line_numbers after spot word (length numbers) =
    r.left ∙ ap (λ (y : Option ℕ). numbers_left y (line_numbers after spot word (length numbers))) (sym r.past ∙ e) in
    (e, lent ∙ ap (line_numbers after spot word) many ∙ ruled-numbers after spot word limit ns ruled)

-- a line that is read is the printed line of the numbers that are left, each at most the limit;
pub read-printed : (text : List ℕ) (spot : ℕ) (word : List ℕ) (limit : ℕ) (numbers : List ℕ) {next : ℕ} {left : List ℕ}
    → ReadLine text spot word limit numbers (Some next) left
    → (length left ≡ length numbers) × (within limit left ≡ true) × (next ≡ spot + length (line word left)) × (drop spot text ≡ line word left ++ drop next text)
read-printed text spot word limit numbers {next} {left} r =
    let w = whole-ruled text spot word limit (length numbers) (sym r.past) in
    let e = r.left ∙ ap (λ (y : Option ℕ). numbers_left y (line_numbers text spot word (length numbers))) (sym r.past) in
    rw e (length-numbers text (spot + length word) (length numbers), w.small, w.there.past, w.there.there)

-- and each line has one list of numbers.
pub one_list : (word ns ms : List ℕ) → line word ns ≡ line word ms → ns ≡ ms
unfolding line
one_list [] ns ms e = same ns ms e
  where
    same : (ns ms : List ℕ) → fields ns ≡ fields ms → ns ≡ ms
    same [] [] e = refl
    same [] (m ∷ ms) e = let z : feed ≡ tab = cc in absurd (omega arith)
    same (n ∷ ns) [] e = let z : tab ≡ feed = cc in absurd (omega arith)
    same (n ∷ ns) (m ∷ ms) e =
        let p = split-field n ns (fields (n ∷ ns)) refl in
        let q = split-field m ms (fields (n ∷ ns)) e in
        let v : n ≡ m = p.0 ∙ sym q.0 in
        ap (◌∷ ns) v ∙ ap (m ∷◌) (same ns ms (p.1 ∙ ap (λ (k : ℕ). drop (length (field k)) (fields (n ∷ ns))) v ∙ sym q.1))
one_list (b ∷ word) ns ms e = one_list word ns ms (ap (drop 1) e)
