-- Striking a column: the bag of the rest is the bag of the set without the brackets that hold the column; so the final set of the rest has fewer intervals by as many
-- as held it (000, theorem 4.6, for one). A minimal bracket that does not hold the column is reduced with and without it; if all hold it, so does every bracket of a run, and the rest has no dependence.
use mathlib.Core.Path.{◌≡◌, refl, sym, ap, fun_ext, ◌∙◌}
use mathlib.Core.Bool.{Bool, true, false, not, ◌&&◌, ◌||◌, false≢true, and-true, and-false}
use mathlib.Core.List.Memᴰ
use mathlib.Core.List.{List, [], ◌∷◌}
use Prim.Native.Nat.{ℕ, zero, suc, ◌+◌, ◌<◌}
use native.Mathlib.Omega.{arith}
use lib.ListN.{length}
use lib.Dec.{leb}
use borrow.Author.Tests.{not-true}
use mathlib.Core.Logic.{⊎_elim}
use Rattle.lists.specs.Lists.{keep, count, any, all}
use Rattle.lists.proofs.Truth.{agree, bcase, never, fails, and_left, and_right, and_both}
use Rattle.lists.proofs.Members.{In, any_found, any_none}
use Rattle.lists.proofs.Keep.{keep_same, keep-keep, kept, count-keep, count-rest}
use Rattle.method.specs.Intervals.{Interval, proper, holds, inside, same, meet, columns, every, select, member}
use Rattle.method.specs.Dependent.{covered_inside, dependent, minimal}
use Rattle.method.specs.Reduce.{outermost, meets, reduce}
use Rattle.method.specs.Final.{final, trace}
use Rattle.method.specs.Runs.{Listed, Reduces, over, next, SameBag, Ended}
use Rattle.method.specs.Strike.{strike}
use Rattle.method.proofs.Lines.{inside-lines, lines-inside, inside-holds}
use Rattle.method.proofs.Listed.{member_in, member-keep, lines-every, strike-listed}
use Rattle.method.proofs.Minimal.{dependent-proper, dependent-held, dependent-within, minimal-dependent, minimal_smallest, minimal_if, minimal-inside}
use Rattle.method.proofs.Sets.{bit}
use Rattle.method.proofs.Facts.{reduce-listed, reduce_size, reduce_no_new}
use Rattle.method.proofs.AnyOrder.{trace_reduces}
use Rattle.method.proofs.Trace.{ended-trace, trace-length, trace-count}
use Rattle.method.proofs.Bags.{bag_length, bag_reduce}

-- what lies inside a bracket that does not hold the column does not hold it
pub inside-bare : (x : ℕ) (d i : Interval) → holds x d ≡ false → inside d i ≡ true → holds x i ≡ false
inside-bare x d i h t = fails (holds x i) (λ u. never (inside-holds d i x t u) h)

-- brackets that do not hold the column see the same intervals
module _ (x : ℕ) (s : List Interval) where
  pub strike-inside : (d : Interval) → holds x d ≡ false → keep (inside d) (strike x s) ≡ keep (inside d) s
  unfolding strike
  strike-inside d h =
      keep-keep (λ i. not (holds x i)) (inside d) s
      ∙ keep_same (λ i. not (holds x i) && inside d i) (inside d) s
      (λ i m.
      agree (not (holds x i) && inside d i) (inside d i)
      (λ t. and_right (not (holds x i)) (inside d i) t)
      (λ t. and_both (not (holds x i)) (inside d i) (ap not (inside-bare x d i h t)) t))

  pub strike-covered : (d : Interval) → holds x d ≡ false → (c : ℕ) → covered_inside (strike x s) d c ≡ covered_inside s d c
  unfolding covered_inside
  strike-covered d h c =
      sym (count-keep (inside d) (holds c) (strike x s)) ∙ ap (count (holds c)) (strike-inside d h) ∙ count-keep (inside d) (holds c) s

  pub strike-dependent : (d : Interval) → holds x d ≡ false → dependent (strike x s) d ≡ dependent s d
  unfolding dependent
  strike-dependent d h = ap (λ (f : ℕ → ℕ). proper d && all (λ c. leb 2 (f c)) (columns d)) (fun_ext (strike-covered d h))

  pub strike-minimal : (d : Interval) → holds x d ≡ false → minimal s d ≡ true → minimal (strike x s) d ≡ true
  strike-minimal d h t =
      minimal_if (strike x s) d (strike-dependent d h ∙ minimal-dependent s d t)
      (λ e i u. minimal_smallest s d t e i (sym (strike-dependent e (inside-bare x d e h i)) ∙ u))

  -- no dependent bracket of the rest holds the column
  pub strike-bare : (d : Interval) → dependent (strike x s) d ≡ true → holds x d ≡ false
  unfolding strike
  strike-bare d t =
      fails (holds x d)
      (λ h.
      let r = dependent-held (strike x s) d t x h in
      never r.3 (not-true (holds x r.0) (kept (λ i. not (holds x i)) s (member_in r.0 (strike x s) r.1)).1))

-- the meets of intervals inside a bracket lie inside it
pub meets-inside : (d : Interval) (s : List Interval) → ((i : Interval) → In i s → inside d i ≡ true) → (i : Interval) → In i (meets s) → inside d i ≡ true
unfolding meets
meets-inside d [] h i m = absurd (Memᴰ.not-nil m)
meets-inside d (a ∷ []) h i m = absurd (Memᴰ.not-nil m)
meets-inside d (a ∷ b ∷ s) h i m =
    ⊎_elim
    (λ k.
    let e = Memᴰ.eq_of_singleton (kept proper (meet a b ∷ []) k).0 in
    let la = inside-lines d a (h a (Memᴰ.head refl)) in
    let lb = inside-lines d b (h b (Memᴰ.tail (Memᴰ.head refl))) in
    ap (inside d) e ∙ lines-inside d (meet a b) (omega arith) (omega arith))
    (λ k. meets-inside d (b ∷ s) (λ j z. h j (Memᴰ.tail z)) i k)
    (Memᴰ.append_cases (keep proper (meet a b ∷ [])) m)

pub strike-outermost : (x : ℕ) (s : List Interval) (d : Interval) → holds x d ≡ false → outermost (strike x s) d ≡ outermost s d
unfolding outermost
strike-outermost x s d h =
    ap (λ (w : List Interval). keep (λ i. not (any (λ j. inside j i && not (same j i)) w)) w) (strike-inside x s d h)

-- what a reduction drops and adds lies inside the bracket
pub outermost-inside : (s : List Interval) (d i : Interval) → In i (outermost s d) → inside d i ≡ true
unfolding outermost
outermost-inside s d i m =
    (kept (inside d) s (kept (λ i. not (any (λ j. inside j i && not (same j i)) (keep (inside d) s))) (keep (inside d) s) m).0).1

-- what `reduce` selects: of s, without what was dropped, and with the meets
abbrev pub selected : List Interval → List Interval → Interval → Bool
selected s dropped i = (member i s && not (member i dropped)) || member i (meets dropped)

pub and_last : (m o a h : Bool) → (a ≡ true → h ≡ true) → (m && h && o || a) ≡ ((m && o || a) && h)
and_last true o a true f = sym (and-true (o || a))
and_last false o a true f = sym (and-true a)
and_last m o true false f = absurd (false≢true (f refl))
and_last m o false false f = ap (λ b. b && o || false) (and-false m) ∙ sym (and-false (m && o || false))

pub strike-reduce : (n x : ℕ) (s : List Interval) (d : Interval) → holds x d ≡ false → reduce n (strike x s) d ≡ strike x (reduce n s d)
unfolding reduce strike
strike-reduce n x s d h =
    let o = outermost s d in
    ap (λ (w : List Interval). select n (selected (strike x s) w)) (strike-outermost x s d h)
    ∙ keep_same (selected (strike x s) o) (λ i. selected s o i && not (holds x i)) (every n)
    (λ i m.
    ap (λ b. b && not (member i o) || member i (meets o)) (member-keep i (λ j. not (holds x j)) s)
    ∙ and_last (member i s) (not (member i o)) (member i (meets o)) (not (holds x i))
    (λ t. ap not (inside-bare x d i h (meets-inside d o (outermost-inside s d) i (member_in i (meets o) t)))))
    ∙ sym (keep-keep (selected s o) (λ i. not (holds x i)) (every n))

-- every minimal bracket holds the column
abbrev pub AllHold : ℕ → List Interval → Type 0
AllHold x s = (d : Interval) → minimal s d ≡ true → holds x d ≡ true

pub all_hold_reduce : (n x : ℕ) (s : List Interval) (d : Interval) → Listed n s → minimal s d ≡ true → AllHold x s → AllHold x (reduce n s d)
all_hold_reduce n x s d listed least h e t =
    let r = minimal-inside s e (reduce_no_new n s d listed least e (minimal-dependent (reduce n s d) e t)) in
    inside-holds e r.0 x r.2 (h r.0 r.1)

-- then every bracket of a run holds it
pub all_hold_reduces : {n : ℕ} {s t ds : List Interval} (x : ℕ) → Listed n s → AllHold x s → Reduces n s ds t → strike x ds ≡ []
unfolding strike
all_hold_reduces x listed h over = refl
all_hold_reduces {n} x listed h (next {s} d least r) = rw (h d least) (all_hold_reduces x (reduce-listed n s d) (all_hold_reduce n x s d listed least h) r)

-- and the rest has no dependent bracket
pub all_hold_ended : (x : ℕ) (s : List Interval) → AllHold x s → Ended (strike x s)
all_hold_ended x s h d t =
    let b = strike-bare x s d t in
    let r = minimal-inside s d (sym (strike-dependent x s d b) ∙ t) in
    never (h r.0 r.1) (inside-bare x d r.0 b r.2)

-- a minimal bracket that does not hold the column, or none
abbrev pub clear : ℕ → List Interval → Interval → Bool
clear x s d = minimal s d && not (holds x d)

pub clear_none : (n x : ℕ) (s : List Interval) → Listed n s → any (clear x s) (every n) ≡ false → AllHold x s
clear_none n x s listed f d t =
    let u = minimal-dependent s d t in
    let m = lines-every n d (dependent-proper s d u) (dependent-within n s d listed u) in
    bcase (holds x d) (λ e. e) (λ e. absurd (never (and_both (minimal s d) (not (holds x d)) t (ap not e)) (any_none (clear x s) m f)))

-- a struck bag is a bag
pub strike-same : (x : ℕ) (ds es : List Interval) → SameBag ds es → SameBag (strike x ds) (strike x es)
unfolding strike
strike-same x ds es h p = count-keep (λ i. not (holds x i)) p ds ∙ h (λ i. not (holds x i) && p i) ∙ sym (count-keep (λ i. not (holds x i)) p es)

pub strike-keeps : (x : ℕ) (d : Interval) (ds : List Interval) → holds x d ≡ false → strike x (d ∷ ds) ≡ d ∷ strike x ds
unfolding strike
strike-keeps x d ds h = rw h

pub strike_fuel : (n x m : ℕ) (s : List Interval) → Listed n s → length s < m → SameBag (trace n (strike x s)) (strike x (trace n s))
strike_fuel n x zero s listed h p = absurd (omega arith)
strike_fuel n x (suc m) s listed h p =
    bcase (any (clear x s) (every n))
    (λ u.
    let r = any_found (clear x s) (every n) u in
    let d = r.0 in
    let least = and_left (minimal s d) (not (holds x d)) r.2 in
    let b = not-true (holds x d) (and_right (minimal s d) (not (holds x d)) r.2) in
    let z = reduce_size n s d listed least in
    let rest = reduce n s d in
    bag_reduce n (strike x s) (strike-listed n s listed x) d (strike-minimal x s d b least) p
    ∙ ap (λ (t : List Interval). count p (d ∷ trace n t)) (strike-reduce n x s d b)
    ∙ ap (bit (p d) +◌) (strike_fuel n x m rest (reduce-listed n s d) (omega arith) p)
    ∙ sym (ap (count p) (strike-keeps x d (trace n rest) b))
    ∙ sym (strike-same x (trace n s) (d ∷ trace n rest) (bag_reduce n s listed d least) p))
    (λ u.
    let a = clear_none n x s listed u in
    ap (count p) (ended-trace n (strike x s) (all_hold_ended x s a) ∙ sym (all_hold_reduces x listed a (trace_reduces n s))))

module _ (n x : ℕ) (s : List Interval) (listed : Listed n s) where
  -- the bag of the rest is the bag without the brackets that hold the column
  pub strike_bag : SameBag (trace n (strike x s)) (strike x (trace n s))
  strike_bag = strike_fuel n x (suc (length s)) s listed (omega arith)

  -- so the final set loses as many intervals as hold it
  pub strike_size : length (final n (strike x s)) + count (holds x) (final n s) ≡ length (final n s)
  unfolding strike
  strike_size =
      omega (
        arith,
        trace-length n s listed,
        trace-length n (strike x s) (strike-listed n s listed x),
        trace-count n s listed x,
        count-rest (holds x) s,
        count-rest (holds x) (trace n s),
        bag_length (trace n (strike x s)) (strike x (trace n s)) strike_bag,
      )

  -- one, where one holds it
  pub strike-final : count (holds x) (final n s) ≡ 1 → suc (length (final n (strike x s))) ≡ length (final n s)
  strike-final once = omega (arith, strike_size)
