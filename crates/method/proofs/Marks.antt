-- The rule of the marks finds as many marks as the final set has intervals, no column twice, each for an interval of the set that holds it,
-- and no later mark's interval holds an earlier mark's column. While the set is not empty its final set has a column held once; striking it takes one from the final set.
use mathlib.Core.Path.{◌≡◌, refl, sym, ap, subst, ◌∙◌}
use mathlib.Core.Bool.{true, false, not}
use mathlib.Core.List.Memᴰ
use mathlib.Core.List.{List, [], ◌∷◌}
use mathlib.Core.Logic.{⊎_elim}
use mathlib.Core.Option.{none, some}
use Prim.Native.Nat.{ℕ, zero, suc, ◌≤◌, ◌<◌}
use native.Mathlib.Omega.{arith}
use lib.ListN.{length}
use lib.Dec.{eqb}
use borrow.Author.Tests.{not-true}
use Rattle.lists.specs.Lists.{count, any, up_to}
use Rattle.lists.proofs.Truth.{ocase, never}
use Rattle.lists.proofs.Members.{In, any_of, any_found, none_any, first_found, first-none, none_first}
use Rattle.lists.proofs.Keep.{kept, count-any, count_positive, count-rest, count_lt, count-at-most, not-empty}
use Rattle.lists.proofs.Ranges.{in_from, length_from}
use Rattle.lists.proofs.Pairs.{Pairs, pairs_weaker}
use Rattle.method.specs.Intervals.{Interval, holds, member}
use Rattle.method.specs.Final.{final}
use Rattle.method.specs.Runs.{Listed}
use Rattle.method.specs.Strike.{Marked, held_once, strike, least, found, marked}
use Rattle.method.proofs.Lines.{inside-holds}
use Rattle.method.proofs.Listed.{member_in, in_member, strike-listed}
use Rattle.method.proofs.AnyOrder.{ended-empty}
use Rattle.method.proofs.Final.{ended-final, final-within}
use Rattle.method.proofs.Once.{held_once-below, held_once-once, final-once}
use Rattle.method.proofs.StrikeColumn.{strike-final}

-- the column and its interval, as facts
module _ (n : ℕ) (s : List Interval) (listed : Listed n s) {c : ℕ} (once : held_once n (final n s) ≡ some c) where
  -- a column of the final set's is one of the set's
  pub column-held : any (holds c) s ≡ true
  column-held =
      let h = held_once-once n (final n s) once in
      let r = any_found (holds c) (final n s) (count-any (holds c) (final n s) (omega arith)) in
      let w = final-within n s listed r.0 (in_member r.1) in
      any_of (holds c) (member_in w.0 s w.1) (inside-holds w.0 r.0 c w.2 r.2)

  -- so an interval is found for it
  pub least-found : (i : Interval) × (least c s ≡ some i)
  unfolding least
  least-found =
      let r = any_found (holds c) s column-held in
      ocase (least c s) (λ e. absurd (never r.2 (first-none (holds c) s e r.1))) (λ i e. (i, e))

  pub strike-shorter : length (strike c s) < length s
  unfolding strike
  strike-shorter = omega (arith, count-rest (holds c) s, count_positive (holds c) s column-held)

pub least-holds : (c : ℕ) (s : List Interval) {i : Interval} → least c s ≡ some i → (member i s ≡ true) × (holds c i ≡ true)
unfolding least
least-holds c s e = let r = first_found (holds c) s e in (in_member r.0, r.1)

-- what is left after a strike was there, and does not hold the column
pub strike-member : (c : ℕ) (s : List Interval) (i : Interval) → member i (strike c s) ≡ true → (member i s ≡ true) × (holds c i ≡ false)
unfolding strike
strike-member c s i t =
    let r = kept (λ j. not (holds c j)) s (member_in i (strike c s) t) in
    (in_member r.0, not-true (holds c i) r.1)

-- one turn
pub found-step : (n k : ℕ) (s : List Interval) {c : ℕ} {i : Interval} → held_once n (final n s) ≡ some c → least c s ≡ some i
    → found n (suc k) s ≡ record { column = c; interval = i } ∷ found n k (strike c s)
unfolding found
found-step n k s e f = rw (e, found, f)

pub found-empty : (n k : ℕ) → found n k [] ≡ []
unfolding found held_once
found-empty n zero = refl
found-empty n (suc k) =
    let e : held_once n (final n []) ≡ none = ap (held_once n) (ended-final n [] ended-empty) ∙ none_first (λ c. eqb (count (holds c) []) 1) (up_to n) (λ c m. refl) in
    rw (e, found)

-- a turn of the rule: the column held once, and the interval found for it
pub record Turn (n : ℕ) (s : List Interval) : Type 0 where
  pub listed : Listed n s
  pub mark : Marked
  pub once : held_once n (final n s) ≡ some mark.column
  pub found-for : least mark.column s ≡ some mark.interval

-- a set that is not empty has a turn
pub has-turn : (n : ℕ) (s : List Interval) → Listed n s → (s ≡ [] → ⊥) → Turn n s
has-turn n s listed full =
    let o = final-once n s listed full in
    let l = least-found n s listed o.1 in
    record { listed = listed; mark = record { column = o.0; interval = l.0 }; once = o.1; found-for = l.1 }

-- what holds of nothing, and goes over a turn, holds of the marks
module _ (n : ℕ) (P : List Interval → List Marked → Type 0) (nothing : P [] [])
    (turn : (s : List Interval) (t : Turn n s) (ms : List Marked) → P (strike t.mark.column s) ms → P s (t.mark ∷ ms))
  where
    pub found_ind : (k : ℕ) (s : List Interval) → Listed n s → length s ≤ k → P s (found n k s)
    found_ind zero [] listed h = subst (P []) (sym (found-empty n 0)) nothing
    found_ind zero (i ∷ s) listed h = absurd (omega arith)
    found_ind (suc k) [] listed h = subst (P []) (sym (found-empty n (suc k))) nothing
    found_ind (suc k) (i ∷ s) listed h =
        let t = has-turn n (i ∷ s) listed not-empty in
        let z = strike-shorter n (i ∷ s) listed t.once in
        subst (P (i ∷ s)) (sym (found-step n k (i ∷ s) t.once t.found-for))
        (turn (i ∷ s) t (found n k (strike t.mark.column (i ∷ s)))
        (found_ind k (strike t.mark.column (i ∷ s)) (strike-listed n (i ∷ s) listed t.mark.column) (omega arith)))

    pub marked_ind : (s : List Interval) → Listed n s → P s (marked n s)
    unfolding marked
    marked_ind s listed = found_ind (length s) s listed (omega arith)

-- each mark's interval is one of the set and holds its column
abbrev pub Held : List Interval → List Marked → Type 0
Held s ms = (m : Marked) → In m ms → (member m.interval s ≡ true) × (holds m.column m.interval ≡ true)

-- a later mark's interval does not hold an earlier mark's column
abbrev pub Apart : List Marked → Type 0
Apart ms = Pairs (λ a b. holds a.column b.interval ≡ false) ms

module _ (n : ℕ) (s : List Interval) (t : Turn n s) (ms : List Marked) where
  pub turn-held : Held (strike t.mark.column s) ms → Held s (t.mark ∷ ms)
  turn-held h m k =
      ⊎_elim
      (λ e. subst (λ (a : Marked). (member a.interval s ≡ true) × (holds a.column a.interval ≡ true)) (sym e) (least-holds t.mark.column s t.found-for))
      (λ z. let r = h m z in ((strike-member t.mark.column s m.interval r.0).0, r.1))
      (Memᴰ.cases_cons k)

  pub turn-apart : Held (strike t.mark.column s) ms → Apart ms → Apart (t.mark ∷ ms)
  turn-apart h p = (λ b k. (strike-member t.mark.column s b.interval (h b k).0).1, p)

  pub turn-found : ((k : ℕ) → length (strike t.mark.column s) ≤ k → found n k (strike t.mark.column s) ≡ ms)
      → (k : ℕ) → length s ≤ k → found n k s ≡ t.mark ∷ ms
  turn-found ih zero h = absurd (omega (arith, strike-shorter n s t.listed t.once))
  turn-found ih (suc k) h =
      found-step n k s t.once t.found-for ∙ ap (t.mark ∷◌) (ih k (omega (arith, strike-shorter n s t.listed t.once)))

  -- the column struck is held no more
  pub turn-columns : suc (count (λ c. any (holds c) (strike t.mark.column s)) (up_to n)) ≤ count (λ c. any (holds c) s) (up_to n)
  turn-columns =
      let x = t.mark.column in
      count_lt (λ c. any (holds c) (strike x s)) (λ c. any (holds c) s)
      (λ c m u.
      let r = any_found (holds c) (strike x s) u in
      any_of (holds c) (member_in r.0 s (strike-member x s r.0 (in_member r.1)).0) r.2)
      (in_from 0 n x (omega arith) (let b = held_once-below n (final n s) t.once in omega arith))
      (none_any (holds x) (strike x s) (λ i m. (strike-member x s i (in_member m)).1))
      (column-held n s t.listed t.once)

pub marked_empty : (n : ℕ) → marked n [] ≡ []
unfolding marked
marked_empty n = found-empty n 0

module _ (n : ℕ) (s : List Interval) (listed : Listed n s) where
  -- more turns than intervals change nothing
  pub found-marked : (k : ℕ) → length s ≤ k → found n k s ≡ marked n s
  found-marked =
      marked_ind n (λ r ms. (k : ℕ) → length r ≤ k → found n k r ≡ ms)
      (λ k h. found-empty n k)
      (turn-found n)
      s listed

  pub marked-length : length (marked n s) ≡ length (final n s)
  marked-length =
      marked_ind n (λ r ms. length ms ≡ length (final n r))
      (sym (ap length (ended-final n [] ended-empty)))
      (λ r t ms ih. ap suc ih ∙ strike-final n t.mark.column r t.listed (held_once-once n (final n r) t.once))
      s listed

  pub marked-both : Held s (marked n s) × Apart (marked n s)
  marked-both =
      marked_ind n (λ r ms. Held r ms × Apart ms)
      (λ m k. absurd (Memᴰ.not-nil k), tt)
      (λ r t ms ih. (turn-held n r t ms ih.0, turn-apart n r t ms ih.0 ih.1))
      s listed

  -- each mark's interval is one of the set and holds its column
  pub marked-holds : (m : Marked) → In m (marked n s) → (member m.interval s ≡ true) × (holds m.column m.interval ≡ true)
  marked-holds = marked-both.0

  -- a later mark's interval does not hold an earlier mark's column
  pub marked-apart : Pairs (λ a b. holds a.column b.interval ≡ false) (marked n s)
  marked-apart = marked-both.1

  -- no column twice
  pub marked-once : Pairs (λ a b. a.column ≡ b.column → ⊥) (marked n s)
  marked-once =
      pairs_weaker (λ a b. holds a.column b.interval ≡ false) (λ a b. a.column ≡ b.column → ⊥) (marked n s)
      (λ a b k f e. never (ap (λ (c : ℕ). holds c b.interval) e ∙ (marked-holds b k).1) f)
      marked-apart

  -- no more intervals than columns held
  pub final-columns : length (final n s) ≤ count (λ c. any (holds c) s) (up_to n)
  final-columns =
      subst (λ (k : ℕ). k ≤ count (λ c. any (holds c) s) (up_to n)) marked-length
      (marked_ind n (λ r ms. length ms ≤ count (λ c. any (holds c) r) (up_to n))
      (omega arith)
      (λ r t ms ih. omega (arith, turn-columns n r t ms))
      s listed)

  pub final-short : length (final n s) ≤ n
  final-short = omega (arith, final-columns, count-at-most (λ c. any (holds c) s) (up_to n), length_from 0 n)

pub marked_step : (n : ℕ) (s : List Interval) → Listed n s → {c : ℕ} {i : Interval} → held_once n (final n s) ≡ some c → least c s ≡ some i
    → marked n s ≡ record { column = c; interval = i } ∷ marked n (strike c s)
marked_step n s listed {c} {i} e f =
    let z = strike-shorter n s listed e in
    sym (found-marked n s listed (suc (length s)) (omega arith))
    ∙ found-step n (length s) s e f
    ∙ ap (record { column = c; interval = i } ∷◌) (found-marked n (strike c s) (strike-listed n s listed c) (length s) (omega arith))
