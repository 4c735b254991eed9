-- A set without a dependent bracket that is not empty has a column held exactly once.
-- From its least column u go right to the first bare column v: no interval crosses u or v, so were each column between held twice, (u, v) would be dependent.
use mathlib.Core.Path.{◌≡◌, refl, sym, ap, ◌∙◌}
use mathlib.Core.Bool.{Bool, true, false, not, ◌&&◌, false≢true}
use mathlib.Core.List.Memᴰ
use mathlib.Core.List.{List, [], ◌∷◌}
use mathlib.Core.Option.{none, some}
use Prim.Native.Nat.{ℕ, ◌≤◌, ◌<◌}
use native.Mathlib.Omega.{arith}
use native.Mathlib.Decide.{dec_le, ℕ_discrete}
use mathlib.Core.Logic.{by_cases}
use lib.Dec.{eqb}
use borrow.Author.Tests.{eqb-true, eqb-false, not-true, not-false}
use Rattle.lists.specs.Lists.{count, any, up_to}
use Rattle.lists.proofs.Truth.{agree, ocase, missing, never, fails, and_right, and_both}
use Rattle.lists.proofs.Members.{In, any_of, none_any, first_found, first-none}
use Rattle.lists.proofs.Keep.{count_same, count_positive, not-empty}
use Rattle.lists.proofs.Ranges.{from_in, in_from, first-from, least_passing}
use Rattle.method.specs.Intervals.{Interval, span, holds, inside, member}
use Rattle.method.specs.Dependent.{covered_inside, dependent}
use Rattle.method.specs.Final.{final}
use Rattle.method.specs.Runs.{Listed, Ended}
use Rattle.method.specs.Strike.{held_once}
use Rattle.method.proofs.Lines.{holds-lines, lines_hold, lines-inside}
use Rattle.method.proofs.Listed.{in_member, listed-lines}
use Rattle.method.proofs.Minimal.{dependent_if}
use Rattle.method.proofs.AnyOrder.{final-ended}
use Rattle.method.proofs.Final.{final-listed, final_generates}

abbrev pub once : List Interval → ℕ → Bool
once f c = eqb (count (holds c) f) 1

-- the column that `held_once` gives is held once, and none before it is
module _ (n : ℕ) (f : List Interval) {c : ℕ} (found : held_once n f ≡ some c) where
  pub held_once-below : c < n
  unfolding held_once
  held_once-below = let b = from_in 0 n (first_found (once f) (up_to n) found).0 in omega arith

  pub held_once-once : count (holds c) f ≡ 1
  unfolding held_once
  held_once-once = eqb-true (count (holds c) f) 1 (first_found (once f) (up_to n) found).1

  pub held_once-least : (b : ℕ) → b < c → count (holds b) f ≡ 1 → ⊥
  unfolding held_once
  held_once-least b h e = eqb-false (count (holds b) f) 1 (first-from (once f) 0 n found b (omega arith) h) e

pub held_once-none : (n : ℕ) (f : List Interval) → held_once n f ≡ none → (c : ℕ) → c < n → count (holds c) f ≡ 1 → ⊥
unfolding held_once
held_once-none n f e c h = eqb-false (count (holds c) f) 1 (first-none (once f) (up_to n) e (in_from 0 n c (omega arith) (omega arith)))

-- some interval holds the column
abbrev pub held : List Interval → ℕ → Bool
held s c = any (holds c) s

pub held_by : (s : List Interval) (i : Interval) (c : ℕ) → In i s → holds c i ≡ true → held s c ≡ true
held_by s i c m t = any_of (holds c) m t

-- between a first held column u and the next bare one v, no interval crosses either: with every column held twice, (u, v) is dependent
module _ (n : ℕ) (s : List Interval) (listed : Listed n s) (u v : ℕ)
    (first : (y : ℕ) → y < u → held s y ≡ false) (bare : held s v ≡ false)
  where
    pub crosses_not : (c : ℕ) → holds c (span u v) ≡ true → (i : Interval) → In i s → holds c i ≡ true → inside (span u v) i ≡ true
    crosses_not c h i m t =
        let b = holds-lines c (span u v) h in
        let a = holds-lines c i t in
        let w = listed-lines n s listed i (in_member m) in
        let l : u ≤ i.left =
        by_cases (dec_le u i.left) (λ z. z)
        (λ z. absurd (never (held_by s i i.left m (lines_hold i.left i (omega arith) w.0)) (first i.left (omega arith)))) in
        let r : i.right ≤ v =
        by_cases (dec_le i.right v) (λ z. z)
        (λ z. absurd (never (held_by s i v m (lines_hold v i (omega arith) (omega arith))) bare)) in
        lines-inside (span u v) i l r

    pub covered-all : (c : ℕ) → holds c (span u v) ≡ true → covered_inside s (span u v) c ≡ count (holds c) s
    unfolding covered_inside
    covered-all c h =
        count_same (λ i. inside (span u v) i && holds c i) (holds c) s
        (λ i m.
        agree (inside (span u v) i && holds c i) (holds c i)
        (λ t. and_right (inside (span u v) i) (holds c i) t)
        (λ t. and_both (inside (span u v) i) (holds c i) (crosses_not c h i m t) t))

    pub twice-dependent : u ≤ v → held s u ≡ true → ((c : ℕ) → u ≤ c → c < v → 2 ≤ count (holds c) s) → dependent s (span u v) ≡ true
    twice-dependent p t h =
        dependent_if s (span u v)
        (by_cases (ℕ_discrete u v) (λ q. absurd (never t (ap (held s) q ∙ bare))) (λ q. omega arith))
        (λ c t. let b = holds-lines c (span u v) t in rw (covered-all c t) (h c b.0 b.1))

-- no interval holds the column after the last line
pub bare-end : (n : ℕ) (s : List Interval) → Listed n s → held s n ≡ false
bare-end n s listed =
    none_any (holds n) s
    (λ i m. fails (holds n i) (λ t. let b = holds-lines n i t in let w = listed-lines n s listed i (in_member m) in absurd (omega arith)))

-- so where no column is held once, an interval makes a dependent bracket
pub never-once : (n : ℕ) (s : List Interval) → Listed n s → Ended s → (i : Interval) → In i s → ((c : ℕ) → c < n → count (holds c) s ≡ 1 → ⊥) → ⊥
never-once n s listed ended i m h =
    let w = listed-lines n s listed i (in_member m) in
    let a = least_passing (held s) 0 i.left (omega arith) (held_by s i i.left m (lines_hold i.left i (omega arith) w.0)) in
    let u = a.0 in
    let b = least_passing (λ c. not (held s c)) u n (omega arith) (ap not (bare-end n s listed)) in
    let v = b.0 in
    let bare = not-true (held s v) b.3 in
    ended (span u v)
    (twice-dependent n s listed u v (λ y l. a.4 y (omega arith) l) bare b.1 a.3
    (λ c l k.
    let one = count_positive (holds c) s (not-false (held s c) (b.4 c l k)) in
    by_cases (dec_le 2 (count (holds c) s)) (λ z. z) (λ z. absurd (h c (omega arith) (omega arith)))))

-- a set without dependence that is not empty has a column held once
pub ended-once : (n : ℕ) (s : List Interval) → Listed n s → Ended s → (s ≡ [] → ⊥) → (c : ℕ) × (held_once n s ≡ some c)
ended-once n [] listed ended full = absurd (full refl)
ended-once n (i ∷ s) listed ended full =
    ocase (held_once n (i ∷ s))
    (λ e. absurd (never-once n (i ∷ s) listed ended i (Memᴰ.head refl) (held_once-none n (i ∷ s) e)))
    (λ c e. (c, e))

-- the final set of a set that is not empty is not empty
pub final_full : (n : ℕ) (s : List Interval) → Listed n s → (s ≡ [] → ⊥) → final n s ≡ [] → ⊥
final_full n [] listed full e = full refl
final_full n (i ∷ s) listed full e =
    let m = in_member {i = i} {s = i ∷ s} (Memᴰ.head refl) in
    let w = listed-lines n (i ∷ s) listed i m in
    let r = final_generates n (i ∷ s) listed i i.left m (lines_hold i.left i (omega arith) w.0) in
    false≢true (sym (ap (member r.0) e) ∙ r.1)

pub final-once : (n : ℕ) (s : List Interval) → Listed n s → (s ≡ [] → ⊥) → (c : ℕ) × (held_once n (final n s) ≡ some c)
final-once n s listed full = ended-once n (final n s) (final-listed n s listed) (final-ended n s listed) (final_full n s listed full)

-- so where the final set has no such column, the set is empty
pub never-once-empty : (n : ℕ) (s : List Interval) → Listed n s → held_once n (final n s) ≡ none → s ≡ []
never-once-empty n [] listed e = refl
never-once-empty n (i ∷ s) listed e = absurd (missing e (final-once n (i ∷ s) listed not-empty).1)
