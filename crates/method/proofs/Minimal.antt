-- Dependent and minimal brackets, as facts: what the tests say, and that a dependent bracket holds a minimal one.
-- A shorter dependent bracket inside is looked for until there is none; the width falls each time.
use mathlib.Core.Path.{◌≡◌, sym, ap}
use mathlib.Core.Bool.{Bool, true, not, ◌&&◌}
use mathlib.Core.List.{List}
use Prim.Native.Nat.{ℕ, zero, suc, ◌+◌, ◌-◌, pred, ◌≤◌, ◌<◌}
use native.Mathlib.Omega.{arith}
use native.Mathlib.Decide.{dec_le}
use mathlib.Core.Logic.{by_cases}
use lib.Dec.{leb}
use borrow.Author.Tests.{leb-true, le-leb, not-true}
use Rattle.lists.specs.Lists.{all, any}
use Rattle.lists.proofs.Truth.{bcase, never, fails, and_left, and_right, and_both}
use Rattle.lists.proofs.Members.{any_found, any_none, none_any, all_of, all_if}
use Rattle.lists.proofs.Keep.{count-any}
use Rattle.lists.proofs.Ranges.{in_from, from_in}
use Rattle.method.specs.Intervals.{Interval, proper, holds, inside, same, columns, every, member}
use Rattle.method.specs.Dependent.{covered_inside, dependent, minimal}
use Rattle.method.specs.Runs.{Listed}
use Rattle.method.proofs.Lines.{proper-lines, lines-proper, holds-lines, lines_hold, inside-lines, lines-inside, same_path, path_same, interval_path, interval_discrete, inside-inside, inside_self}
use Rattle.method.proofs.Listed.{in_member, lines-every, listed-lines}

module _ (s : List Interval) (d : Interval) where
  pub dependent-proper : dependent s d ≡ true → d.left < d.right
  unfolding dependent
  dependent-proper t = proper-lines d (and_left (proper d) (all (λ c. leb 2 (covered_inside s d c)) (columns d)) t)

  pub dependent-twice : dependent s d ≡ true → (c : ℕ) → holds c d ≡ true → 2 ≤ covered_inside s d c
  unfolding dependent
  dependent-twice t c h =
      let b = holds-lines c d h in
      leb-true 2 (covered_inside s d c)
      (all_of (λ x. leb 2 (covered_inside s d x))
      (and_right (proper d) (all (λ x. leb 2 (covered_inside s d x)) (columns d)) t)
      (in_from d.left (d.right - d.left) c (omega arith) (omega arith)))

  pub dependent_if : d.left < d.right → ((c : ℕ) → holds c d ≡ true → 2 ≤ covered_inside s d c) → dependent s d ≡ true
  unfolding dependent
  dependent_if p h =
      and_both (proper d) (all (λ c. leb 2 (covered_inside s d c)) (columns d))
      (lines-proper d p)
      (all_if (λ c. leb 2 (covered_inside s d c)) (columns d)
      (λ c m.
      let b = from_in d.left (d.right - d.left) m in
      le-leb 2 (covered_inside s d c) (h c (lines_hold c d (omega arith) (omega arith)))))

  -- a column of a dependent bracket lies in an interval inside it
  pub dependent-held : dependent s d ≡ true → (c : ℕ) → holds c d ≡ true → (i : Interval) × (member i s ≡ true) × (inside d i ≡ true) × (holds c i ≡ true)
  unfolding covered_inside
  dependent-held t c h =
      let two = dependent-twice t c h in
      let r = any_found (λ i. inside d i && holds c i) s (count-any (λ i. inside d i && holds c i) s (omega arith)) in
      (r.0, in_member r.1, and_left (inside d r.0) (holds c r.0) r.2, and_right (inside d r.0) (holds c r.0) r.2)

-- a smaller dependent bracket inside d
abbrev pub smaller : List Interval → Interval → Interval → Bool
smaller s d e = inside d e && not (same d e) && dependent s e

pub smaller_says : (s : List Interval) (d e : Interval) → smaller s d e ≡ true → (inside d e ≡ true) × (d ≡ e → ⊥) × (dependent s e ≡ true)
smaller_says s d e t =
    let a = and_left (inside d e && not (same d e)) (dependent s e) t in (
      and_left (inside d e) (not (same d e)) a,
      λ q. never (path_same d e q) (not-true (same d e) (and_right (inside d e) (not (same d e)) a)),
      and_right (inside d e && not (same d e)) (dependent s e) t,
    )

pub smaller_if : (s : List Interval) (d e : Interval) → inside d e ≡ true → (d ≡ e → ⊥) → dependent s e ≡ true → smaller s d e ≡ true
smaller_if s d e i h t =
    and_both (inside d e && not (same d e)) (dependent s e)
    (and_both (inside d e) (not (same d e)) i (ap not (fails (same d e) (λ q. h (same_path d e q)))))
    t

module _ (s : List Interval) (d : Interval) where
  pub minimal-dependent : minimal s d ≡ true → dependent s d ≡ true
  unfolding minimal
  minimal-dependent t = and_left (dependent s d) (not (any (smaller s d) (every d.right))) t

  pub minimal_smallest : minimal s d ≡ true → (e : Interval) → inside d e ≡ true → dependent s e ≡ true → e ≡ d
  unfolding minimal
  minimal_smallest t e i u =
      let b = inside-lines d e i in
      let f = not-true (any (smaller s d) (every d.right)) (and_right (dependent s d) (not (any (smaller s d) (every d.right))) t) in
      let g = any_none (smaller s d) (lines-every d.right e (dependent-proper s e u) b.1) f in
      by_cases (interval_discrete e d) (λ q. q) (λ h. absurd (never (smaller_if s d e i (λ q. h (sym q)) u) g))

  pub minimal_if : dependent s d ≡ true → ((e : Interval) → inside d e ≡ true → dependent s e ≡ true → e ≡ d) → minimal s d ≡ true
  unfolding minimal
  minimal_if t h =
      and_both (dependent s d) (not (any (smaller s d) (every d.right))) t
      (ap not
      (none_any (smaller s d) (every d.right)
      (λ e m. fails (smaller s d e) (λ u. let r = smaller_says s d e u in r.1 (sym (h e r.0 r.2))))))

-- down to a minimal one: while a smaller one is dependent, go on inside it
pub shrink : (s : List Interval) (w : ℕ) (d : Interval) → d.right ≤ d.left + w → dependent s d ≡ true → (e : Interval) × (minimal s e ≡ true) × (inside d e ≡ true)
unfolding minimal
shrink s zero d h t = absurd (let p = dependent-proper s d t in omega arith)
shrink s (suc w) d h t =
    bcase (any (smaller s d) (every d.right))
    (λ u.
    let r = any_found (smaller s d) (every d.right) u in
    let e = r.0 in
    let f = smaller_says s d e r.2 in
    let b = inside-lines d e f.0 in
    let n : e.right ≤ e.left + w =
    by_cases (dec_le e.right (e.left + w)) (λ z. z) (λ z. absurd (f.1 (interval_path d e (omega arith) (omega arith)))) in
    let g = shrink s w e n f.2 in
    (g.0, g.1, inside-inside d e g.0 f.0 g.2))
    (λ u. (d, and_both (dependent s d) (not (any (smaller s d) (every d.right))) t (ap not u), inside_self d))

-- a dependent bracket contains a minimal one
pub minimal-inside : (s : List Interval) (d : Interval) → dependent s d ≡ true → (e : Interval) × (minimal s e ≡ true) × (inside d e ≡ true)
minimal-inside s d t = shrink s d.right d (omega arith) t

-- two minimal brackets with one right line are the same
pub minimal_right : (s : List Interval) (d e : Interval) → minimal s d ≡ true → minimal s e ≡ true → d.right ≡ e.right → d ≡ e
minimal_right s d e t u q =
    by_cases (dec_le d.left e.left)
    (λ h. sym (minimal_smallest s d t e (lines-inside d e h (omega arith)) (minimal-dependent s e u)))
    (λ h. minimal_smallest s e u d (lines-inside e d (omega arith) (omega arith)) (minimal-dependent s d t))

-- a dependent bracket of a set over n lines lies within them: its last column is held
pub dependent-within : (n : ℕ) (s : List Interval) (d : Interval) → Listed n s → dependent s d ≡ true → d.right ≤ n
dependent-within n s d listed t =
    let p = dependent-proper s d t in
    let c = pred d.right in
    let r = dependent-held s d t c (lines_hold c d (omega arith) (omega arith)) in
    let b = holds-lines c r.0 r.3 in
    let w = listed-lines n s listed r.0 r.1 in
    omega arith
