-- The nested search: right lines from 1 up to n, left lines down from it, the first dependent bracket. It finds rule 5's bracket:
-- no dependent bracket ends earlier, none with this right line begins later, so the one found is minimal, and no other minimal one has its right line.
use mathlib.Core.Path.{◌≡◌, refl, sym, ap, ◌∙◌}
use mathlib.Core.Bool.{true, false}
use mathlib.Core.List.Memᴰ
use mathlib.Core.List.{List}
use mathlib.Core.Option.{Option, none, some, some-injective}
use Prim.Native.Nat.{ℕ, zero, suc, ◌+◌, ◌≤◌, ◌<◌}
use native.Mathlib.Omega.{arith}
use native.Mathlib.Decide.{dec_le, ℕ_discrete}
use mathlib.Core.Logic.{by_cases}
use Rattle.lists.specs.Lists.{first, gather, from, up_to}
use Rattle.lists.proofs.Truth.{bcase, ocase, missing, never, fails}
use Rattle.lists.proofs.Members.{In, none_first, first-none, first_found, first-only, first-append-none, first-append-some}
use Rattle.lists.proofs.Ranges.{in_from, from_in, in_map, map_in, in_gather, gather_in}
use Rattle.method.specs.Intervals.{Interval, span}
use Rattle.method.specs.Dependent.{dependent, minimal}
use Rattle.method.specs.Final.{ending_at, by_right, leftmost}
use Rattle.method.specs.Runs.{Listed, Ended}
use Rattle.method.proofs.Lines.{inside-lines, interval_path}
use Rattle.method.proofs.Minimal.{dependent-proper, minimal-dependent, minimal_if, minimal-inside, minimal_right, dependent-within}

-- the inner loop: left lines l - 1 down to 0, with right line r
unfoldable pub downward : List Interval → ℕ → ℕ → Option Interval
downward s r zero = none
downward s r (suc l) = elim (dependent s (span l r)) [ true ↦ some (span l r) | false ↦ downward s r l ]

-- the outer loop: k right lines, from r up
unfoldable pub upward : List Interval → ℕ → ℕ → Option Interval
upward s zero r = none
upward s (suc k) r = elim (downward s r r) [ some d ↦ some d | none ↦ upward s k (r + 1) ]

unfoldable pub searched : ℕ → List Interval → Option Interval
searched n s = upward s n 1

-- the brackets that the definitions run through, by their lines
pub ending-lines : (r : ℕ) (d : Interval) → In d (ending_at r) → (d.left < r) × (d.right ≡ r)
ending-lines r d m =
    let a = map_in (λ l. span l r) (up_to r) m in
    let b = from_in 0 r a.1 in
    omega (arith, ap (λ (i : Interval). i.left) a.2, ap (λ (i : Interval). i.right) a.2)

pub lines-ending : (r : ℕ) (d : Interval) → d.left < r → d.right ≡ r → In d (ending_at r)
lines-ending r d l e =
    Memᴰ.cast (interval_path d (span d.left r) refl e) (in_map (λ k. span k r) (in_from 0 r d.left (omega arith) (omega arith)))

pub by_right-lines : (n : ℕ) (d : Interval) → In d (by_right n) → (d.left < d.right) × (d.right ≤ n)
by_right-lines n d m =
    let a = gather_in ending_at (from 1 n) m in
    let b = from_in 1 n a.1 in
    let c = ending-lines a.0 d a.2 in
    omega arith

pub lines-by_right : (n : ℕ) (d : Interval) → d.left < d.right → d.right ≤ n → In d (by_right n)
lines-by_right n d l h = in_gather ending_at (in_from 1 n d.right (omega arith) (omega arith)) (lines-ending d.right d l refl)

-- one turn of each loop
module _ (s : List Interval) where
  pub downward-hit : (r l : ℕ) → dependent s (span l r) ≡ true → downward s r (suc l) ≡ some (span l r)
  unfolding downward
  downward-hit r l t = rw (t, downward)

  pub downward_miss : (r l : ℕ) → dependent s (span l r) ≡ false → downward s r (suc l) ≡ downward s r l
  unfolding downward
  downward_miss r l f = rw (f, downward)

  pub downward-end : (r : ℕ) → downward s r 0 ≡ none
  unfolding downward
  downward-end r = refl

  pub upward-hit : (k r : ℕ) {d : Interval} → downward s r r ≡ some d → upward s (suc k) r ≡ some d
  unfolding upward
  upward-hit k r e = rw (e, upward)

  pub upward_miss : (k r : ℕ) → downward s r r ≡ none → upward s (suc k) r ≡ upward s k (r + 1)
  unfolding upward
  upward_miss k r e = rw (e, upward)

  pub upward-end : (r : ℕ) → upward s 0 r ≡ none
  unfolding upward
  upward-end r = refl

  -- what the inner loop finds is dependent, and none between it and the start is
  pub downward-found : (r l : ℕ) {d : Interval} → downward s r l ≡ some d
      → (d.left < l) × (d.right ≡ r) × (dependent s d ≡ true) × ((a : ℕ) → d.left < a → a < l → dependent s (span a r) ≡ false)
  downward-found r zero e = absurd (missing (downward-end r) e)
  downward-found r (suc l) {d} e =
      bcase (dependent s (span l r))
      (λ t.
      let q : span l r ≡ d = some-injective (span l r) d (sym (downward-hit r l t) ∙ e) in
      let ql : l ≡ d.left = ap (λ (i : Interval). i.left) q in
      let qr : r ≡ d.right = ap (λ (i : Interval). i.right) q in
      (omega arith, sym qr, ap (dependent s) (sym q) ∙ t, λ a g h. absurd (omega arith)))
      (λ f.
      let u = downward-found r l (sym (downward_miss r l f) ∙ e) in
      let ul = u.0 in (
        omega arith,
        u.1,
        u.2,
        λ a g h. by_cases (ℕ_discrete a l) (λ q. ap (λ (z : ℕ). dependent s (span z r)) q ∙ f) (λ z. u.3 a g (omega arith)),
      ))

  pub downward-none : (r l : ℕ) → downward s r l ≡ none → (a : ℕ) → a < l → dependent s (span a r) ≡ false
  downward-none r zero e a h = absurd (omega arith)
  downward-none r (suc l) e a h =
      bcase (dependent s (span l r))
      (λ t. absurd (missing e (downward-hit r l t)))
      (λ f.
      by_cases (ℕ_discrete a l)
      (λ q. ap (λ (z : ℕ). dependent s (span z r)) q ∙ f)
      (λ z. downward-none r l (sym (downward_miss r l f) ∙ e) a (omega arith)))

  -- with no dependent bracket that ends before line r, what the inner loop finds is minimal
  module _ (r : ℕ) (before : (e : Interval) → dependent s e ≡ true → r ≤ e.right) where
    pub downward-minimal : {d : Interval} → downward s r r ≡ some d → minimal s d ≡ true
    downward-minimal {d} q =
        let f = downward-found r r q in
        let fr = f.1 in
        minimal_if s d f.2
        (λ e i t.
        let b = inside-lines d e i in
        let p = dependent-proper s e t in
        let w = before e t in
        by_cases (dec_le e.left d.left)
        (λ h. interval_path e d (omega arith) (omega arith))
        (λ h.
        absurd
        (never
        (ap (dependent s) (interval_path (span e.left r) e refl (omega arith)) ∙ t)
        (f.3 e.left (omega arith) (omega arith)))))

    pub downward-first : downward s r r ≡ first (minimal s) (ending_at r)
    downward-first =
        ocase (downward s r r)
        (λ q.
        q
        ∙ sym
        (none_first (minimal s) (ending_at r)
        (λ e m.
        let b = ending-lines r e m in
        fails (minimal s e)
        (λ t.
        never
        (ap (dependent s) (interval_path (span e.left r) e refl (sym b.1)) ∙ minimal-dependent s e t)
        (downward-none r r q e.left b.0)))))
        (λ d q.
        let f = downward-found r r q in
        q
        ∙ sym
        (first-only (minimal s) (ending_at r) (lines-ending r d f.0 f.1) (downward-minimal q)
        (λ e m t. minimal_right s e d t (downward-minimal q) ((ending-lines r e m).1 ∙ sym f.1))))

    -- a turn without a find moves the line on
    pub before-next : downward s r r ≡ none → (e : Interval) → dependent s e ≡ true → suc r ≤ e.right
    before-next q e t =
        let w = before e t in
        let p = dependent-proper s e t in
        by_cases (ℕ_discrete e.right r)
        (λ h.
        absurd
        (never (ap (dependent s) (interval_path (span e.left r) e refl (sym h)) ∙ t) (downward-none r r q e.left (omega arith))))
        (λ h. omega arith)

  pub upward-first : (k r : ℕ) → ((e : Interval) → dependent s e ≡ true → r ≤ e.right) → upward s k r ≡ first (minimal s) (gather ending_at (from r k))
  upward-first zero r before = upward-end r
  upward-first (suc k) r before =
      ocase (downward s r r)
      (λ q.
      let e : r + 1 ≡ suc r = omega arith in
      upward_miss k r q
      ∙ ap (upward s k) e
      ∙ upward-first k (suc r) (before-next r before q)
      ∙ sym (first-append-none (minimal s) (ending_at r) (gather ending_at (from (suc r) k)) (sym (downward-first r before) ∙ q)))
      (λ d q.
      upward-hit k r q
      ∙ sym (first-append-some (minimal s) (ending_at r) (gather ending_at (from (suc r) k)) (sym (downward-first r before) ∙ q)))

  pub upward-least : (k r : ℕ) → ((e : Interval) → dependent s e ≡ true → r ≤ e.right) → {d : Interval} → upward s k r ≡ some d
      → (e : Interval) → dependent s e ≡ true → d.right ≤ e.right
  upward-least zero r before q e t = absurd (missing (upward-end r) q)
  upward-least (suc k) r before {d} q e t =
      ocase (downward s r r)
      (λ z.
      let u : r + 1 ≡ suc r = omega arith in
      upward-least k (suc r) (before-next r before z) (sym (ap (upward s k) u) ∙ sym (upward_miss k r z) ∙ q) e t)
      (λ c z.
      let b = before e t in
      let f = (downward-found r r z).1 in
      let g : c ≡ d = some-injective c d (sym (upward-hit k r z) ∙ q) in
      omega (arith, ap (λ (i : Interval). i.right) g))

-- a bracket ends at line 1 at the earliest
pub before-all : (s : List Interval) (e : Interval) → dependent s e ≡ true → 1 ≤ e.right
before-all s e t = let p = dependent-proper s e t in omega arith

-- the nested search finds rule 5's bracket
pub searched-leftmost : (n : ℕ) (s : List Interval) → searched n s ≡ leftmost n s
unfolding searched leftmost
searched-leftmost n s = upward-first s n 1 (before-all s)

module _ (n : ℕ) (s : List Interval) where
  pub leftmost-minimal : {d : Interval} → leftmost n s ≡ some d → (minimal s d ≡ true) × (d.right ≤ n)
  unfolding leftmost
  leftmost-minimal {d} e = let r = first_found (minimal s) (by_right n) e in (r.1, (by_right-lines n d r.0).1)

  -- no dependent bracket has a lesser right line
  pub leftmost-least : {d : Interval} → leftmost n s ≡ some d → (e : Interval) → dependent s e ≡ true → d.right ≤ e.right
  unfolding searched
  leftmost-least q e t = upward-least s n 1 (before-all s) (searched-leftmost n s ∙ q) e t

  pub leftmost-ended : Listed n s → leftmost n s ≡ none → Ended s
  unfolding leftmost
  leftmost-ended listed e d t =
      let r = minimal-inside s d t in
      let f = minimal-dependent s r.0 r.1 in
      never r.1
      (first-none (minimal s) (by_right n) e (lines-by_right n r.0 (dependent-proper s r.0 f) (dependent-within n s r.0 listed f)))

  pub ended-leftmost : Ended s → leftmost n s ≡ none
  unfolding leftmost
  ended-leftmost h = none_first (minimal s) (by_right n) (λ d m. fails (minimal s d) (λ t. h d (minimal-dependent s d t)))
