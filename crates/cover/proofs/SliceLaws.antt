-- What a slice is, in facts: its squares are copper, the squares beside it are not; so it takes in every run of copper that it meets.
-- Each part of the test in turn; the run cannot pass an end of the slice, where there is no copper. Flashes and marks rest on it.
use mathlib.Core.Path.{◌≡◌, refl, sym, ap, ◌∙◌}
use mathlib.Core.Bool.{true, false, not, ◌&&◌}
use mathlib.Core.Logic.{by_cases}
use Prim.Native.Nat.{ℕ, zero, suc, ◌-◌, ◌≤◌, ◌<◌, min, max}
use native.Mathlib.Omega.{arith}
use native.Mathlib.Decide.{dec_le, dec_lt, ℕ_discrete}
use borrow.Author.Tests.{not-true, not-false}
use Rattle.lists.proofs.Truth.{bcase, never, and_left, and_right, and_both}
use Rattle.lists.proofs.Members.{all_of, all_if}
use Rattle.lists.proofs.Ranges.{from_in, in_from, least_passing}
use Rattle.method.specs.Intervals.{Interval, span, proper, holds, inside, columns}
use Rattle.method.proofs.Lines.{proper-lines, lines-proper, holds-lines, lines_hold, inside-lines, interval_path}
use Rattle.grid.specs.Squares.{Area}
use Rattle.cover.specs.Slices.{ends_left, ends_right, copper_along, slice}

module _ (a : Area) (y : ℕ) (i : Interval) where
  pub along-copper : copper_along a y i ≡ true → (c : ℕ) → i.left ≤ c → c < i.right → a c y ≡ true
  unfolding copper_along
  along-copper t c l r = all_of (λ x. a x y) t (in_from i.left (i.right - i.left) c l (omega arith))

  pub copper-along : ((c : ℕ) → i.left ≤ c → c < i.right → a c y ≡ true) → copper_along a y i ≡ true
  unfolding copper_along
  copper-along h = all_if (λ x. a x y) (columns i) (λ c m. let b = from_in i.left (i.right - i.left) m in h c b.0 (omega arith))

  module _ (shown : slice a y i ≡ true) where
    first_three : (proper i && copper_along a y i && ends_left a y i.left) ≡ true
    unfolding slice
    first_three = and_left (proper i && copper_along a y i && ends_left a y i.left) (ends_right a y i.right) shown

    first_two : (proper i && copper_along a y i) ≡ true
    first_two = and_left (proper i && copper_along a y i) (ends_left a y i.left) first_three

    pub slice-lines : i.left < i.right
    slice-lines = proper-lines i (and_left (proper i) (copper_along a y i) first_two)

    pub slice-along : copper_along a y i ≡ true
    slice-along = and_right (proper i) (copper_along a y i) first_two

    pub slice-left : (c : ℕ) → suc c ≡ i.left → a c y ≡ false
    unfolding ends_left
    slice-left c e = not-true (a c y) (ap (ends_left a y) e ∙ and_right (proper i && copper_along a y i) (ends_left a y i.left) first_three)

    pub slice_right : a i.right y ≡ false
    unfolding slice ends_right
    slice_right = not-true (a i.right y) (and_right (proper i && copper_along a y i && ends_left a y i.left) (ends_right a y i.right) shown)

    pub slice-copper : (c : ℕ) → holds c i ≡ true → a c y ≡ true
    slice-copper c h = let b = holds-lines c i h in along-copper slice-along c b.0 b.1

    -- a run of copper from a column of the slice, to the right or to the left, stays in the slice
    pub slice-holds-run : (c e : ℕ) → holds c i ≡ true → ((x : ℕ) → min c e ≤ x → x ≤ max c e → a x y ≡ true) → holds e i ≡ true
    slice-holds-run c e h run =
        let b = holds-lines c i h in
        let l : i.left ≤ e = by_cases (dec_le i.left e) (λ z. z) (λ z. absurd (never (run (i.left - 1) (omega arith) (omega arith)) (slice-left (i.left - 1) (omega arith)))) in
        let r : e < i.right = by_cases (dec_lt e i.right) (λ z. z) (λ z. absurd (never (run i.right (omega arith) (omega arith)) slice_right)) in
        lines_hold e i l r

  pub lines-slice : i.left < i.right → copper_along a y i ≡ true → ends_left a y i.left ≡ true → a i.right y ≡ false → slice a y i ≡ true
  unfolding slice ends_right
  lines-slice p q l r =
      and_both (proper i && copper_along a y i && ends_left a y i.left) (not (a i.right y))
      (and_both (proper i && copper_along a y i) (ends_left a y i.left) (and_both (proper i) (copper_along a y i) (lines-proper i p) q) l)
      (ap not r)

-- a part of an interval that is copper along a row is so too
pub part-along : (a : Area) (y : ℕ) (j i : Interval) → inside j i ≡ true → copper_along a y j ≡ true → copper_along a y i ≡ true
part-along a y j i t s = let b = inside-lines j i t in copper-along a y i (λ c l r. along-copper a y j s c (omega arith) (omega arith))

-- two slices of one row that hold one column are the same
module _ (a : Area) (y c : ℕ) where
  takes_in : (i j : Interval) → slice a y i ≡ true → slice a y j ≡ true → holds c i ≡ true → holds c j ≡ true → (e : ℕ) → holds e j ≡ true → holds e i ≡ true
  takes_in i j s t h k e m =
      let p = holds-lines c j k in
      let q = holds-lines e j m in
      slice-holds-run a y i s c e h (λ x l u. slice-copper a y j t x (lines_hold x j (omega arith) (omega arith)))

  pub slice-same : (i j : Interval) → slice a y i ≡ true → slice a y j ≡ true → holds c i ≡ true → holds c j ≡ true → i ≡ j
  slice-same i j s t h k =
      let p = slice-lines a y i s in
      let q = slice-lines a y j t in
      let jl = holds-lines j.left i (takes_in i j s t h k j.left (lines_hold j.left j (omega arith) q)) in
      let jr = holds-lines (j.right - 1) i (takes_in i j s t h k (j.right - 1) (lines_hold (j.right - 1) j (omega arith) (omega arith))) in
      let il = holds-lines i.left j (takes_in j i t s k h i.left (lines_hold i.left i (omega arith) p)) in
      let ir = holds-lines (i.right - 1) j (takes_in j i t s k h (i.right - 1) (lines_hold (i.right - 1) i (omega arith) (omega arith))) in
      interval_path i j (omega arith) (omega arith)

-- from a copper square go left as far as copper goes
abbrev LeftEnd : Area → ℕ → ℕ → Type 0
LeftEnd a y c = (l : ℕ) × (l ≤ c) × (ends_left a y l ≡ true) × ((x : ℕ) → l ≤ x → x ≤ c → a x y ≡ true)

left_end : (a : Area) (y c : ℕ) → a c y ≡ true → LeftEnd a y c
unfolding ends_left
left_end a y zero t = (0, omega arith, refl, λ x l u. let e : x ≡ 0 = omega arith in rw e t)
left_end a y (suc c) t = bcase (a c y) (λ u. longer (left_end a y c u)) (λ u. (suc c, omega arith, ap not u, λ x l k. let e : x ≡ suc c = omega arith in rw e t))
  where
    longer : LeftEnd a y c → LeftEnd a y (suc c)
    longer r = (r.0, omega arith, r.2, λ x l k. by_cases (ℕ_discrete x (suc c)) (λ e. rw e t) (λ d. r.3 x l (omega arith)))

-- every copper square lies in a slice of its row, where copper ends at column w or before
pub slice_of : (a : Area) (w c y : ℕ) → a c y ≡ true → c ≤ w → a w y ≡ false → (i : Interval) × (slice a y i ≡ true) × (holds c i ≡ true) × (i.right ≤ w)
slice_of a w c y t h e =
    let l = left_end a y c t in
    let r = least_passing (λ x. not (a x y)) c w h (ap not e) in
    let i = span l.0 r.0 in
    let ends = not-true (a r.0 y) r.3 in
    let after : c < r.0 = by_cases (dec_lt c r.0) (λ z. z) (λ z. let q : r.0 ≡ c = omega arith in absurd (never t (ap (λ x. a x y) (sym q) ∙ ends))) in
    let along = copper-along a y i (λ x p q. by_cases (dec_le x c) (λ z. l.3 x p z) (λ z. not-false (a x y) (r.4 x (omega arith) q))) in
    (i, lines-slice a y i (omega arith) along l.2 ends, lines_hold c i l.1 after, r.2)
