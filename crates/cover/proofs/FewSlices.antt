-- The starting set has at most three intervals for each column of the area: the room for brackets rests on it.
-- In the lowest row that shows an interval something is new: copper begins in one of its columns, or has ended in the column beside it on the left, or on the right. Each column's copper begins
-- once and ends once, and a slice is known by its row and one of its columns, so that no two intervals have the same key.
use mathlib.Core.Path.{◌≡◌, refl, sym, ap, subst, ◌∙◌}
use mathlib.Core.Bool.{Bool, true, false, not, ◌&&◌}
use mathlib.Core.List.{List}
use mathlib.Core.Logic.{◌⊎◌, inl, inr, ⊎_elim, by_cases}
use mathlib.Core.Option.{Option, none, some}
use Prim.Native.Nat.{ℕ, zero, suc, ◌+◌, ◌-◌, ◌*◌, ◌≤◌, ◌<◌}
use native.Mathlib.Omega.{arith}
use native.Mathlib.Decide.{dec_lt, ℕ_discrete}
use lib.ListN.{length, get_or}
use lib.Dec.{leb, ltb}
use borrow.Author.Tests.{not-true, not-false, ltb-true, leb-true, lt-ltb, le-leb}
use Rattle.lists.specs.Lists.{first, from}
use Rattle.lists.proofs.Truth.{bcase, ocase, never, and_left, and_right, and_both}
use Rattle.lists.proofs.Searches.{first-within, first-missed}
use Rattle.lists.proofs.Ranges.{first-from}
use Rattle.lists.proofs.Pairs.{in_at, pairs_at}
use Rattle.lists.proofs.Related.{pairs_weaken}
use Rattle.method.specs.Intervals.{Interval, span, holds, member}
use Rattle.method.proofs.Lines.{lines_hold}
use Rattle.method.proofs.Listed.{in_member}
use Rattle.method.proofs.InOrder.{Before, listed_in_order}
use Rattle.grid.specs.Squares.{Area, Unbroken}
use Rattle.grid.specs.Code.{or_end}
use Rattle.grid.proofs.Pigeonhole.{places}
use Rattle.cover.specs.Code.{between}
use Rattle.cover.specs.Slices.{ends_left, slice, lowest_shown, starting}
use Rattle.cover.proofs.SliceLaws.{slice-lines, slice-copper, slice-left, slice_right, slice-same, lines-slice, copper-along}
use Rattle.cover.proofs.Starting.{starting-listed, mark-row-shows}

-- the square below: there is none below row 0
abbrev below : Area → ℕ → ℕ → Bool
below a c zero = false
below a c (suc y) = a c y

-- the same of the column to the left of a line: there is none to the left of line 0
abbrev under_left : Area → ℕ → ℕ → Bool
under_left a zero y = false
under_left a (suc c) y = below a c y

-- three keys for each column: copper begins in it, has ended to the left of a slice, to the right of one
abbrev slot : Option ℕ → Bool → Interval → ℕ
slot (some c) b i = 3 * c
slot none true i = 3 * (i.left - 1) + 1
slot none false i = 3 * i.right + 2

ends-left : (a : Area) (z l : ℕ) → under_left a l (suc z) ≡ false → ends_left a z l ≡ true
unfolding ends_left
ends-left a z zero e = refl
ends-left a z (suc c) e = ap not e

-- where nothing is new the row below shows the interval
shown-below : (a : Area) (i : Interval) (y : ℕ) → i.left < i.right → ((c : ℕ) → i.left ≤ c → c < i.right → below a c y ≡ true)
    → under_left a i.left y ≡ false → below a i.right y ≡ false → (z : ℕ) × (y ≡ suc z) × (slice a z i ≡ true)
shown-below a i zero p along l r = absurd (never (along i.left (omega arith) p) refl)
shown-below a i (suc z) p along l r = (z, refl, lines-slice a z i p (copper-along a z i along) (ends-left a z i.left l) r)

module _ (a : Area) (unbroken : Unbroken a) (c : ℕ) where
  not-later : (y z : ℕ) → y < z → a c y ≡ true → a c z ≡ true → below a c z ≡ false → ⊥
  not-later y zero h s t u = omega arith
  not-later y (suc z) h s t u =
      by_cases (ℕ_discrete y z) (λ e. never (subst (λ x. a c x ≡ true) e s) u)
      (λ e. never (unbroken c y z (suc z) (omega arith) (omega arith) s t) u)

  begins-once : (y z : ℕ) → a c y ≡ true → below a c y ≡ false → a c z ≡ true → below a c z ≡ false → y ≡ z
  begins-once y z s u t v =
      by_cases (dec_lt y z) (λ h. absurd (not-later y z h s t v))
      (λ h. by_cases (dec_lt z y) (λ k. absurd (not-later z y k t s u)) (λ k. omega arith))

  not-again : (y z : ℕ) → y < z → a c y ≡ false → below a c y ≡ true → below a c z ≡ true → ⊥
  not-again zero z h s t u = never t refl
  not-again (suc y) zero h s t u = omega arith
  not-again (suc y) (suc z) h s t u =
      by_cases (ℕ_discrete (suc y) z) (λ e. never u (subst (λ x. a c x ≡ false) e s))
      (λ e. never (unbroken c y (suc y) z (omega arith) (omega arith) t u) s)

  ends-once : (y z : ℕ) → a c y ≡ false → below a c y ≡ true → a c z ≡ false → below a c z ≡ true → y ≡ z
  ends-once y z s u t v =
      by_cases (dec_lt y z) (λ h. absurd (not-again y z h s u v))
      (λ h. by_cases (dec_lt z y) (λ k. absurd (not-again z y k t v u)) (λ k. omega arith))

module _ (a : Area) (w h : ℕ) (narrow : (c y : ℕ) → a c y ≡ true → c < w) (unbroken : Unbroken a) where
  abbrev lowest : Interval → ℕ
  lowest i = or_end 0 (lowest_shown a h i)

  abbrev key : Interval → ℕ
  key i = slot (first (λ c. not (below a c (lowest i))) (from i.left (i.right - i.left))) (under_left a i.left (lowest i)) i

  abbrev Begins : Interval → Type 0
  Begins i = (c : ℕ) × (key i ≡ 3 * c) × (holds c i ≡ true) × (a c (lowest i) ≡ true) × (below a c (lowest i) ≡ false)

  abbrev EndedLeft : Interval → Type 0
  EndedLeft i = (c : ℕ) × (key i ≡ 3 * c + 1) × (i.left ≡ suc c) × (a c (lowest i) ≡ false) × (below a c (lowest i) ≡ true)

  abbrev EndedRight : Interval → Type 0
  EndedRight i = (c : ℕ) × (key i ≡ 3 * c + 2) × (i.right ≡ c) × (a c (lowest i) ≡ false) × (below a c (lowest i) ≡ true)

  abbrev New : Interval → Type 0
  New i = Begins i ⊎ (EndedLeft i ⊎ EndedRight i)

  module _ (i : Interval) (m : member i (starting a w h) ≡ true) where
    shows : slice a (lowest i) i ≡ true
    shows = let r = mark-row-shows a w h i m in subst (λ y. slice a y i ≡ true) (sym (ap (or_end 0) r.1)) r.3

    not_lower : (z : ℕ) → z < lowest i → slice a z i ≡ false
    unfolding lowest_shown
    not_lower z u =
        let r = mark-row-shows a w h i m in
        let e : lowest i ≡ r.0 = ap (or_end 0) r.1 in
        first-from (λ y. slice a y i) 0 h r.1 z (omega arith) (omega arith)

    left-new : (l : ℕ) → i.left ≡ l → under_left a l (lowest i) ≡ true → key i ≡ 3 * (i.left - 1) + 1 → EndedLeft i
    left-new zero e b k = absurd (never b refl)
    left-new (suc c) e b k = (c, omega arith, e, slice-left a (lowest i) i shows c (sym e), b)

    new : New i
    new =
        let p = slice-lines a (lowest i) i shows in
        ocase (first (λ c. not (below a c (lowest i))) (from i.left (i.right - i.left)))
        (λ e.
        let along : (c : ℕ) → i.left ≤ c → c < i.right → below a c (lowest i) ≡ true =
        λ c l r. not-false (below a c (lowest i)) (first-missed (λ x. not (below a x (lowest i))) i.left (i.right - i.left) e c l (omega arith)) in
        bcase (under_left a i.left (lowest i))
        (λ b. inr (inl (left-new i.left refl b (ap (λ o. slot o (under_left a i.left (lowest i)) i) e ∙ ap (λ x. slot none x i) b))))
        (λ b.
        inr
        (inr (
          i.right,
          ap (λ o. slot o (under_left a i.left (lowest i)) i) e ∙ ap (λ x. slot none x i) b,
          refl,
          slice_right a (lowest i) i shows,
          bcase (below a i.right (lowest i)) (λ t. t)
              (λ t. let z = shown-below a i (lowest i) p along b t in absurd (never z.2 (not_lower z.0 (omega arith)))),
        ))))
        (λ c e.
        let r = first-within (λ x. not (below a x (lowest i))) i.left (i.right - i.left) e in
        let in-it = lines_hold c i r.0 (omega arith) in
        inl (
          c,
          ap (λ o. slot o (under_left a i.left (lowest i)) i) e,
          in-it,
          slice-copper a (lowest i) i shows c in-it,
          not-true (below a c (lowest i)) r.2,
        ))

  -- copper that has ended was in the grid
  below_grid : (c y : ℕ) → below a c y ≡ true → c < w
  below_grid c zero t = absurd (never t refl)
  below_grid c (suc y) t = narrow c y t

  key_below : (i : Interval) → member i (starting a w h) ≡ true → key i < 3 * w
  key_below i m =
      ⊎_elim (λ n. omega (arith, n.1, narrow n.0 (lowest i) n.3))
      (λ o. ⊎_elim (λ n. omega (arith, n.1, below_grid n.0 (lowest i) n.4)) (λ n. omega (arith, n.1, below_grid n.0 (lowest i) n.4)) o)
      (new i m)

  module _ (i j : Interval) (m : member i (starting a w h) ≡ true) (n : member j (starting a w h) ≡ true) where
    -- slices of one row with a column in common
    one-row : (c : ℕ) → lowest i ≡ lowest j → holds c i ≡ true → holds c j ≡ true → i ≡ j
    one-row c e s t = slice-same a (lowest i) c i j (shows i m) (subst (λ y. slice a y j ≡ true) (sym e) (shows j n)) s t

    both_begin : Begins i → Begins j → key i ≡ key j → i ≡ j
    both_begin p q e =
        let same : q.0 ≡ p.0 = omega (arith, p.1, q.1) in
        one-row p.0
        (begins-once a unbroken p.0 (lowest i) (lowest j) p.3 p.4 (subst (λ c. a c (lowest j) ≡ true) same q.3) (subst (λ c. below a c (lowest j) ≡ false) same q.4))
        p.2 (subst (λ c. holds c j ≡ true) same q.2)

    both_left : EndedLeft i → EndedLeft j → key i ≡ key j → i ≡ j
    both_left p q e =
        let same : q.0 ≡ p.0 = omega (arith, p.1, q.1) in
        let l = slice-lines a (lowest i) i (shows i m) in
        let k = slice-lines a (lowest j) j (shows j n) in
        one-row i.left
        (ends-once a unbroken p.0 (lowest i) (lowest j) p.3 p.4 (subst (λ c. a c (lowest j) ≡ false) same q.3) (subst (λ c. below a c (lowest j) ≡ true) same q.4))
        (lines_hold i.left i (omega arith) l) (lines_hold i.left j (omega (arith, p.2, q.2)) (omega (arith, p.2, q.2)))

    both_right : EndedRight i → EndedRight j → key i ≡ key j → i ≡ j
    both_right p q e =
        let same : q.0 ≡ p.0 = omega (arith, p.1, q.1) in
        let l = slice-lines a (lowest i) i (shows i m) in
        let k = slice-lines a (lowest j) j (shows j n) in
        one-row (i.right - 1)
        (ends-once a unbroken p.0 (lowest i) (lowest j) p.3 p.4 (subst (λ c. a c (lowest j) ≡ false) same q.3) (subst (λ c. below a c (lowest j) ≡ true) same q.4))
        (lines_hold (i.right - 1) i (omega arith) (omega arith)) (lines_hold (i.right - 1) j (omega (arith, p.2, q.2)) (omega (arith, p.2, q.2)))

    same_key : key i ≡ key j → i ≡ j
    same_key e = go (new i m) (new j n)
      where
        go : New i → New j → i ≡ j
        go (inl p) (inl q) = both_begin p q e
        go (inl p) (inr (inl q)) = absurd (omega (arith, p.1, q.1, e))
        go (inl p) (inr (inr q)) = absurd (omega (arith, p.1, q.1, e))
        go (inr (inl p)) (inl q) = absurd (omega (arith, p.1, q.1, e))
        go (inr (inl p)) (inr (inl q)) = both_left p q e
        go (inr (inl p)) (inr (inr q)) = absurd (omega (arith, p.1, q.1, e))
        go (inr (inr p)) (inl q) = absurd (omega (arith, p.1, q.1, e))
        go (inr (inr p)) (inr (inl q)) = absurd (omega (arith, p.1, q.1, e))
        go (inr (inr p)) (inr (inr q)) = both_right p q e

  ahead : (i j : Interval) → Before i j → i ≡ j → ⊥
  ahead i j b e =
      let l : i.left ≡ j.left = ap (λ (k : Interval). k.left) e in
      let r : i.right ≡ j.right = ap (λ (k : Interval). k.right) e in
      ⊎_elim (λ u. omega (arith, u, l)) (λ u. omega (arith, u, r)) b

  pub starting-few : length (starting a w h) ≤ 3 * w
  starting-few =
      let s = starting a w h in
      let apart =
      pairs_weaken Before (λ i j. key i ≡ key j → ⊥) s (λ i j k l b e. ahead i j b (same_key i j (in_member k) (in_member l) e))
      (listed_in_order w s (starting-listed a w h)) in
      places (length s) (3 * w) (λ k n. key (get_or s k (span 0 0)) ≡ n)
      (λ k l. (key (get_or s k (span 0 0)), key_below (get_or s k (span 0 0)) (in_member (in_at s (span 0 0) k l)), refl))
      (λ j k n l m d p q.
      by_cases (dec_lt j k) (λ u. pairs_at (λ i j. key i ≡ key j → ⊥) s apart (span 0 0) j k u m (p ∙ sym q))
      (λ u. pairs_at (λ i j. key i ≡ key j → ⊥) s apart (span 0 0) k j (omega arith) l (q ∙ sym p)))

-- of the area between columns' bottoms and ends
module _ (w : ℕ) (bottoms ends : List ℕ) where
  between-lines : (c y : ℕ) → between w bottoms ends c y ≡ true → (c < w) × (get_or bottoms c 0 ≤ y) × (y < get_or ends c 0)
  between-lines c y t =
      let two = and_left (ltb c w && leb (get_or bottoms c 0) y) (ltb y (get_or ends c 0)) t in (
        ltb-true c w (and_left (ltb c w) (leb (get_or bottoms c 0) y) two),
        leb-true (get_or bottoms c 0) y (and_right (ltb c w) (leb (get_or bottoms c 0) y) two),
        ltb-true y (get_or ends c 0) (and_right (ltb c w && leb (get_or bottoms c 0) y) (ltb y (get_or ends c 0)) t),
      )

  between-unbroken : Unbroken (between w bottoms ends)
  between-unbroken c low y high p q s t =
      let l = between-lines c low s in
      let u = between-lines c high t in
      and_both (ltb c w && leb (get_or bottoms c 0) y) (ltb y (get_or ends c 0))
      (and_both (ltb c w) (leb (get_or bottoms c 0) y) (lt-ltb c w l.0) (le-leb (get_or bottoms c 0) y (omega (arith, l))))
      (lt-ltb y (get_or ends c 0) (omega (arith, u)))

  pub between-few : (h : ℕ) → length (starting (between w bottoms ends) w h) ≤ 3 * w
  between-few h = starting-few (between w bottoms ends) w h (λ c y t. (between-lines c y t).0) between-unbroken
