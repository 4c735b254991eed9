-- The starting set from bottoms and ends: a slice with no change in it or beside it the row below shows too, so that each row adds its changed slices alone.
-- What changes in a row is where columns begin and end; of an unbroken area's bottoms and ends the area itself comes back. `starting` and the cover use it.
use mathlib.Core.Path.{◌≡◌, refl, sym, ap, ap₂, subst, ◌∙◌, fun_ext}
use mathlib.Core.Bool.{Bool, true, false, not, ◌&&◌, ◌||◌, and-false, or-true}
use mathlib.Core.List.{List, []}
use mathlib.Core.Logic.{by_cases}
use Prim.Native.Nat.{ℕ, zero, suc, ◌+◌, ◌-◌, ◌≤◌, ◌<◌}
use native.Mathlib.Omega.{arith}
use native.Mathlib.Decide.{dec_le, dec_lt, ℕ_discrete}
use native.Mathlib.Numerals.{add-one}
use lib.Dec.{leb, ltb, eqb}
use lib.ListN.{get_or}
use borrow.Author.Tests.{lt-ltb, le-ltb, ltb-true, le-leb, lt-leb, leb-true, eq-eqb, ne_eqb}
use Rattle.lists.specs.Lists.{any}
use Rattle.lists.proofs.Truth.{bcase, ocase, never, fails, agree, and_left, and_right, and_both}
use Rattle.lists.proofs.Searches.{any-within, down-within}
use Rattle.lists.proofs.Keep.{keep-none}
use Rattle.method.specs.Intervals.{Interval, proper, member, columns, every}
use Rattle.method.proofs.Lines.{lines-proper, lines_hold}
use Rattle.method.proofs.Listed.{member-select, select-same}
use Rattle.grid.specs.Limits.{side}
use Rattle.grid.specs.Raster.{top_of}
use Rattle.grid.specs.Squares.{Area, InGrid, Unbroken}
use Rattle.words.specs.Words.{on, Bits}
use Rattle.words.proofs.Words.{on-zero}
use Rattle.columns.specs.Columns.{Reached, Upright, past, end_at}
use Rattle.columns.proofs.ColumnRows.{row-between, between-row}
use Rattle.columns.proofs.ColumnCounts.{upright}
use Rattle.intervals.specs.Table.{set_of, table_of}
use Rattle.intervals.proofs.TableLaws.{left_as}
use Rattle.cover.specs.Slices.{ends_left, ends_right, copper_along, slice, shown, starting}
use Rattle.cover.specs.Code.{Columned, Sheeted, between, differ, changing, beside, with_changed}
use Rattle.cover.proofs.Shown.{shown_by, shown-row}
use Rattle.cover.proofs.Starting.{starting-listed}
use Rattle.cover.proofs.SliceLaws.{slice-lines, slice-left, slice_right, slice-copper, lines-slice, copper-along}

-- the table of the starting set
module _ (a : Area) (w h : ℕ) (fits : w ≤ side) {t : List ℕ} (q : t ≡ table_of (starting a w h)) where
  pub starting-set : set_of w t ≡ starting a w h
  starting-set = (left_as w (starting a w h) fits (starting-listed a w h) q).1

-- the row below row y; below row 0 nothing is copper
unfoldable pub row_below : Area → ℕ → ℕ → Bool
row_below a zero c = false
row_below a (suc y) c = a c y

differ_same : (a b : Bool) → differ a b ≡ false → a ≡ b
differ_same true true d = refl
differ_same true false d = d
differ_same false b d = sym d

differ-twice : (a b : Bool) → differ a (differ a b) ≡ b
differ-twice true true = refl
differ-twice true false = refl
differ-twice false b = refl

-- a column that begins in row 0, or does not; one that goes on to row y + 1, begins there or ends there
begins : (b e : ℕ) → b ≤ e → differ (eqb b 0) (eqb e 0) ≡ (leb b 0 && ltb 0 e)
begins b e u =
    by_cases (ℕ_discrete e 0)
    (λ q. let p : b ≡ 0 = omega arith in rw (eq-eqb e 0 q, eq-eqb b 0 p, le-ltb 0 e (omega arith), and-false (leb b 0)))
    (λ q.
    by_cases (ℕ_discrete b 0)
    (λ p. rw (ne_eqb e 0 q, eq-eqb b 0 p, lt-ltb 0 e (omega arith), le-leb b 0 (omega arith)))
    (λ p. rw (ne_eqb e 0 q, ne_eqb b 0 p, lt-leb b 0 (omega arith))))

goes : (y b e : ℕ) → b ≤ e → differ (eqb b (suc y)) (eqb e (suc y)) ≡ differ (leb b y && ltb y e) (leb b (suc y) && ltb (suc y) e)
goes y b e u =
    by_cases (ℕ_discrete e (suc y))
    (λ q.
    by_cases (ℕ_discrete b (suc y))
    (λ p. rw (eq-eqb e (suc y) q, eq-eqb b (suc y) p, lt-leb b y (omega arith), le-ltb (suc y) e (omega arith), and-false (leb b (suc y))))
    (λ p. rw (eq-eqb e (suc y) q, ne_eqb b (suc y) p, le-leb b y (omega arith), lt-ltb y e (omega arith), le-ltb (suc y) e (omega arith), and-false (leb b (suc y)))))
    (λ q.
    by_cases (ℕ_discrete b (suc y))
    (λ p. rw (ne_eqb e (suc y) q, eq-eqb b (suc y) p, lt-leb b y (omega arith), le-leb b (suc y) (omega arith), lt-ltb (suc y) e (omega arith)))
    (λ p.
    by_cases (dec_le b y)
    (λ l.
    by_cases (dec_lt y e)
    (λ r. rw (ne_eqb e (suc y) q, ne_eqb b (suc y) p, le-leb b y l, le-leb b (suc y) (omega arith), lt-ltb y e r, lt-ltb (suc y) e (omega arith)))
    (λ r. rw (ne_eqb e (suc y) q, ne_eqb b (suc y) p, le-leb b y l, le-leb b (suc y) (omega arith), le-ltb y e (omega arith), le-ltb (suc y) e (omega arith))))
    (λ l. rw (ne_eqb e (suc y) q, ne_eqb b (suc y) p, lt-leb b y (omega arith), lt-leb b (suc y) (omega arith)))))

-- one row more
shown-next : (a : Area) (y : ℕ) (i : Interval) → shown a (y + 1) i ≡ (shown a y i || slice a y i)
shown-next a y i =
    agree (shown a (y + 1) i) (shown a y i || slice a y i)
    (λ t.
    let r = shown-row a (y + 1) i t in
    by_cases (ℕ_discrete r.0 y)
    (λ e. rw (sym (ap (λ z. slice a z i) e) ∙ r.2) (or-true (shown a y i)))
    (λ e. rw (shown_by a y i r.0 (omega arith) r.2)))
    (λ t.
    bcase (shown a y i)
    (λ s. let r = shown-row a y i s in shown_by a (y + 1) i r.0 (omega arith) r.2)
    (λ s. shown_by a (y + 1) i y (omega arith) (rw s at t)))

-- a slice whose squares, and those beside it, are as in the row below is shown there too; in row 0 there is none
below-shown : (a : Area) (y : ℕ) (i : Interval) → slice a y i ≡ true → ((c : ℕ) → i.left ≤ c + 1 → c ≤ i.right → row_below a y c ≡ a c y) → shown a y i ≡ true
unfolding row_below ends_left
below-shown a zero i here as_below =
    let p = slice-lines a 0 i here in
    absurd (never (slice-copper a 0 i here i.left (lines_hold i.left i (omega arith) p)) (sym (as_below i.left (omega arith) (omega arith))))
below-shown a (suc y) i here as_below =
    let p = slice-lines a (suc y) i here in
    shown_by a (suc y) i y (omega arith)
    (lines-slice a y i p
    (copper-along a y i (λ c l r. as_below c (omega arith) (omega arith) ∙ slice-copper a (suc y) i here c (lines_hold c i l r)))
    (ends i.left refl)
    (as_below i.right (omega arith) (omega arith) ∙ slice_right a (suc y) i here))
  where
    ends : (l : ℕ) → l ≡ i.left → ends_left a y l ≡ true
    ends zero e = refl
    ends (suc c) e = let p = slice-lines a (suc y) i here in ap not (as_below c (omega arith) (omega arith) ∙ slice-left a (suc y) i here c e)

member-starting : (a : Area) (w h : ℕ) (i : Interval) → i.left < i.right → i.right ≤ w → member i (starting a w h) ≡ shown a h i
unfolding starting
member-starting a w h i l r = member-select w (shown a h) i ∙ rw (lines-proper i l, le-leb i.right w r)

-- a slice by the row alone
row_ends : (a : Area) (y l : ℕ) → ends_left (λ c z. a c y) 0 l ≡ ends_left a y l
unfolding ends_left
row_ends a y zero = refl
row_ends a y (suc c) = refl

row-slice : (a : Area) (y : ℕ) (i : Interval) → slice (λ c z. a c y) 0 i ≡ slice a y i
unfolding slice copper_along ends_right
row-slice a y i = ap (λ b. proper i && copper_along a y i && b && ends_right a y i.right) (row_ends a y i.left)

-- a slice with no change in it or beside it is shown below
module _ (a : Area) (y : ℕ) (changed : ℕ → Bool) (told : (c : ℕ) → changed c ≡ differ (row_below a y c) (a c y)) where
  as_below : (c : ℕ) → changed c ≡ false → row_below a y c ≡ a c y
  as_below c d = differ_same (row_below a y c) (a c y) (sym (told c) ∙ d)

  module _ (i : Interval) (here : slice a y i ≡ true) (calm : any (beside changed) (columns i) ≡ false) where
    -- no column from the one before the slice to the one after it changes
    quiet : (c : ℕ) → i.left ≤ c + 1 → c ≤ i.right → changed c ≡ false
    quiet c l r =
        let p = slice-lines a y i here in
        fails (changed c)
        (λ t.
        let from-here : (x : ℕ) → i.left ≤ x → x < i.right → beside changed x ≡ true → ⊥ =
        λ x u v h. never (any-within (beside changed) i.left (i.right - i.left) x u (omega arith) h) calm in
        by_cases (dec_lt c i.left)
        (λ z.
        let e : c ≡ i.left - 1 = omega arith in
        let b : (changed i.left || changed (i.left + 1) || (ltb 0 i.left && changed (i.left - 1))) ≡ true =
        rw (lt-ltb 0 i.left (omega arith), sym (ap changed e) ∙ t) (or-true (changed i.left || changed (i.left + 1))) in
        from-here i.left (omega arith) p b)
        (λ z.
        by_cases (dec_lt c i.right)
        (λ u. from-here c (omega arith) u (rw t))
        (λ u.
        let e : c ≡ i.right - 1 + 1 = omega arith in
        from-here (i.right - 1) (omega arith) (omega arith) (rw (sym (ap changed e) ∙ t, or-true (changed (i.right - 1)))))))

    same-below : (c : ℕ) → i.left ≤ c + 1 → c ≤ i.right → row_below a y c ≡ a c y
    same-below c l r = as_below c (quiet c l r)

  pub starting-changed : (w : ℕ) → with_changed w (λ c. a c y) changed (starting a w y) ≡ starting a w (y + 1)
  unfolding starting
  starting-changed w =
      select-same w (λ i. member i (starting a w y) || (slice (λ c z. a c y) 0 i && any (beside changed) (columns i))) (shown a (y + 1))
      (λ i l r.
      rw (member-starting a w y i l r, row-slice a y i)
      (bcase (slice a y i)
      (λ s.
      bcase (any (beside changed) (columns i))
      (λ t. rw (s, t) (sym (shown-next a y i ∙ rw s)))
      (λ t. let u = below-shown a y i s (same-below i s t) in rw (s, t, u) (sym (shown-next a y i ∙ rw u))))
      (λ s. rw s (sym (shown-next a y i ∙ rw s)))))

-- what changes where columns begin and end
module _ (w : ℕ) (bottoms ends : List ℕ) (upright : Upright w bottoms ends) where
  pub changing-rows : (y c : ℕ) → changing w bottoms ends y c ≡ differ (row_below (between w bottoms ends) y c) (between w bottoms ends c y)
  unfolding row_below
  changing-rows zero c =
      by_cases (dec_lt c w)
      (λ l. rw (lt-ltb c w l) (begins (get_or bottoms c 0) (get_or ends c 0) (upright c l)))
      (λ l. rw (le-ltb c w (omega arith)))
  changing-rows (suc y) c =
      by_cases (dec_lt c w)
      (λ l. rw (lt-ltb c w l) (goes y (get_or bottoms c 0) (get_or ends c 0) (upright c l)))
      (λ l. rw (le-ltb c w (omega arith)))

  -- the row as the code carries it on
  pub row_next : (y c : ℕ) → differ (row_below (between w bottoms ends) y c) (changing w bottoms ends y c) ≡ row_below (between w bottoms ends) (y + 1) c
  unfolding row_below
  row_next y c = rw (add-one y, changing-rows y c) (differ-twice (row_below (between w bottoms ends) y c) (between w bottoms ends c y))

-- one row as the code takes it: its word from the row below and what changes, and its changed slices into the table
module _ (w : ℕ) (bottoms ends : List ℕ) (y row change row' : ℕ) (upright : Upright w bottoms ends) (fits : w ≤ side) (below : Bits row (row_below (between w bottoms ends) y))
    (told : Bits change (changing w bottoms ends y)) (new : Bits row' (λ c. differ (on row c) (on change c))) where
  pub row_on : Bits row' (row_below (between w bottoms ends) (y + 1))
  row_on c = new c ∙ ap₂ differ (below c) (told c) ∙ row_next w bottoms ends upright y c

  row_here : (c : ℕ) → on row' c ≡ between w bottoms ends c y
  unfolding row_below
  row_here c = row_on c ∙ rw (add-one y)

  pub row-bare : on row' w ≡ false
  row-bare = row_here w ∙ rw (le-ltb w w (omega arith))

  pub row_put : {t : List ℕ} → t ≡ table_of (starting (between w bottoms ends) w y)
      → table_of (with_changed w (on row') (on change) (set_of w t)) ≡ table_of (starting (between w bottoms ends) w (y + 1))
  row_put {t} q =
      ap (λ f. table_of (with_changed w f (on change) (set_of w t))) (fun_ext row_here)
      ∙ ap (λ s. table_of (with_changed w (λ c. between w bottoms ends c y) (on change) s)) (starting-set (between w bottoms ends) w y fits q)
      ∙ ap table_of (starting-changed (between w bottoms ends) y (on change) (λ c. told c ∙ changing-rows w bottoms ends upright y c) w)

-- before the first row nothing is copper, and nothing is shown
pub row-none : (a : Area) → Bits 0 (row_below a 0)
unfolding row_below
row-none a c = on-zero c

pub no_row : (a : Area) (w : ℕ) → [] ≡ starting a w 0
unfolding starting shown
no_row a w = sym (keep-none (shown a 0) (every w) (λ i m. refl))

-- an unbroken area is the one between its bottoms and ends
pub area-between : (a : Area) (w h : ℕ) → InGrid w h a → Unbroken a → {bottoms ends : List ℕ} → Reached a w h bottoms ends → a ≡ between w bottoms ends
area-between a w h grid unbroken {bottoms} {ends} R =
    fun_ext
    (λ c. fun_ext
    (λ y.
    agree (a c y) (between w bottoms ends c y)
    (λ t.
    let g = grid c y t in
    let b = row-between a h c y g.1 t in
    let l = R.low c g.0 in
    let u = R.high c g.0 in
    and_both (ltb c w && leb (get_or bottoms c 0) y) (ltb y (get_or ends c 0))
    (and_both (ltb c w) (leb (get_or bottoms c 0) y) (lt-ltb c w g.0) (le-leb (get_or bottoms c 0) y (omega arith)))
    (lt-ltb y (get_or ends c 0) (omega arith)))
    (λ t.
    let b = and_left (ltb c w && leb (get_or bottoms c 0) y) (ltb y (get_or ends c 0)) t in
    let l = ltb-true c w (and_left (ltb c w) (leb (get_or bottoms c 0) y) b) in
    let p = leb-true (get_or bottoms c 0) y (and_right (ltb c w) (leb (get_or bottoms c 0) y) b) in
    let q = ltb-true y (get_or ends c 0) (and_right (ltb c w && leb (get_or bottoms c 0) y) (ltb y (get_or ends c 0)) t) in
    let d = R.low c l in
    let u = R.high c l in
    between-row a h c unbroken y (omega arith) (omega arith))))

end_in : (a : Area) (h c : ℕ) → end_at a h c ≤ h
unfolding top_of
end_in a h c =
    ocase (top_of a h c)
    (λ n. omega (arith, ap past n))
    (λ t q. let r = down-within (a c) h q in omega (arith, ap past q))

-- and these stand within the largest grid
pub reached-columned : (a : Area) (w h : ℕ) → w ≤ side → h ≤ side → Unbroken a → {bottoms ends : List ℕ} → Reached a w h bottoms ends → Columned w bottoms ends
reached-columned a w h narrow low unbroken {bottoms} {ends} R = record {
  narrow = narrow;
  low-long = R.low-long;
  high-long = R.high-long;
  upright = upright a unbroken h w R;
  low = λ c l. omega (arith, R.high c l, end_in a h c);
}

-- of an unbroken area they make a sheet
pub columns-sheet : (a : Area) (w h : ℕ) → w ≤ side → h ≤ side → InGrid w h a → Unbroken a → {bottoms ends : List ℕ} → Reached a w h bottoms ends → Sheeted w h bottoms ends
columns-sheet a w h narrow low grid unbroken {bottoms} {ends} R =
    let same = area-between a w h grid unbroken R in
    record { narrow = narrow; low = low; unbroken = subst Unbroken same unbroken; reached = subst (λ z. Reached z w h bottoms ends) same R }

-- a sheet's columns stand within the largest grid
pub columned : (w h : ℕ) (bottoms ends : List ℕ) → Sheeted w h bottoms ends → Columned w bottoms ends
columned w h bottoms ends S = reached-columned (between w bottoms ends) w h S.narrow S.low S.unbroken S.reached

-- and their copper lies in their grid
pub columns-grid : (w h : ℕ) (bottoms ends : List ℕ) → Sheeted w h bottoms ends → InGrid w h (between w bottoms ends)
columns-grid w h bottoms ends S c y t =
    let l = ltb-true c w (and_left (ltb c w) (leb (get_or bottoms c 0) y) (and_left (ltb c w && leb (get_or bottoms c 0) y) (ltb y (get_or ends c 0)) t)) in
    let u = ltb-true y (get_or ends c 0) (and_right (ltb c w && leb (get_or bottoms c 0) y) (ltb y (get_or ends c 0)) t) in
    (l, omega (arith, S.reached.high c l, end_in (between w bottoms ends) h c))
