-- In an area of unbroken columns the rows that are copper in each of some columns are one run, from the greatest bottom to the least top.
-- A column is copper exactly from its bottom to its top, so a row is copper in all of them exactly where it lies above every bottom and below every top.
-- A loop that takes bottoms and tops column by column finds the lowest and the highest of these rows (rule 6).
use mathlib.Core.Path.{◌≡◌, refl, sym, ap, ◌∙◌}
use mathlib.Core.Bool.{Bool, true}
use mathlib.Core.List.{List, [], ◌∷◌}
use mathlib.Core.Logic.{by_cases, ◌↔◌}
use mathlib.Core.Option.{some}
use Prim.Native.Nat.{ℕ, suc, ◌+◌, ◌-◌, ◌≤◌, ◌<◌, min, max}
use native.Mathlib.Decide.{ℕ_discrete, dec_le}
use native.Mathlib.Numerals.{add-one}
use native.Mathlib.Omega.{arith}
use Rattle.lists.specs.Lists.{all, first, from, up_to, down}
use Rattle.lists.proofs.Truth.{ocase, never, fails, and_left, and_right, and_both}
use Rattle.lists.proofs.Ranges.{first-from}
use Rattle.lists.proofs.Searches.{first-within, first-missed, first-least, down-within, down-missed, down_above, down-greatest}
use Rattle.grid.specs.Squares.{Area, Unbroken}
use Rattle.grid.specs.Raster.{bottom_of, top_of}
use Rattle.grid.specs.Code.{or_end}

-- a column's lowest and highest copper row as the code has them, h where there is none
abbrev pub bottom_row : Area → ℕ → ℕ → ℕ
bottom_row a h c = or_end h (bottom_of a h c)

abbrev pub top_row : Area → ℕ → ℕ → ℕ
top_row a h c = or_end h (top_of a h c)

unfoldable pub greatest_bottom : Area → ℕ → List ℕ → ℕ
greatest_bottom a h [] = 0
greatest_bottom a h (c ∷ cs) = max (bottom_row a h c) (greatest_bottom a h cs)

unfoldable pub least_top : Area → ℕ → List ℕ → ℕ
least_top a h [] = h
least_top a h (c ∷ cs) = min (top_row a h c) (least_top a h cs)

-- a row that is copper in each of the columns
abbrev pub copper_in : Area → List ℕ → ℕ → Bool
copper_in a cs r = all (λ c. a c r) cs

-- where there is a lowest copper row, there is a highest
pub top_too : (a : Area) (h c : ℕ) {b : ℕ} → bottom_of a h c ≡ some b → (t : ℕ) × (top_of a h c ≡ some t)
unfolding bottom_of top_of
top_too a h c {b} e =
    let r = first-within (a c) 0 h e in
    ocase (top_of a h c) (λ n. absurd (never r.2 (down-missed (a c) h n b (omega arith)))) (λ t q. (t, q))

module _ (a : Area) (h : ℕ) (unbroken : Unbroken a) where
  -- unbroken, the ends included
  pub between : (c below r above : ℕ) → below ≤ r → r ≤ above → a c below ≡ true → a c above ≡ true → a c r ≡ true
  between c below r above l u p q =
      by_cases (ℕ_discrete below r) (λ e. ap (a c) (sym e) ∙ p)
      (λ d. by_cases (ℕ_discrete r above) (λ e. ap (a c) e ∙ q) (λ k. unbroken c below r above (omega arith) (omega arith) p q))

  -- a column is copper from its bottom to its top
  pub column-run : (c r : ℕ) → r < h → (a c r ≡ true) ↔ ((bottom_row a h c ≤ r) × (r ≤ top_row a h c))
  unfolding bottom_of top_of
  column-run c r l =
      ocase (first (a c) (up_to h))
      (λ n. (
        λ t. absurd (never t (first-missed (a c) 0 h n r (omega arith) (omega arith))),
        λ k. absurd (omega (arith, ap (or_end h) n)),
      ))
      (λ b e.
      let f = top_too a h c e in
      let low = first-within (a c) 0 h e in
      let high = down-within (a c) h f.1 in
      let bottom : bottom_row a h c ≡ b = ap (or_end h) e in
      let top : top_row a h c ≡ f.0 = ap (or_end h) f.1 in (
        λ t.
            let p : b ≤ r = by_cases (dec_le b r) (λ z. z) (λ z. absurd (never t (first-from (a c) 0 h e r (omega arith) (omega arith)))) in
            let q : r ≤ f.0 = by_cases (dec_le r f.0) (λ z. z) (λ z. absurd (never t (down_above (a c) h f.1 r (omega arith) l))) in
            omega arith,
        λ k. between c b r f.0 (omega arith) (omega arith) low.2 high.1,
      ))

  -- the rows that are copper in each of the columns are one run
  pub run : (cs : List ℕ) (r : ℕ) → r < h → (copper_in a cs r ≡ true) ↔ ((greatest_bottom a h cs ≤ r) × (r ≤ least_top a h cs))
  unfolding greatest_bottom least_top
  run [] r l = (λ t. omega arith, λ k. refl)
  run (c ∷ cs) r l =
      let one = column-run c r l in
      let rest = run cs r l in (
        λ t.
            let p = one.0 (and_left (a c r) (copper_in a cs r) t) in
            let q = rest.0 (and_right (a c r) (copper_in a cs r) t) in
            omega arith,
        λ k. and_both (a c r) (copper_in a cs r) (one.1 (omega arith)) (rest.1 (omega arith)),
      )

  -- with a row that is copper in all of them: the lowest such row is the greatest bottom, the highest the least top
  module _ (c : ℕ) (cs : List ℕ) (r : ℕ) (l : r < h) (t : copper_in a (c ∷ cs) r ≡ true) where
    pub top_below : least_top a h (c ∷ cs) < h
    unfolding least_top top_of
    top_below =
        ocase (first (a c) (down h))
        (λ n. absurd (never (and_left (a c r) (copper_in a cs r) t) (down-missed (a c) h n r l)))
        (λ y e. let q : top_row a h c ≡ y = ap (or_end h) e in omega (arith, down-within (a c) h e))

    pub run-lowest : first (copper_in a (c ∷ cs)) (up_to h) ≡ some (greatest_bottom a h (c ∷ cs))
    run-lowest =
        let b = greatest_bottom a h (c ∷ cs) in
        let k = (run (c ∷ cs) r l).0 t in
        first-least (copper_in a (c ∷ cs)) 0 h b (omega arith) (omega arith) ((run (c ∷ cs) b (omega arith)).1 (omega arith))
        (λ y z u. fails (copper_in a (c ∷ cs) y) (λ x. let m = (run (c ∷ cs) y (omega arith)).0 x in omega arith))

    pub run_highest : first (copper_in a (c ∷ cs)) (down h) ≡ some (least_top a h (c ∷ cs))
    run_highest =
        let y = least_top a h (c ∷ cs) in
        let k = (run (c ∷ cs) r l).0 t in
        let below = top_below in
        down-greatest (copper_in a (c ∷ cs)) h y below ((run (c ∷ cs) y below).1 (omega arith))
        (λ z u v. fails (copper_in a (c ∷ cs) z) (λ x. let m = (run (c ∷ cs) z v).0 x in omega arith))

-- a loop over the columns from c up to and without e, with the greatest bottom and the least top so far
module _ (a : Area) (h c e so_far : ℕ) where
  pub bottom-on : c < e
      → max so_far (greatest_bottom a h (from c (e - c))) ≡ max (max so_far (bottom_row a h c)) (greatest_bottom a h (from (c + 1) (e - (c + 1))))
  unfolding greatest_bottom
  bottom-on l = let q : e - c ≡ suc (e - suc c) = omega arith in rw (add-one c, q) (omega arith)

  pub bottom-end : e ≤ c → max so_far (greatest_bottom a h (from c (e - c))) ≡ so_far
  unfolding greatest_bottom
  bottom-end l = let q : e - c ≡ 0 = omega arith in rw q (omega arith)

  pub top-on : c < e
      → min so_far (least_top a h (from c (e - c))) ≡ min (min so_far (top_row a h c)) (least_top a h (from (c + 1) (e - (c + 1))))
  unfolding least_top
  top-on l = let q : e - c ≡ suc (e - suc c) = omega arith in rw (add-one c, q) (omega arith)

  pub top-end : e ≤ c → so_far ≤ h → min so_far (least_top a h (from c (e - c))) ≡ so_far
  unfolding least_top
  top-end l k = let q : e - c ≡ 0 = omega arith in rw q (omega arith)
