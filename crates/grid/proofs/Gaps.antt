-- A column's lowest gap, found as the code finds it: b is its lowest copper row, e the next empty row, t the next copper row after that.
-- Below b there is no copper, from b up to e there is nothing else, and from e up to t there is none: so e is a gap if t is a row, and no other row can be lower.
-- `gap_row` uses it.
use mathlib.Core.Path.{◌≡◌, sym, ap, ◌∙◌}
use mathlib.Core.Bool.{true, false, not}
use mathlib.Core.Logic.{by_cases}
use mathlib.Core.Option.{Option, none, some}
use Prim.Native.Nat.{ℕ, suc, ◌-◌, ◌<◌}
use native.Mathlib.Decide.{dec_lt, ℕ_discrete}
use native.Mathlib.Omega.{arith}
use borrow.Author.Tests.{not-true, not-false}
use Rattle.lists.specs.Lists.{any, first, from, up_to}
use Rattle.lists.proofs.Truth.{bcase, never}
use Rattle.lists.proofs.Ranges.{first-from}
use Rattle.lists.proofs.Searches.{first-least, first-nowhere, first-within, first-missed, any-within, any-nowhere}
use Rattle.grid.specs.Squares.{Area}
use Rattle.grid.specs.Raster.{gap_at, gap}

-- a row that is copper, or has none below it, or none above it, is no gap
module _ (a : Area) (h c r : ℕ) where
  pub no_gap-copper : a c r ≡ true → gap_at a h c r ≡ false
  no_gap-copper t = rw t

  pub no_gap-below : ((y : ℕ) → y < r → a c y ≡ false) → gap_at a h c r ≡ false
  no_gap-below n =
      let f : any (a c) (up_to r) ≡ false = any-nowhere (a c) 0 r (λ y l u. n y (omega arith)) in
      bcase (a c r) (λ t. rw t) (λ e. rw (e, f))

  pub no_gap_above : ((y : ℕ) → r < y → y < h → a c y ≡ false) → gap_at a h c r ≡ false
  no_gap_above n =
      let f : any (a c) (from (suc r) (h - suc r)) ≡ false = any-nowhere (a c) (suc r) (h - suc r) (λ y l u. n y l (omega arith)) in
      bcase (a c r) (λ t. rw t) (λ e. bcase (any (a c) (up_to r)) (λ u. rw (e, u, f)) (λ u. rw (e, u)))

  pub is-gap : (y z : ℕ) → y < r → r < z → z < h → a c y ≡ true → a c r ≡ false → a c z ≡ true → gap_at a h c r ≡ true
  is-gap y z l u v below here above =
      rw (
        here,
        any-within (a c) 0 r y (omega arith) (omega arith) below,
        any-within (a c) (suc r) (h - suc r) z (omega arith) (omega arith) above,
      )

-- the code's three searches, one from where the other ended
abbrev pub rise : Area → ℕ → ℕ → ℕ → Option ℕ
rise a h c f = first (a c) (from f (h - f))

abbrev pub fall : Area → ℕ → ℕ → ℕ → Option ℕ
fall a h c f = first (λ k. not (a c k)) (from f (h - f))

module _ (a : Area) (h c : ℕ) where
  -- no copper at all
  pub gap-bare : rise a h c 0 ≡ none → gap a h c ≡ none
  unfolding gap
  gap-bare B =
      first-nowhere (gap_at a h c) 0 h
      (λ r l v. no_gap-below a h c r (λ y u. first-missed (a c) 0 (h - 0) B y (omega arith) (omega arith)))

  module _ {b : ℕ} (B : rise a h c 0 ≡ some b) where
    -- no row below the lowest copper is a gap, and none of the copper from there on
    below-bottom : (r : ℕ) → r < b → gap_at a h c r ≡ false
    below-bottom r l = no_gap-below a h c r (λ y v. first-from (a c) 0 (h - 0) B y (omega arith) (omega arith))

    pub gap-filled : fall a h c b ≡ none → gap a h c ≡ none
    unfolding gap
    gap-filled E =
        first-nowhere (gap_at a h c) 0 h
        (λ r l v.
        by_cases (dec_lt r b) (below-bottom r)
        (λ u. no_gap-copper a h c r (not-false (a c r) (first-missed (λ k. not (a c k)) b (h - b) E r (omega arith) (omega arith)))))

    module _ {e : ℕ} (E : fall a h c b ≡ some e) where
      -- no row below e is a gap
      lower : (r : ℕ) → r < e → gap_at a h c r ≡ false
      lower r l =
          by_cases (dec_lt r b) (below-bottom r)
          (λ u. no_gap-copper a h c r (not-false (a c r) (first-from (λ k. not (a c k)) b (h - b) E r (omega arith) l)))

      pub gap-edge : {t : ℕ} → rise a h c e ≡ some t → gap a h c ≡ some e
      unfolding gap
      gap-edge {t} T =
          let bottom = first-within (a c) 0 (h - 0) B in
          let edge = first-within (λ k. not (a c k)) b (h - b) E in
          let top = first-within (a c) e (h - e) T in
          let here : a c e ≡ false = not-true (a c e) edge.2 in
          let b≢e : b < e = by_cases (ℕ_discrete b e) (λ q. absurd (never bottom.2 (ap (a c) q ∙ here))) (λ d. omega arith) in
          let e≢t : e < t = by_cases (ℕ_discrete e t) (λ q. absurd (never top.2 (sym (ap (a c) q) ∙ here))) (λ d. omega arith) in
          first-least (gap_at a h c) 0 h e (omega arith) (omega arith) (is-gap a h c e b t b≢e e≢t (omega arith) bottom.2 here top.2) (λ y l v. lower y v)

      pub gap_open : rise a h c e ≡ none → gap a h c ≡ none
      unfolding gap
      gap_open T =
          first-nowhere (gap_at a h c) 0 h
          (λ r l v.
          by_cases (dec_lt r e) (lower r)
          (λ w. no_gap_above a h c r (λ y m n. first-missed (a c) e (h - e) T y (omega arith) (omega arith))))
