-- Two different minimal brackets commute (000, lemma 4.3): whichever is reduced first, the same set comes out.
-- By the identity of a place it is enough that the four staircases agree as pairs, and those are known by the boxes beyond each line.
-- So all runs from a set meet again, and the final set does not depend on the order.
use mathlib.Core.Logic.{by_cases, ⊎_elim}
use mathlib.Core.Path.{◌≡◌, sym, ap, ◌∙◌}
use Prim.Native.Nat.{ℕ, zero, suc, min, ◌+◌, ◌≤◌, ◌<◌}
use native.Mathlib.Decide.{dec_le, dec_lt}
use native.Mathlib.Omega.{arith}
use Rattle.method.proofs.Sets.{Set, K, Prefix, Minimal, e, red}
use Rattle.method.proofs.Boxes.{bit-same, K-rows, K-lines, K-same}
use Rattle.method.proofs.Staircase.{e-low, e-within, e-keeps-up}
use Rattle.method.proofs.Star.{red-before, red-beyond, red_improper, delta, beyond, beyond_yes, beyond_no, beyond-delta, beyond-same, e-beyond, star-place, star}
use Rattle.method.proofs.Disturb.{minimal_prefix, crossing, red-keeps-minimal}

-- α, U and β count the box before row c, the shared box and the box beyond line b
tally : (α U β k m k' m' : ℕ) → k ≡ α + U → m ≡ U + β → m' + min 1 k ≡ m + min 1 α → k' + min 1 m ≡ k + min 1 β
    → min 1 k + min 1 m' ≡ min 1 m + min 1 k'
tally α U β k m k' m' h1 h2 h3 h4 = omega arith

module _ {S : Set} {a b c d : ℕ} (M : Minimal S a b) (O : Minimal S c d) (left : a < c) (right : b < d) where
  -- the second bracket after the first, and the first after the second
  second : Prefix (red S a b) c d
  second = minimal_prefix (red-keeps-minimal M O (λ z. omega arith))

  first : Prefix (red S c d) a b
  first = minimal_prefix (red-keeps-minimal O M (λ z. omega arith))

  -- each staircase of a step lies beyond line q in the one order as in the other
  Exchange : ℕ → ℕ → Type 0
  Exchange p q =
      beyond (e S a b p) q + beyond (e (red S a b) c d p) q ≡ beyond (e S c d p) q + beyond (e (red S c d) a b p) q

  shared : (p q : ℕ) → c < p → p ≤ q → q < b → Exchange p q
  unfolding Exchange
  shared p q low over under =
      let ab : a ≤ b = omega arith in
      let cd : c ≤ d = omega arith in
      let start = e-low S c d a (omega arith) in
      let k = e-beyond S a b p q ab (omega arith) in
      let k' = e-beyond (red S c d) a b p q ab (omega arith) in
      let m = e-beyond S c d p q cd (omega arith) in
      let m' = e-beyond (red S a b) c d p q cd (omega arith) in
      let t = tally (K S a c q b) (K S c p q b) (K S c p b d) (K S a p q b) (K S c p q d) (K (red S c d) a p q b) (K (red S a b) c p q d)
      (K-rows S a c p q b (omega arith) (omega arith)) (K-lines S c p q b d (omega arith) (omega arith))
      (omega (
        arith,
        star (minimal_prefix M) c p q d (omega arith),
        e-beyond S a b c q ab (omega arith),
        beyond_no (e S a b c) d (omega (arith, e-within S a b ab c)),
        beyond_no (e S a b p) d (omega (arith, e-within S a b ab p)),
      ))
      (omega (
        arith,
        star (minimal_prefix O) a p q b (omega arith),
        e-beyond S c d p b cd (omega arith),
        beyond_no (e S c d a) q (omega arith),
        beyond_no (e S c d a) b (omega arith),
      )) in
      omega arith

  exchange : (p q : ℕ) → Exchange p q
  unfolding Exchange
  exchange p q =
      let ab : a < b = M.dep.proper in
      let cd : c < d = O.dep.proper in
      by_cases (dec_le p c)
      (λ h. omega (
        arith,
        ap (λ v. beyond v q) (e-low S c d p h ∙ sym (e-low (red S a b) c d p h)),
        beyond-same (red S c d) S a b p q (omega arith) (K-same (red S c d) S a p q b (λ l r i. red-before S c d l r (omega arith))),
      ))
      (λ h. by_cases (dec_le b q)
      (λ k. omega (
        arith,
        beyond_no (e S a b p) q (omega (arith, e-within S a b (omega arith) p)),
        beyond_no (e (red S c d) a b p) q (omega (arith, e-within (red S c d) a b (omega arith) p)),
        beyond-same (red S a b) S c d p q (omega arith) (K-same (red S a b) S c p q d (λ l r i. red-beyond S a b l r (omega arith))),
      ))
      (λ k. by_cases (dec_le p q) (λ z. shared p q (omega arith) z (omega arith))
      (λ z. omega (
        arith,
        beyond_yes (e S a b p) q (omega (arith, e-keeps-up S a b M.dep p (omega arith))),
        beyond_yes (e (red S a b) c d p) q (omega (arith, e-keeps-up (red S a b) c d second.dep p (omega arith))),
        beyond_yes (e S c d p) q (omega (arith, e-keeps-up S c d O.dep p (omega arith))),
        beyond_yes (e (red S c d) a b p) q (omega (arith, e-keeps-up (red S c d) a b first.dep p (omega arith))),
      ))))

  exchange-line : (p q : ℕ)
      → delta (e S a b p) (suc q) + delta (e (red S a b) c d p) (suc q) ≡ delta (e S c d p) (suc q) + delta (e (red S c d) a b p) (suc q)
  unfolding Exchange
  exchange-line p q =
      omega (
        arith,
        exchange p q,
        exchange p (suc q),
        beyond-delta (e S a b p) q,
        beyond-delta (e (red S a b) c d p) q,
        beyond-delta (e S c d p) q,
        beyond-delta (e (red S c d) a b p) q,
      )

  -- on and left of the diagonal nothing changes at all
  diagonal : (l r : ℕ) → r ≤ l → red (red S a b) c d l r ≡ red (red S c d) a b l r
  diagonal l r h =
      red_improper (red S a b) c d l r second.dep h ∙ red_improper S a b l r M.dep h
      ∙ sym (red_improper (red S c d) a b l r first.dep h ∙ red_improper S c d l r O.dep h)

  in_order : (l r : ℕ) → red (red S a b) c d l r ≡ red (red S c d) a b l r
  in_order l zero = diagonal l zero (omega arith)
  in_order l (suc q) =
      by_cases (dec_lt q l) (diagonal l (suc q))
      (λ h. bit-same (red (red S a b) c d l (suc q)) (red (red S c d) a b l (suc q))
      (omega (
        arith,
        exchange-line l q,
        exchange-line (suc l) q,
        star-place (minimal_prefix M) l (suc q) (omega arith),
        star-place second l (suc q) (omega arith),
        star-place (minimal_prefix O) l (suc q) (omega arith),
        star-place first l (suc q) (omega arith),
      )))

pub red_commute : {S : Set} {a b c d : ℕ} → Minimal S a b → Minimal S c d → ((a ≡ c) × (b ≡ d) → ⊥)
    → (l r : ℕ) → red (red S a b) c d l r ≡ red (red S c d) a b l r
red_commute M O apart l r =
    ⊎_elim (λ s. in_order M O s.0 s.1 l r) (λ s. sym (in_order O M s.0 s.1 l r)) (crossing M O apart)
