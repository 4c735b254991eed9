-- What the reduction of a bracket (a, b) does to one place (l, r), and to the count of a box (STAR).
-- At a jump a row loses e (l + 1) and gains e l, elsewhere the two are equal: one identity for every place, which telescopes over the rows.
-- Size, columns, generation, dependence and the order of two reductions all follow from STAR by arithmetic.
use mathlib.Core.Bool.{Bool, true, false, true≢false}
use mathlib.Core.Logic.{by_cases, ite, if_pos, if_neg, ◌≢◌}
use mathlib.Core.Path.{◌≡◌, refl, sym, ap, ◌∙◌}
use Prim.Native.Nat.{ℕ, suc, min, ◌+◌, ◌≤◌, ◌<◌}
use native.Mathlib.Decide.{dec_le, dec_lt, ℕ_discrete, le_ind}
use native.Mathlib.Omega.{arith}
use Rattle.method.proofs.Sets.{Set, bit, sum, row, K, Dep, Prefix, e, red}
use Rattle.method.proofs.Sums.{sum_step, sum-none, sum_telescope, sum_same, sum-add}
use Rattle.method.proofs.Staircase.{e-from, e_risen, e_mono, e-within, e-jump, e_attained, e-clear, e-reach, e-over, e-end, e-ahead, e-new}

pub record Jump (S : Set) (a b l : ℕ) : Type 0 where
  pub from : a ≤ l
  pub upto : l < b
  pub rise : e S a b l < e S a b (suc l)

-- the place (l, r) of the reduced set, which holds v: dropped, added, or kept as it was
pub data Place (S : Set) (a b l r : ℕ) (v : Bool) : Type 0 where
  drop : Jump S a b l → r ≡ e S a b (suc l) → v ≡ false → Place S a b l r v
  add : Jump S a b l → r ≡ e S a b l → l < r → v ≡ true → Place S a b l r v
  keep : (Jump S a b l → (r ≢ e S a b (suc l)) × (r ≡ e S a b l → r ≤ l)) → v ≡ S l r → Place S a b l r v

module _ (S : Set) (a b l r : ℕ) where
  decided : (d1 : Dec (a ≤ l)) (d2 : Dec (l < b)) (d3 : Dec (e S a b l < e S a b (suc l)))
      (d4 : Dec (r ≡ e S a b (suc l))) (d5 : Dec (r ≡ e S a b l)) (d6 : Dec (l < r))
      → Place S a b l r (ite d1 (ite d2 (ite d3 (ite d4 false (ite d5 (ite d6 true (S l r)) (S l r))) (S l r)) (S l r)) (S l r))
  decided (no h) d2 d3 d4 d5 d6 = keep (λ j. absurd (h j.from)) refl
  decided (yes u) (no h) d3 d4 d5 d6 = keep (λ j. absurd (h j.upto)) refl
  decided (yes u) (yes v) (no h) d4 d5 d6 = keep (λ j. absurd (h j.rise)) refl
  decided (yes u) (yes v) (yes w) (yes q) d5 d6 = drop (record { from = u; upto = v; rise = w }) q refl
  decided (yes u) (yes v) (yes w) (no q) (no h) d6 = keep (λ j. (q, λ z. absurd (h z))) refl
  decided (yes u) (yes v) (yes w) (no q) (yes z) (yes p) = add (record { from = u; upto = v; rise = w }) z p refl
  decided (yes u) (yes v) (yes w) (no q) (yes z) (no h) = keep (λ j. (q, λ _. omega arith)) refl

  pub place : Place S a b l r (red S a b l r)
  unfolding red
  place =
      decided (dec_le a l) (dec_lt l b) (dec_lt (e S a b l) (e S a b (suc l))) (ℕ_discrete r (e S a b (suc l))) (ℕ_discrete r (e S a b l))
      (dec_lt l r)

  pub red-same : (Jump S a b l → (r ≢ e S a b (suc l)) × (r ≡ e S a b l → r ≤ l)) → red S a b l r ≡ S l r
  red-same f = go place
    where
      go : Place S a b l r (red S a b l r) → red S a b l r ≡ S l r
      go (drop j q z) = absurd ((f j).0 q)
      go (add j q w z) = absurd (omega (arith, (f j).1 q))
      go (keep g z) = z

  -- rows before a and from b on, and lines beyond b, are untouched
  pub red-before : l < a → red S a b l r ≡ S l r
  red-before h = red-same (λ j. absurd (omega arith))

  pub red-after : b ≤ l → red S a b l r ≡ S l r
  red-after h = red-same (λ j. absurd (omega arith))

  pub red-beyond : b < r → red S a b l r ≡ S l r
  red-beyond h = red-same (λ j. let w : a ≤ b = omega arith in omega (arith, e-within S a b w l, e-within S a b w (suc l)))

  -- and so are the places on and left of the diagonal
  pub red_improper : Dep S a b → r ≤ l → red S a b l r ≡ S l r
  red_improper D h = red-same (λ j. omega (arith, e-over S a b D l j.from j.upto))

  -- a member of the reduced set ends where a member of the set ends that starts no later
  pub red-from : red S a b l r ≡ true → (k : ℕ) × (k ≤ l) × (S k r ≡ true)
  red-from m = go place
    where
      go : Place S a b l r (red S a b l r) → (k : ℕ) × (k ≤ l) × (S k r ≡ true)
      go (drop j q z) = absurd (true≢false (sym m ∙ z))
      go (add j q w z) = let t = e_attained S a b l (omega arith) in (t.0, omega arith, ap (S t.0) q ∙ t.3)
      go (keep f z) = (l, omega arith, sym z ∙ m)

  pub red-proper : (S l r ≡ true → l < r) → red S a b l r ≡ true → l < r
  red-proper proper m = go place
    where
      go : Place S a b l r (red S a b l r) → l < r
      go (drop j q z) = absurd (true≢false (sym m ∙ z))
      go (add j q w z) = w
      go (keep f z) = proper (sym z ∙ m)

  pub red-within : (n : ℕ) → ((k : ℕ) → S k r ≡ true → r ≤ n) → red S a b l r ≡ true → r ≤ n
  red-within n within m = let t = red-from m in within t.0 t.2

-- 1 at line v, 0 elsewhere
pub delta : ℕ → ℕ → ℕ
delta v r = ite (ℕ_discrete r v) 1 0

delta-at : (v r : ℕ) → r ≡ v → delta v r ≡ 1
unfolding delta
delta-at v r h = if_pos (ℕ_discrete r v) h _ _

delta-off : (v r : ℕ) → r ≢ v → delta v r ≡ 0
unfolding delta
delta-off v r h = if_neg (ℕ_discrete r v) h _ _

-- 1 where v lies beyond line q, else 0
pub beyond : ℕ → ℕ → ℕ
beyond v q = ite (dec_lt q v) 1 0

pub beyond_yes : (v q : ℕ) → q < v → beyond v q ≡ 1
unfolding beyond
beyond_yes v q h = if_pos (dec_lt q v) h _ _

pub beyond_no : (v q : ℕ) → v ≤ q → beyond v q ≡ 0
unfolding beyond
beyond_no v q h = if_neg (dec_lt q v) (omega arith) _ _

pub beyond_rises : (v w q : ℕ) → v ≤ w → (beyond v q ≤ beyond w q) × (beyond w q ≤ 1)
beyond_rises v w q h =
    by_cases (dec_lt q w)
    (λ k. by_cases (dec_lt q v) (λ m. omega (arith, beyond_yes v q m, beyond_yes w q k))
    (λ m. omega (arith, beyond_no v q (omega arith), beyond_yes w q k)))
    (λ k. omega (arith, beyond_no v q (omega arith), beyond_no w q (omega arith)))

pub beyond-delta : (v q : ℕ) → delta v (suc q) + beyond v (suc q) ≡ beyond v q
beyond-delta v q =
    by_cases (dec_lt q v)
    (λ h. by_cases (dec_lt (suc q) v) (λ k. omega (arith, delta-off v (suc q) (omega arith), beyond_yes v q h, beyond_yes v (suc q) k))
    (λ k. omega (arith, delta-at v (suc q) (omega arith), beyond_yes v q h, beyond_no v (suc q) (omega arith))))
    (λ h. omega (arith, delta-off v (suc q) (omega arith), beyond_no v q (omega arith), beyond_no v (suc q) (omega arith)))

beyond-sum : (v r0 r1 : ℕ) → r0 ≤ r1 → sum (delta v) (suc r0) (suc r1) + beyond v r1 ≡ beyond v r0
beyond-sum v r0 r1 h =
    le_ind (λ k. sum (delta v) (suc r0) (suc k) + beyond v k ≡ beyond v r0)
    (omega (arith, sum-none (delta v) (suc r0) (suc r0) (omega arith)))
    (λ k u ih. omega (arith, sum_step (delta v) (suc r0) (suc k) (omega arith), beyond-delta v k)) r1 h

-- of two stairs v ≤ w the lines r0 to r1 lose the later and gain the earlier one
module _ (v w r0 r1 k m : ℕ) (rise : v ≤ w) (lines : r0 ≤ r1) (o : k + beyond w r0 + beyond v r1 ≡ m + beyond v r0 + beyond w r1) where
  beyond_loses : k < m → (v ≤ r0) × (r0 < w) × (w ≤ r1) × (m ≡ suc k)
  beyond_loses less =
      by_cases (dec_lt r0 v) (λ h. absurd (omega (arith, beyond_yes v r0 h, beyond_rises v w r1 rise, beyond_rises v w r0 rise)))
      (λ h. let z = beyond_no v r0 (omega arith) in
      let z' = beyond_no v r1 (omega arith) in
      by_cases (dec_lt r1 w) (λ u. absurd (omega (arith, beyond_yes w r1 u, beyond_yes w r0 (omega arith))))
      (λ u. let y = beyond_no w r1 (omega arith) in
      by_cases (dec_lt r0 w) (λ t. omega (arith, beyond_yes w r0 t)) (λ t. absurd (omega (arith, beyond_no w r0 (omega arith))))))

  beyond_gains : m < k → (r0 < v) × (v ≤ r1) × (r1 < w) × (k ≡ suc m)
  beyond_gains more =
      by_cases (dec_le w r1)
      (λ h. absurd (omega (arith, beyond_no w r1 h, beyond_no v r1 (omega arith), beyond_rises v w r0 rise)))
      (λ h. let z = beyond_yes w r1 (omega arith) in
      let z' = beyond_yes w r0 (omega arith) in
      by_cases (dec_le v r0) (λ u. absurd (omega (arith, beyond_no v r0 u, beyond_no v r1 (omega arith))))
      (λ u. let y = beyond_yes v r0 (omega arith) in
      by_cases (dec_le v r1) (λ t. omega (arith, beyond_no v r1 t)) (λ t. absurd (omega (arith, beyond_yes v r1 (omega arith))))))

module _ {S : Set} {a b : ℕ} (P : Prefix S a b) where
  -- a row at which the staircase rises is a jump of the bracket
  rise-jump : (l : ℕ) → e S a b l < e S a b (suc l) → Jump S a b l
  rise-jump l h =
      record {
        from = (e-jump S a b l h).0;
        upto =
            by_cases (dec_lt l b) (λ z. z)
            (λ z. omega (arith, e-end S a b P.dep l (omega arith), e-end S a b P.dep (suc l) (omega arith)));
        rise = h;
      }

  -- the identity of a place right of the diagonal or beyond line a
  pub star-place : (l r : ℕ) → min a l < r
      → bit (red S a b l r) + delta (e S a b (suc l)) r ≡ bit (S l r) + delta (e S a b l) r
  star-place l r apart = go (place S a b l r)
    where
      go : Place S a b l r (red S a b l r)
          → bit (red S a b l r) + delta (e S a b (suc l)) r ≡ bit (S l r) + delta (e S a b l) r
      go (drop j q z) =
          omega (
            arith,
            ap bit z,
            ap bit (ap (S l) q ∙ (e-jump S a b l j.rise).1),
            delta-at (e S a b (suc l)) r q,
            delta-off (e S a b l) r (omega arith),
          )
      go (add j q w z) =
          omega (
            arith,
            ap bit z,
            ap bit (ap (S l) q ∙ e-new P l (e_risen S a b l (omega arith)) j.upto j.rise),
            delta-off (e S a b (suc l)) r (omega arith),
            delta-at (e S a b l) r q,
          )
      go (keep f z) =
          by_cases (dec_lt (e S a b l) (e S a b (suc l)))
          (λ h. let j = rise-jump l h in
          by_cases (ℕ_discrete r (e S a b l))
          (λ q. let low : r ≤ l = (f j).1 q in absurd (omega (arith, e-ahead P l (omega arith) j.upto)))
          (λ q. omega (arith, ap bit z, delta-off (e S a b (suc l)) r (f j).0, delta-off (e S a b l) r q)))
          (λ h. let q : e S a b (suc l) ≡ e S a b l = omega (arith, e_mono S a b l (suc l) (omega arith)) in
          omega (arith, ap bit z, ap (λ v. delta v r) q))

  star-row : (l r0 r1 : ℕ) → min a l ≤ r0
      → row (red S a b) l r0 r1 + sum (delta (e S a b (suc l))) (suc r0) (suc r1)
      ≡ row S l r0 r1 + sum (delta (e S a b l)) (suc r0) (suc r1)
  unfolding row
  star-row l r0 r1 apart =
      omega (
        arith,
        sum-add (λ r. bit (red S a b l r)) (delta (e S a b (suc l))) (suc r0) (suc r1),
        sum-add (λ r. bit (S l r)) (delta (e S a b l)) (suc r0) (suc r1),
        sum_same (λ r. bit (red S a b l r) + delta (e S a b (suc l)) r) (λ r. bit (S l r) + delta (e S a b l) r) (suc r0) (suc r1)
            (λ r u v. star-place l r (omega arith)),
      )

  -- STAR, for every box that does not hold the place (a, a): rows before column r0 + 1, or lines beyond a
  pub star : (l0 l1 r0 r1 : ℕ) → (l0 ≤ l1) × (r0 ≤ r1) × (min (suc a) l1 ≤ suc r0)
      → K (red S a b) l0 l1 r0 r1 + beyond (e S a b l1) r0 + beyond (e S a b l0) r1
      ≡ K S l0 l1 r0 r1 + beyond (e S a b l0) r0 + beyond (e S a b l1) r1
  unfolding K
  star l0 l1 r0 r1 h =
      omega (
        arith,
        beyond-sum (e S a b l0) r0 r1 h.1,
        beyond-sum (e S a b l1) r0 r1 h.1,
        sum_telescope (λ l. row (red S a b) l r0 r1) (λ l. row S l r0 r1) (λ l. sum (delta (e S a b l)) (suc r0) (suc r1)) l0 l1 h.0
            (λ l u v. star-row l r0 r1 (omega arith)),
      )

  -- a box loses a member only where the staircase comes to stand on its lines while it passes the rows, and gains one only where it leaves them
  module _ (l0 l1 r0 r1 : ℕ) (h : (l0 ≤ l1) × (r0 ≤ r1) × (min (suc a) l1 ≤ suc r0)) where
    pub star_loses : K (red S a b) l0 l1 r0 r1 < K S l0 l1 r0 r1
        → (e S a b l0 ≤ r0) × (r0 < e S a b l1) × (e S a b l1 ≤ r1) × (K S l0 l1 r0 r1 ≡ suc (K (red S a b) l0 l1 r0 r1))
    star_loses =
        beyond_loses (e S a b l0) (e S a b l1) r0 r1 (K (red S a b) l0 l1 r0 r1) (K S l0 l1 r0 r1) (e_mono S a b l0 l1 h.0) h.1
        (star l0 l1 r0 r1 h)

    pub star_gains : K S l0 l1 r0 r1 < K (red S a b) l0 l1 r0 r1
        → (r0 < e S a b l0) × (e S a b l0 ≤ r1) × (r1 < e S a b l1) × (K (red S a b) l0 l1 r0 r1 ≡ suc (K S l0 l1 r0 r1))
    star_gains =
        beyond_gains (e S a b l0) (e S a b l1) r0 r1 (K (red S a b) l0 l1 r0 r1) (K S l0 l1 r0 r1) (e_mono S a b l0 l1 h.0) h.1
        (star l0 l1 r0 r1 h)

-- the staircase lies beyond q exactly where the box beyond q has a member
pub e-beyond : (S : Set) (a b p q : ℕ) → a ≤ b → a ≤ q → beyond (e S a b p) q ≡ min 1 (K S a p q b)
e-beyond S a b p q fits low =
    by_cases (dec_lt q (e S a b p)) (λ h. omega (arith, beyond_yes (e S a b p) q h, e-reach S a b fits p q low h))
    (λ h. omega (arith, beyond_no (e S a b p) q (omega arith), e-clear S a b p q (omega arith)))

pub beyond-same : (S T : Set) (a b p q : ℕ) → a ≤ b → K S a p q b ≡ K T a p q b → beyond (e S a b p) q ≡ beyond (e T a b p) q
beyond-same S T a b p q fits same =
    by_cases (dec_le a q) (λ h. omega (arith, e-beyond S a b p q fits h, e-beyond T a b p q fits h))
    (λ h. omega (arith, beyond_yes (e S a b p) q (omega (arith, e-from S a b p)), beyond_yes (e T a b p) q (omega (arith, e-from T a b p))))
