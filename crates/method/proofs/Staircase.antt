-- The staircase e of a bracket (a, b): it starts at a, never falls, stays within b, and stands at or below q exactly where the box beyond q is empty.
-- For the shortest dependent bracket from a it runs ahead of its row (F2), ends at b (F1), and the meets (p, e p) are new (F3).
use mathlib.Core.Bool.{Bool, true, false, cond, true≢false}
use mathlib.Core.Logic.{by_cases, if_pos, if_neg, ◌↔◌}
use mathlib.Core.Path.{◌≡◌, refl, sym, ap, ◌∙◌}
use Prim.Native.Nat.{ℕ, zero, suc, pred, min, max, ◌≤◌, ◌<◌}
use native.Mathlib.Decide.{dec_le, dec_lt, le_ind}
use native.Mathlib.Omega.{arith}
use Rattle.method.proofs.Sets.{Set, K, Dep, Prefix, top, e}
use Rattle.lists.proofs.Truth.{bcase}
use Rattle.method.proofs.Boxes.{K-rows, K-lines, K-empty, K-has, K-find}

top-hit : (f : ℕ → Bool) (n : ℕ) → f (suc n) ≡ true → top f (suc n) ≡ suc n
unfolding top
top-hit f n h = ap (λ z. cond z (suc n) (top f n)) h

top_miss : (f : ℕ → Bool) (n : ℕ) → f (suc n) ≡ false → top f (suc n) ≡ top f n
unfolding top
top_miss f n h = ap (λ z. cond z (suc n) (top f n)) h

pub top_le : (f : ℕ → Bool) (n : ℕ) → top f n ≤ n
unfolding top
top_le f zero = omega arith
top_le f (suc n) = bcase (f (suc n)) (λ h. omega (arith, top-hit f n h)) (λ h. omega (arith, top_miss f n h, top_le f n))

pub top-passes : (f : ℕ → Bool) (n : ℕ) → 0 < top f n → f (top f n) ≡ true
unfolding top
top-passes f zero h = absurd (omega arith)
top-passes f (suc n) h =
    bcase (f (suc n)) (λ z. ap f (top-hit f n z) ∙ z)
    (λ z. ap f (top_miss f n z) ∙ top-passes f n (omega (arith, top_miss f n z)))

pub top-greatest : (f : ℕ → Bool) (n r : ℕ) → f r ≡ true → r ≤ n → r ≤ top f n
top-greatest f zero r m h = omega arith
top-greatest f (suc n) r m h =
    bcase (f (suc n)) (λ z. omega (arith, top-hit f n z))
    (λ z. by_cases (dec_le r n) (λ k. omega (arith, top_miss f n z, top-greatest f n r m k))
    (λ k. let q : r ≡ suc n = omega arith in absurd (true≢false (sym m ∙ ap f q ∙ z))))

module _ (S : Set) (a b : ℕ) where
  pub e-low : (p : ℕ) → p ≤ a → e S a b p ≡ a
  unfolding e
  e-low zero h = refl
  e-low (suc p) h = if_neg (dec_le a p) (omega arith) _ _

  pub e-step : (p : ℕ) → a ≤ p → e S a b (suc p) ≡ max (e S a b p) (top (S p) b)
  unfolding e
  e-step p h = if_pos (dec_le a p) h _ _

  pub e_mono : (p q : ℕ) → p ≤ q → e S a b p ≤ e S a b q
  e_mono p q h =
      le_ind (λ k. e S a b p ≤ e S a b k) (omega arith)
      (λ k _ ih. by_cases (dec_le a k) (λ u. omega (arith, e-step k u))
      (λ u. omega (arith, e-low k (omega arith), e-low (suc k) (omega arith)))) q h

  pub e-from : (p : ℕ) → a ≤ e S a b p
  e-from p = by_cases (dec_le a p) (λ h. omega (arith, e-low a (omega arith), e_mono a p h)) (λ h. omega (arith, e-low p (omega arith)))

  pub e_risen : (p : ℕ) → a < e S a b p → a < p
  e_risen p h = by_cases (dec_lt a p) (λ z. z) (λ z. omega (arith, e-low p (omega arith)))

  pub e-within : a ≤ b → (p : ℕ) → e S a b p ≤ b
  e-within h zero = omega (arith, e-low 0 (omega arith))
  e-within h (suc p) =
      by_cases (dec_le a p) (λ u. omega (arith, e-step p u, e-within h p, top_le (S p) b)) (λ u. omega (arith, e-low (suc p) (omega arith)))

  -- a jump is made by a member
  pub e-jump : (p : ℕ) → e S a b p < e S a b (suc p) → (a ≤ p) × (S p (e S a b (suc p)) ≡ true)
  e-jump p h =
      by_cases (dec_le a p)
      (λ u. let q : e S a b (suc p) ≡ top (S p) b = omega (arith, e-step p u) in
      (u, ap (S p) q ∙ top-passes (S p) b (omega arith)))
      (λ u. absurd (omega (arith, e-low p (omega arith), e-low (suc p) (omega arith))))

  -- the member that attains the staircase
  pub e_attained : (p : ℕ) → a < e S a b p → (l : ℕ) × (a ≤ l) × (l < p) × (S l (e S a b p) ≡ true)
  e_attained zero h = absurd (omega (arith, e-low 0 (omega arith)))
  e_attained (suc p) h =
      by_cases (dec_lt (e S a b p) (e S a b (suc p))) (λ u. let j = e-jump p u in (p, j.0, omega arith, j.1))
      (λ u. let q : e S a b (suc p) ≡ e S a b p = omega (arith, e_mono p (suc p) (omega arith)) in
      let t = e_attained p (omega arith) in
      (t.0, t.1, omega arith, ap (S t.0) q ∙ t.3))

  -- it stands at or below q exactly where no member of its rows ends beyond q
  pub e-clear : (p q : ℕ) → e S a b p ≤ q → K S a p q b ≡ 0
  e-clear p q h =
      by_cases (dec_lt 0 (K S a p q b))
      (λ u. let m = K-find S a p q b u in
      omega (arith, e-step m.0 m.3.0, top-greatest (S m.0) b m.1 m.2 m.3.3, e_mono (suc m.0) p m.3.1))
      (λ u. omega arith)

  pub e-reach : a ≤ b → (p q : ℕ) → a ≤ q → q < e S a b p → 0 < K S a p q b
  e-reach fits p q low h = let m = e_attained p (omega arith) in K-has S m.0 (e S a b p) a p q b m.3 (omega (arith, e-within fits p))

  pub e-box : a ≤ b → (p q : ℕ) → a ≤ q → e S a b p ≤ q ↔ K S a p q b ≡ 0
  e-box fits p q low = (e-clear p q, λ z. by_cases (dec_le (e S a b p) q) (λ h. h) (λ h. omega (arith, e-reach fits p q low (omega arith))))

  module _ (D : Dep S a b) where
    -- each column of a dependent bracket lies below the staircase
    pub e-over : (x : ℕ) → a ≤ x → x < b → x < e S a b (suc x)
    e-over x low high = by_cases (dec_lt x (e S a b (suc x))) (λ h. h) (λ h. omega (arith, e-clear (suc x) x (omega arith), D.twice x low high))

    -- F1: the staircase ends at b, and the first jump is a
    pub e-end : (p : ℕ) → b ≤ p → e S a b p ≡ b
    e-end p h =
        let proper = D.proper in
        omega (arith, e-over (pred b) (omega arith) (omega arith), e_mono (suc (pred b)) p (omega arith), e-within (omega arith) p)

    pub e-first : e S a b a < e S a b (suc a)
    e-first = omega (arith, e-low a (omega arith), e-over a (omega arith) D.proper)

    pub e-keeps-up : (p : ℕ) → a < p → min p b ≤ e S a b p
    e-keeps-up p low =
        by_cases (dec_lt p b) (λ h. omega (arith, e-over (pred p) (omega arith) (omega arith), e_mono (suc (pred p)) p (omega arith)))
        (λ h. omega (arith, e-end p (omega arith)))

    -- where no member of the rows before p crosses line q, each column before p is held twice up to q
    pub dep_cut : (p q : ℕ) → e S a b p ≤ q → q ≤ b → (x : ℕ) → a ≤ x → x < p → x < q → 2 ≤ K S a (suc x) x q
    dep_cut p q clear fits x low high under =
        omega (
          arith,
          K-lines S a (suc x) x q b (omega arith) fits,
          D.twice x low (omega arith),
          K-empty S a (suc x) q b a p q b (e-clear p q clear) (omega arith),
        )

module _ {S : Set} {a b : ℕ} (P : Prefix S a b) where
  -- F2: within the bracket the staircase runs ahead of its row
  pub e-ahead : (p : ℕ) → a < p → p < b → p < e S a b p
  e-ahead p low high =
      by_cases (dec_lt p (e S a b p)) (λ h. h)
      (λ h. absurd (P.shortest p low high
      (record { proper = low; twice = λ x u v. dep_cut S a b P.dep p p (omega arith) (omega arith) x u v v })))

  -- F3: at a jump past the first row the meet is no member
  pub e-new : (p : ℕ) → a < p → p < b → e S a b p < e S a b (suc p) → S p (e S a b p) ≡ false
  e-new p low high jump =
      bcase (S p (e S a b p)) (λ m. absurd (P.shortest (e S a b p) (omega (arith, e-ahead p low high)) inside
      (record { proper = omega (arith, e-ahead p low high); twice = λ x u v. twice m x u v }))) (λ m. m)
    where
      inside : e S a b p < b
      inside = omega (arith, e-within S a b (omega arith) (suc p))

      twice : S p (e S a b p) ≡ true → (x : ℕ) → a ≤ x → x < e S a b p → 2 ≤ K S a (suc x) x (e S a b p)
      twice m x u v =
          by_cases (dec_lt x p) (λ h. dep_cut S a b P.dep p (e S a b p) (omega arith) (omega (arith, inside)) x u h v)
          (λ h. omega (
            arith,
            K-rows S a p (suc x) x (e S a b p) (omega arith) (omega arith),
            K-has S p (e S a b p) p (suc x) x (e S a b p) m (omega arith),
            e-reach S a b (omega arith) p x u v,
            e-clear S a b p (e S a b p) (omega arith),
            K-lines S a p x (e S a b p) b (omega arith) (omega (arith, inside)),
          ))
