-- Searches through a range: what `first` and `any` find in a run of numbers, upwards and downwards, one step at a time and as a whole.
-- Each step opens one clause of the definition; each whole is an induction on the length. Loops that search use the steps, theorems the wholes.
use mathlib.Core.Path.{◌≡◌, refl, sym, ap, ◌∙◌}
use mathlib.Core.Bool.{Bool, true, false}
use mathlib.Core.Logic.{by_cases}
use mathlib.Core.Option.{none, some, some-injective}
use Prim.Native.Nat.{ℕ, zero, suc, ◌+◌, ◌-◌, ◌≤◌, ◌<◌}
use native.Mathlib.Omega.{arith}
use native.Mathlib.Decide.{ℕ_discrete}
use Rattle.lists.specs.Lists.{any, first, from, down}
use Rattle.lists.proofs.Truth.{bcase, missing}
use Rattle.lists.proofs.Members.{any_of, any_found, none_any, first_found, first-none, none_first}
use Rattle.lists.proofs.Ranges.{from_in, in_from}

module _ (p : ℕ → Bool) where
  -- a search upwards, from a up to and without n, at its first number
  pub first-here : (a n : ℕ) → a < n → p a ≡ true → first p (from a (n - a)) ≡ some a
  first-here a n h t = let e : n - a ≡ suc (n - suc a) = omega arith in rw (e, t)

  pub first_on : (a n : ℕ) → a < n → p a ≡ false → first p (from a (n - a)) ≡ first p (from (suc a) (n - suc a))
  first_on a n h f = let e : n - a ≡ suc (n - suc a) = omega arith in rw (e, f)

  pub first-end : (a n : ℕ) → n ≤ a → first p (from a (n - a)) ≡ none
  first-end a n h = let e : n - a ≡ 0 = omega arith in rw e

  -- the least that passes is the one that is found
  pub first-least : (a n x : ℕ) → a ≤ x → x < a + n → p x ≡ true → ((y : ℕ) → a ≤ y → y < x → p y ≡ false) → first p (from a n) ≡ some x
  first-least a zero x l u t h = absurd (omega arith)
  first-least a (suc n) x l u t h =
      by_cases (ℕ_discrete x a)
      (λ e. rw (sym (ap p e) ∙ t) (ap some (sym e)))
      (λ d. rw (h a (omega arith) (omega arith)) (first-least (suc a) n x (omega arith) (omega arith) t (λ y k. h y (omega arith))))

  pub first-nowhere : (a n : ℕ) → ((y : ℕ) → a ≤ y → y < a + n → p y ≡ false) → first p (from a n) ≡ none
  first-nowhere a n h = none_first p (from a n) (λ y m. let r = from_in a n m in h y r.0 r.1)

  pub first-within : (a n : ℕ) {x : ℕ} → first p (from a n) ≡ some x → (a ≤ x) × (x < a + n) × (p x ≡ true)
  first-within a n e = let r = first_found p (from a n) e in let i = from_in a n r.0 in (i.0, i.1, r.1)

  pub first-missed : (a n : ℕ) → first p (from a n) ≡ none → (y : ℕ) → a ≤ y → y < a + n → p y ≡ false
  first-missed a n e y l u = first-none p (from a n) e (in_from a n y l u)

  -- whether one passes
  pub any-within : (a n x : ℕ) → a ≤ x → x < a + n → p x ≡ true → any p (from a n) ≡ true
  any-within a n x l u t = any_of p (in_from a n x l u) t

  pub any-nowhere : (a n : ℕ) → ((y : ℕ) → a ≤ y → y < a + n → p y ≡ false) → any p (from a n) ≡ false
  any-nowhere a n h = none_any p (from a n) (λ y m. let r = from_in a n m in h y r.0 r.1)

  pub any_where : (a n : ℕ) → any p (from a n) ≡ true → (x : ℕ) × (a ≤ x) × (x < a + n) × (p x ≡ true)
  any_where a n t = let r = any_found p (from a n) t in let i = from_in a n r.1 in (r.0, i.0, i.1, r.2)

  -- a search downwards, from n - 1 on, at its first number
  pub down-here : (n : ℕ) → 0 < n → p (n - 1) ≡ true → first p (down n) ≡ some (n - 1)
  down-here zero h t = absurd (omega arith)
  down-here (suc n) h t = let e : suc n - 1 ≡ n = omega arith in rw (ap p (sym e) ∙ t) (ap some (sym e))

  pub down-on : (n : ℕ) → 0 < n → p (n - 1) ≡ false → first p (down n) ≡ first p (down (n - 1))
  down-on zero h f = absurd (omega arith)
  down-on (suc n) h f = let e : suc n - 1 ≡ n = omega arith in rw (ap p (sym e) ∙ f, e)

  pub down-end : (n : ℕ) → n ≤ 0 → first p (down n) ≡ none
  down-end zero h = refl
  down-end (suc n) h = absurd (omega arith)

  -- it finds the greatest that passes
  pub down-within : (n : ℕ) {x : ℕ} → first p (down n) ≡ some x → (x < n) × (p x ≡ true)
  down-within zero e = absurd (missing refl e)
  down-within (suc n) {x} e =
      bcase (p n)
      (λ t. let q : n ≡ x = some-injective n x (rw t at e) in (omega arith, ap p (sym q) ∙ t))
      (λ f. let r = down-within n (rw f at e) in (omega arith, r.1))

  pub down-missed : (n : ℕ) → first p (down n) ≡ none → (y : ℕ) → y < n → p y ≡ false
  down-missed zero e y u = absurd (omega arith)
  down-missed (suc n) e y u =
      bcase (p n)
      (λ t. absurd (missing (rw t at e) refl))
      (λ f. by_cases (ℕ_discrete y n) (λ q. ap p q ∙ f) (λ d. down-missed n (rw f at e) y (omega arith)))

  pub down-greatest : (n x : ℕ) → x < n → p x ≡ true → ((y : ℕ) → x < y → y < n → p y ≡ false) → first p (down n) ≡ some x
  down-greatest zero x u t h = absurd (omega arith)
  down-greatest (suc n) x u t h =
      by_cases (ℕ_discrete x n)
      (λ e. rw (sym (ap p e) ∙ t) (ap some (sym e)))
      (λ d. rw (h n (omega arith) (omega arith)) (down-greatest n x (omega arith) t (λ y l k. h y l (omega arith))))

  pub down_above : (n : ℕ) {x : ℕ} → first p (down n) ≡ some x → (y : ℕ) → x < y → y < n → p y ≡ false
  down_above zero e y l u = absurd (omega arith)
  down_above (suc n) {x} e y l u =
      bcase (p n)
      (λ t. let q : n ≡ x = some-injective n x (rw t at e) in absurd (omega arith))
      (λ f. by_cases (ℕ_discrete y n) (λ q. ap p q ∙ f) (λ d. down_above n (rw f at e) y l (omega arith)))

  pub down-nowhere : (n : ℕ) → ((y : ℕ) → y < n → p y ≡ false) → first p (down n) ≡ none
  down-nowhere zero h = refl
  down-nowhere (suc n) h = rw (h n (omega arith)) (down-nowhere n (λ y u. h y (omega arith)))
