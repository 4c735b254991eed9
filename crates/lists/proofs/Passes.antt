-- A count or a search as a loop makes it, one number after the other: what was counted and what is left from k on make up the whole, and what was not found
-- is still ahead. The list of what is left gives up its head; the steps of Searches, at the code's `k + 1`. Loops use it.
use mathlib.Core.Path.{◌≡◌, refl, ap}
use mathlib.Core.Bool.{Bool, true, false, cond}
use mathlib.Core.List.{[], ◌∷◌}
use mathlib.Core.Option.{Option, none, some}
use Prim.Native.Nat.{ℕ, suc, ◌+◌, ◌-◌, ◌≤◌, ◌<◌}
use native.Mathlib.Numerals.{add-one}
use native.Mathlib.Omega.{arith}
use Rattle.lists.specs.Lists.{count, first, from, up_to, down}
use Rattle.lists.proofs.Searches.{first-here, first_on, first-end, down-here, down-on}

left-all : (m : ℕ) → from 0 (m - 0) ≡ up_to m
left-all m = let e : m - 0 ≡ m = omega arith in ap (from 0) e

left-next : (m k : ℕ) → k < m → from k (m - k) ≡ k ∷ from (k + 1) (m - (k + 1))
left-next m k h =
    let e : m - k ≡ suc (m - (k + 1)) = omega arith in
    let f : suc k ≡ k + 1 = omega arith in
    rw e (ap (λ z. k ∷ from z (m - (k + 1))) f)

left-none : (m k : ℕ) → m ≤ k → from k (m - k) ≡ []
left-none m k h = let e : m - k ≡ 0 = omega arith in rw e

module _ (p : ℕ → Bool) (m : ℕ) where
  -- n of the numbers before k pass
  abbrev pub Counted : ℕ → ℕ → Type 0
  Counted n k = n + count p (from k (m - k)) ≡ count p (up_to m)

  pub counted_none : Counted 0 0
  counted_none = omega (arith, ap (count p) (left-all m))

  pub counted-all : (n k : ℕ) → m ≤ k → Counted n k → n ≡ count p (up_to m)
  counted-all n k h so = omega (arith, ap (count p) (left-none m k h))

  pub counted_next : (n k : ℕ) → k < m → Counted n k → (r : ℕ) → r ≡ n + cond (p k) 1 0 → Counted r (k + 1)
  counted_next n k h so r q = omega (arith, ap (count p) (left-next m k h))

-- a search upwards below n that has reached a, and one downwards from below n
unfoldable pub up_from : (ℕ → Bool) → ℕ → ℕ → Option ℕ
up_from p n a = first p (from a (n - a))

unfoldable pub down_from : (ℕ → Bool) → ℕ → Option ℕ
down_from p n = first p (down n)

module _ (p : ℕ → Bool) (n : ℕ) where
  pub up-all : first p (up_to n) ≡ up_from p n 0
  unfolding up_from
  up-all = let e : n - 0 ≡ n = omega arith in rw e

  pub up-here : (a : ℕ) → a < n → p a ≡ true → up_from p n a ≡ some a
  unfolding up_from
  up-here a h t = first-here p a n h t

  pub up-on : (a : ℕ) → a < n → p a ≡ false → up_from p n a ≡ up_from p n (a + 1)
  unfolding up_from
  up-on a h f = rw (add-one a, first_on p a n h f)

  pub up-end : (a : ℕ) → n ≤ a → up_from p n a ≡ none
  unfolding up_from
  up-end a h = first-end p a n h

  pub down-all : first p (down n) ≡ down_from p n
  unfolding down_from
  down-all = refl

  pub down-found : 0 < n → p (n - 1) ≡ true → down_from p n ≡ some (n - 1)
  unfolding down_from
  down-found h t = down-here p n h t

  pub down-next : 0 < n → p (n - 1) ≡ false → down_from p n ≡ down_from p (n - 1)
  unfolding down_from
  down-next h f = down-on p n h f

  pub down-none : n ≤ 0 → down_from p n ≡ none
  unfolding down_from
  down-none h = let e : n ≡ 0 = omega arith in rw e
