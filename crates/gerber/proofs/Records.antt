-- A record read byte by byte is the record; and a list of records from the k-th on is the k-th and then the rest.
-- `flash_at` and the loops over flashes use it.
use mathlib.Core.Path.{◌≡◌, refl, sym, ap, ◌∙◌}
use mathlib.Core.Bool.{Bool, true, ◌&&◌}
use mathlib.Core.List.{List, [], ◌∷◌, map}
use mathlib.Core.Logic.{by_cases}
use Prim.Native.Nat.{ℕ, zero, suc, ◌+◌, ◌-◌, ◌<◌, ◌≤◌}
use native.Mathlib.Omega.{arith}
use native.Mathlib.Decide.{ℕ_discrete}
use native.Mathlib.Numerals.{add-one}
use Rattle.std.specs.List.{list_all, range_with_len}
use Rattle.lists.specs.Lists.{from, up_to, all}
use Rattle.lists.proofs.Truth.{and_left, and_right}
use Rattle.grid.specs.Squares.{Rectangle}
use Rattle.cover.specs.Records.{flash_in, flashes_in}

-- the flashes from the k-th on, of n
unfoldable pub flashes_from : List ℕ → ℕ → ℕ → List Rectangle
flashes_from room k n = map (flash_in room) (from k (n - k))

module _ (room : List ℕ) (n : ℕ) where
  pub flashes-all : flashes_in n room ≡ flashes_from room 0 n
  unfolding flashes_in flashes_from
  flashes-all = let e : n ≡ n - 0 = omega arith in ap (λ m. map (flash_in room) (up_to m)) e

  pub flashes-next : (k : ℕ) → k < n → flashes_from room k n ≡ flash_in room k ∷ flashes_from room (k + 1) n
  unfolding flashes_from
  flashes-next k h =
      let e : n - k ≡ suc (n - (k + 1)) = omega arith in
      ap (λ m. map (flash_in room) (from k m)) e ∙ ap (λ j. flash_in room k ∷ map (flash_in room) (from j (n - (k + 1)))) (sym (add-one k))

  pub flashes-over : (k : ℕ) → n ≤ k → flashes_from room k n ≡ []
  unfolding flashes_from
  flashes-over k h = let e : n - k ≡ 0 = omega arith in ap (λ m. map (flash_in room) (from k m)) e

  module _ (p : Rectangle → Bool) (k : ℕ) where
    -- where all pass, each does
    pub fit-each : all p (flashes_in n room) ≡ true → k < n → p (flash_in room k) ≡ true
    unfolding flashes_in
    fit-each t h = go 0 n t (omega arith) (omega arith)
      where
        go : (a m : ℕ) → all p (map (flash_in room) (from a m)) ≡ true → a ≤ k → k < a + m → p (flash_in room k) ≡ true
        go a zero t l u = absurd (omega arith)
        go a (suc m) t l u =
            by_cases (ℕ_discrete a k)
            (λ e. rw e at (and_left (p (flash_in room a)) (all p (map (flash_in room) (from (suc a) m))) t))
            (λ e. go (suc a) m (and_right (p (flash_in room a)) (all p (map (flash_in room) (from (suc a) m))) t) (omega arith) (omega arith))

-- a test of each by its number, as an iterator over the numbers makes it
all-ranged : (room : List ℕ) (p : Rectangle → Bool) (a n : ℕ) → list_all (λ k. p (flash_in room k)) (range_with_len a n) ≡ all p (map (flash_in room) (from a n))
all-ranged room p a zero = refl
all-ranged room p a (suc n) =
    ap (λ (b : Bool). p (flash_in room a) && b) (ap (λ j. list_all (λ k. p (flash_in room k)) (range_with_len j n)) (add-one a) ∙ all-ranged room p (suc a) n)

pub listed-all : (room : List ℕ) (p : Rectangle → Bool) (n : ℕ) → list_all (λ k. p (flash_in room k)) (range_with_len 0 n) ≡ all p (flashes_in n room)
unfolding flashes_in
listed-all room p n = all-ranged room p 0 n
