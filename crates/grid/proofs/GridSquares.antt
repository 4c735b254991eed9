-- The squares of a grid: each of them once, and none else; a rectangle in the grid holds its columns times its rows of them.
-- By the laws of gathered lists; a test of the column and a test of the row multiply. The copper number beside the flashed area uses it.
use mathlib.Core.Path.{◌≡◌, refl, sym, ap, ap₂, ◌∙◌}
use mathlib.Core.Bool.{Bool, true, false, cond, ◌&&◌}
use mathlib.Core.List.{List, [], ◌∷◌, map}
use mathlib.Core.Logic.{by_cases, ◌≢◌}
use Prim.Native.Nat.{ℕ, zero, suc, ◌+◌, ◌-◌, ◌*◌, ◌≤◌, ◌<◌, min, max}
use native.Mathlib.Decide.{dec_le}
use native.Mathlib.Nat.{mul-zero, mul-one, mul-add}
use native.Mathlib.Omega.{arith}
use lib.Dec.{leb}
use borrow.Author.Tests.{le-leb, lt-leb, leb-true}
use Rattle.lists.specs.Lists.{count, gather, from, up_to}
use Rattle.lists.proofs.Truth.{bcase, and_left, and_right}
use Rattle.lists.proofs.Members.{In, none_any}
use Rattle.lists.proofs.Keep.{count-zero, count_same}
use Rattle.lists.proofs.Counting.{count-append, count_map}
use Rattle.lists.proofs.Ranges.{from_in, in_from, in_map, map_in, in_gather, gather_in}
use Rattle.lists.proofs.Pairs.{Pairs}
use Rattle.lists.proofs.Related.{from-rise, pairs_weaken, pairs_map, pairs_gather}
use Rattle.grid.specs.Squares.{Square, square, Rectangle, Within, grid_squares}

and_true : (b : Bool) → (b && true) ≡ b
and_true true = refl
and_true false = refl

and_false : (b : Bool) → (b && false) ≡ false
and_false true = refl
and_false false = refl

-- the squares of a row
abbrev pub row_squares : ℕ → ℕ → List Square
row_squares w r = map (λ c. square c r) (up_to w)

module _ (w h : ℕ) where
  in_row : {s : Square} (r : ℕ) → In s (row_squares w r) → (s.column < w) × (s.row ≡ r)
  in_row r m =
      let c = map_in (λ x. square x r) (up_to w) m in
      let b = from_in 0 w c.1 in
      (omega (arith, ap (λ s. s.column) c.2), ap (λ s. s.row) c.2)

  pub squares_in : {s : Square} → In s (grid_squares w h) → (s.column < w) × (s.row < h)
  unfolding grid_squares
  squares_in m =
      let r = gather_in (row_squares w) (up_to h) m in
      let b = from_in 0 h r.1 in
      let c = in_row r.0 r.2 in
      (c.0, omega arith)

  pub in_squares : (s : Square) → s.column < w → s.row < h → In s (grid_squares w h)
  unfolding grid_squares
  in_squares s c r =
      in_gather (row_squares w) (in_from 0 h s.row (omega arith) (omega arith))
      (in_map (λ x. square x s.row) (in_from 0 w s.column (omega arith) (omega arith)))

  pub squares-once : Pairs ◌≢◌ (grid_squares w h)
  unfolding grid_squares
  squares-once =
      pairs_gather ◌≢◌ (row_squares w) (up_to h)
      (λ r m.
      pairs_map ◌≢◌ (λ c. square c r) (up_to w)
      (pairs_weaken (λ c d. c < d) (λ c d. square c r ≢ square d r) (up_to w) (λ c d k l u e. omega (arith, ap (λ s. s.column) e)) (from-rise 0 w)))
      (pairs_weaken (λ r t. r < t) (λ r t. (u v : Square) → In u (row_squares w r) → In v (row_squares w t) → u ≢ v) (up_to h)
      (λ r t k l b u v m n e. omega (arith, ap (λ s. s.row) e, in_row r m, in_row t n)) (from-rise 0 h))

  -- a test of the column and a test of the row: the numbers that pass multiply
  module _ (p q : ℕ → Bool) where
    row-product : (r : ℕ) → count (λ s. p s.column && q s.row) (row_squares w r) ≡ count p (up_to w) * cond (q r) 1 0
    row-product r =
        count_map (λ s. p s.column && q s.row) (λ c. square c r) (up_to w)
        ∙ bcase (q r)
        (λ t. rw t (count_same (λ c. p c && true) p (up_to w) (λ c m. and_true (p c)) ∙ sym (mul-one (count p (up_to w)))))
        (λ f. rw f (count-zero (λ c. p c && false) (up_to w) (none_any (λ c. p c && false) (up_to w) (λ c m. and_false (p c))) ∙ sym (mul-zero (count p (up_to w)))))

    rows-product : (rs : List ℕ) → count (λ s. p s.column && q s.row) (gather (row_squares w) rs) ≡ count p (up_to w) * count q rs
    rows-product [] = sym (mul-zero (count p (up_to w)))
    rows-product (r ∷ rs) =
        count-append (λ s. p s.column && q s.row) (row_squares w r) (gather (row_squares w) rs)
        ∙ omega (arith, row-product r, rows-product rs, mul-add (count p (up_to w)) (cond (q r) 1 0) (count q rs))

    pub product : count (λ s. p s.column && q s.row) (grid_squares w h) ≡ count p (up_to w) * count q (up_to h)
    unfolding grid_squares
    product = rows-product (up_to h)

-- the numbers from l to u
abbrev between : ℕ → ℕ → ℕ → Bool
between l u x = leb l x && leb x u

between-count : (l u a n : ℕ) → count (between l u) (from a n) ≡ min (suc u) (a + n) - max l a
between-count l u a zero = omega arith
between-count l u a (suc n) =
    let rest = between-count l u (suc a) n in
    by_cases (dec_le l a)
    (λ x. by_cases (dec_le a u) (λ y. rw (le-leb l a x, le-leb a u y) (omega arith)) (λ y. rw (le-leb l a x, lt-leb a u (omega arith)) (omega arith)))
    (λ x. rw (lt-leb l a (omega arith)) (omega arith))

-- the square lies in the rectangle
abbrev pub holds_square : Rectangle → Square → Bool
holds_square q s = between q.first q.last s.column && between q.bottom q.top s.row

module _ (q : Rectangle) (s : Square) where
  pub within-holds : Within q s → holds_square q s ≡ true
  within-holds i = rw (le-leb _ _ i.from-left, le-leb _ _ i.to-right, le-leb _ _ i.from-below, le-leb _ _ i.to-above)

  pub holds-within : holds_square q s ≡ true → Within q s
  holds-within t =
      let c = and_left (between q.first q.last s.column) (between q.bottom q.top s.row) t in
      let r = and_right (between q.first q.last s.column) (between q.bottom q.top s.row) t in
      record {
        from-left = leb-true _ _ (and_left (leb q.first s.column) (leb s.column q.last) c);
        to-right = leb-true _ _ (and_right (leb q.first s.column) (leb s.column q.last) c);
        from-below = leb-true _ _ (and_left (leb q.bottom s.row) (leb s.row q.top) r);
        to-above = leb-true _ _ (and_right (leb q.bottom s.row) (leb s.row q.top) r);
      }

pub rectangle-squares : (w h : ℕ) (q : Rectangle) → q.first ≤ q.last → q.bottom ≤ q.top → q.last < w → q.top < h
    → count (holds_square q) (grid_squares w h) ≡ suc (q.last - q.first) * suc (q.top - q.bottom)
rectangle-squares w h q x y u v =
    let c : min (suc q.last) (0 + w) - max q.first 0 ≡ suc (q.last - q.first) = omega arith in
    let r : min (suc q.top) (0 + h) - max q.bottom 0 ≡ suc (q.top - q.bottom) = omega arith in
    product w h (between q.first q.last) (between q.bottom q.top)
    ∙ ap₂ ◌*◌ (between-count q.first q.last 0 w ∙ c) (between-count q.bottom q.top 0 h ∙ r)
