-- All squares of an interval, as the code asks for them: over the range of its columns. `copper_along` uses it.
use mathlib.Core.Path.{◌≡◌, refl, ap, ◌∙◌}
use mathlib.Core.Bool.{Bool, ◌&&◌}
use Prim.Native.Nat.{ℕ, zero, suc, ◌-◌}
use native.Mathlib.Numerals.{add-one}
use Rattle.std.specs.List.{list_all, range_with_len}
use Rattle.lists.specs.Lists.{all, from}
use Rattle.method.specs.Intervals.{span}
use Rattle.grid.specs.Squares.{Area}
use Rattle.cover.specs.Slices.{copper_along}

all-range : (p : ℕ → Bool) (l n : ℕ) → list_all p (range_with_len l n) ≡ all p (from l n)
all-range p l zero = refl
all-range p l (suc n) = ap (λ k. p l && list_all p (range_with_len k n)) (add-one l) ∙ ap (λ b. p l && b) (all-range p (suc l) n)

pub along-asked : (a : Area) (y l r : ℕ) → list_all (λ x. a x y) (range_with_len l (r - l)) ≡ copper_along a y (span l r)
unfolding copper_along
along-asked a y l r = all-range (λ x. a x y) l (r - l)
