-- A chain's answer in the words of the rules: any, all, the first that passes, the first bad flash by its line; and a range as the list of its numbers.
-- Each by induction. The chains over lines, rows and squares use them.
use Rattle.std.specs.Prelude.{Option, Some, None}
use Rattle.std.specs.List.{list_any, list_all, find, position_from, position_or_len, range_with_len}
use Rattle.std.specs.Option.{option_map}
use Rattle.std.proofs.lemmas.Iterator.Adapters.{position_from-zero}
use lib.Dec.{ltb}
use lib.ListN.{length}
use mathlib.Core.Path.{◌≡◌, refl, ap, ◌∙◌}
use mathlib.Core.Bool.{Bool, not, cond, ◌&&◌, ◌||◌}
use mathlib.Core.List.{List, [], ◌∷◌}
use Prim.Native.Nat.{ℕ, zero, suc, ◌+◌}
use native.Mathlib.Numerals.{add-one}
use Rattle.lists.specs.Lists.{all, any, first, from}
use Rattle.lists.proofs.Truth.{bcase}
use Rattle.grid.specs.Squares.{Area, Rectangle}
use Rattle.listcheck.specs.Verdict.{good, bad_from, bad_line}
use Rattle.listcheck.specs.Code.{found_of}

module _ {A : Type 0} (p : A → Bool) where
  pub any-same : (xs : List A) → list_any p xs ≡ any p xs
  any-same [] = refl
  any-same (x ∷ xs) = ap (p x ||◌) (any-same xs)

  pub all-same : (xs : List A) → list_all p xs ≡ all p xs
  all-same [] = refl
  all-same (x ∷ xs) = ap (p x &&◌) (all-same xs)

pub first-same : (p : ℕ → Bool) (xs : List ℕ) → find p xs ≡ found_of (first p xs)
first-same p [] = refl
first-same p (x ∷ xs) = bcase (p x) (λ t. rw t) (λ f. rw f (first-same p xs))

pub map-same : (o : Option ℕ) → option_map (λ x. x) o ≡ o
map-same None = refl
map-same (Some n) = refl

pub range-same : (a n : ℕ) → range_with_len a n ≡ from a n
range-same a zero = refl
range-same a (suc n) = ap (a ∷◌) (range-same (a + 1) n ∙ ap (λ b. from b n) (add-one a))

-- the line of a flash is one more than its place
abbrev pub line_of : Option ℕ → Option ℕ
line_of = option_map (λ k. k + 1)

pub bad-same : (a : Area) (w h place : ℕ) (qs : List Rectangle) → line_of (position_from (λ q. not (good a w h q)) place qs) ≡ found_of (bad_from a w h (suc place) qs)
unfolding bad_from
bad-same a w h place [] = refl
bad-same a w h place (q ∷ qs) =
    bcase (good a w h q)
    (λ t. rw t (ap (λ n. line_of (position_from (λ q. not (good a w h q)) n qs)) (add-one place) ∙ bad-same a w h (suc place) qs))
    (λ f. rw f (ap Some (add-one place)))

pub bad-line : (a : Area) (w h : ℕ) (qs : List Rectangle) {r : Option ℕ} → let p = λ (q : Rectangle). not (good a w h q) in
    r ≡ cond (ltb (position_or_len p qs) (length qs)) (Some (position_or_len p qs)) None → line_of r ≡ found_of (bad_line a w h qs)
bad-line a w h qs e = ap line_of (e ∙ position_from-zero (λ (q : Rectangle). not (good a w h q)) qs) ∙ bad-same a w h 0 qs
