-- A search's answer as the code holds it, from the laws of `first` over a range. The searches of raster use it.
use mathlib.Core.Path.{◌≡◌, refl, sym, ap, ◌∙◌}
use mathlib.Core.Bool.{Bool, true, false, beq}
use mathlib.Core.Option.{Option as Found, none, some}
use Prim.Native.Nat.{ℕ, ◌-◌, ◌≤◌, ◌<◌}
use native.Mathlib.Omega.{arith}
use Rattle.lists.specs.Lists.{first, from}
use Rattle.grid.specs.Lines.{row}
use Rattle.grid.specs.Code.{or_end, as_asked, level_of}
use Rattle.grid.specs.declared.lines.Row.{Row}
use Rattle.std.specs.Prelude.{Option, Some, None, MatchOption, IsSomeAnd, nat_lt}
use Rattle.std.specs.List.{position, position_or_len}
use Rattle.std.proofs.lemmas.List.Sums.{fails_before_first}
use Rattle.lists.proofs.Truth.{bcase}
use borrow.Author.Tests.{ltb-false}
use Rattle.std.proofs.lemmas.List.Quantifiers.{position-Some}
use Rattle.grid.specs.Raster.{first_bad}
use mathlib.Core.List.{List}
use lib.Dec.{ltb}
use lib.ListN.{length, get_or}
use Rattle.lists.proofs.Searches.{first-least, first-nowhere}

-- the code's comparison of a square, as it was found, with what is asked
pub as_asked_lem : {found there b : Bool} (asked : Bool) → found ≡ there → beq found asked ≡ b → as_asked asked there ≡ b
as_asked_lem asked e t = rw (← e) (same _ asked ∙ t)
  where
    same : (x y : Bool) → as_asked y x ≡ beq x y
    same true true = refl
    same true false = refl
    same false true = refl
    same false false = refl

-- an answer below the end was found, and the end says that nothing was
pub end-some : (n x : ℕ) (o : Found ℕ) → x ≡ or_end n o → x < n → o ≡ some x
end-some n x none e h = absurd (omega arith)
end-some n x (some y) e h = ap some (sym e)

pub end_none : (n x : ℕ) (o : Found ℕ) → ((y : ℕ) → o ≡ some y → y < n) → x ≡ or_end n o → n ≤ x → o ≡ none
end_none n x none k e h = refl
end_none n x (some y) k e h = absurd (omega (arith, k y refl))

-- a row that was found, or that there is none, as the code holds it
pub level_in : (o : Found ℕ) {l : Option Row} {y : Row} → l ≡ level_of o → l ≡ Some y → o ≡ some y.0
level_in none e k = absurd (cc)
level_in (some x) {y = y} e k = let m : row x ≡ y = cc in ap (λ (r : Row). some r.0) m

pub level-none : (o : Found ℕ) {l : Option Row} → l ≡ level_of o → l ≡ None → o ≡ none
level-none none e k = refl
level-none (some x) e k = absurd (cc)

-- what `find` and `map` tell of the first row that passes
pub level-found : (p : ℕ → Bool) (a n : ℕ) (r : Option ℕ) (out : Option Row)
    → MatchOption r ((k : ℕ) → a ≤ k → k < n → p k ≡ false) (λ i. (a ≤ i) × (i < n) × (p i ≡ true) × ((k : ℕ) → a ≤ k → k < i → p k ≡ false))
    → MatchOption r (out ≡ None) (λ x. IsSomeAnd out (λ y. y ≡ row x)) → out ≡ level_of (first p (from a (n - a)))
level-found p a n None out d m = m ∙ ap level_of (sym (first-nowhere p a (n - a) (λ y l u. d y l (omega arith))))
level-found p a n (Some i) (Some y) d m = ap Some m ∙ ap level_of (sym (first-least p a (n - a) i d.0 (omega (arith, d.0, d.1)) d.2 d.3))
level-found p a n (Some i) None d m = absurd m

-- the first bad byte, as std finds it
module _ (s : List ℕ) where
  pub bad-some : {i : ℕ} → position (nat_lt 1) s ≡ Some i → first_bad s ≡ some i
  unfolding first_bad
  bad-some {i} e =
      let f = position-Some (nat_lt 1) s i 0 e in
      first-least (λ k. ltb 1 (get_or s k 0)) 0 (length s) i (omega arith) (omega (arith, f.0)) f.1 (λ y l u. f.2 y u)

  pub bad-none : position (nat_lt 1) s ≡ None → first_bad s ≡ none
  unfolding first_bad
  bad-none e =
      bcase (ltb (position_or_len (nat_lt 1) s) (length s))
      (λ t. let z : ◌≡◌ {A = Option ℕ} (Some (position_or_len (nat_lt 1) s)) None = rw t at e in absurd (cc))
      (λ f. first-nowhere (λ k. ltb 1 (get_or s k 0)) 0 (length s) (λ y l u. fails_before_first (nat_lt 1) s y 0 (omega (arith, ltb-false (position_or_len (nat_lt 1) s) (length s) f))))
