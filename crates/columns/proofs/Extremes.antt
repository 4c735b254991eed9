-- The greatest and the least of some columns' numbers: one number more, and what lies above or below them all.
-- By induction on the number of columns. `greatest` and `least` use it, and the heights of flashes.
use mathlib.Core.Path.{◌≡◌, refl, sym, ap, ap₂, ◌∙◌}
use mathlib.Core.List.{List}
use mathlib.Core.Logic.{by_cases}
use Prim.Native.Nat.{ℕ, zero, suc, ◌+◌, ◌-◌, ◌≤◌, ◌<◌, min, max}
use native.Mathlib.Decide.{ℕ_discrete, dec_le}
use native.Mathlib.Omega.{arith}
use lib.ListN.{length, get_or, take, drop, length-drop}
use lib.Seq.{take-suc, get_or-drop}
use Rattle.std.specs.List.{fold}
use Rattle.std.proofs.lemmas.List.Sums.{fold_push}
use Rattle.grid.specs.Limits.{side}
use Rattle.columns.specs.Columns.{greatest_in, least_in}

module _ (numbers : List ℕ) (l : ℕ) where
  -- a fold over the numbers of n columns from l on is any function that goes on by one number more
  folded : (f : ℕ → ℕ → ℕ) (z : ℕ) (F : ℕ → ℕ) → F 0 ≡ z → ((n : ℕ) → F (suc n) ≡ f (F n) (get_or numbers (l + n) 0)) → (n : ℕ) → l + n ≤ length numbers
      → fold f z (take n (drop l numbers)) ≡ F n
  folded f z F o s zero h = sym o
  folded f z F o s (suc n) h =
      ap (fold f z) (take-suc (drop l numbers) n 0 (omega (arith, length-drop l numbers)))
      ∙ fold_push f z (take n (drop l numbers)) (get_or (drop l numbers) n 0)
      ∙ ap₂ f (folded f z F o s n (omega arith)) (get_or-drop l numbers n 0)
      ∙ sym (s n)

  greatest-folded : (n : ℕ) → l + n ≤ length numbers → fold max 0 (take n (drop l numbers)) ≡ greatest_in numbers l n
  unfolding greatest_in
  greatest-folded = folded max 0 (greatest_in numbers l) refl (λ n. refl)

  least-folded : (n : ℕ) → l + n ≤ length numbers → fold min side (take n (drop l numbers)) ≡ least_in numbers l n
  unfolding least_in
  least-folded = folded min side (least_in numbers l) refl (λ n. refl)

  pub least-low : (n : ℕ) → least_in numbers l n ≤ side
  unfolding least_in
  least-low zero = omega arith
  least-low (suc n) = omega (arith, least-low n)

  -- not below the greatest: not below any; below the least: below each
  pub above_each : (n y : ℕ) → greatest_in numbers l n ≤ y → (c : ℕ) → l ≤ c → c < l + n → get_or numbers c 0 ≤ y
  unfolding greatest_in
  above_each zero y h c u v = absurd (omega arith)
  above_each (suc n) y h c u v =
      by_cases (ℕ_discrete c (l + n))
      (λ e. omega (arith, ap (λ z. get_or numbers z 0) e))
      (λ d. above_each n y (omega arith) c u (omega arith))

  pub above_greatest : (n y : ℕ) → ((c : ℕ) → l ≤ c → c < l + n → get_or numbers c 0 ≤ y) → greatest_in numbers l n ≤ y
  unfolding greatest_in
  above_greatest zero y h = omega arith
  above_greatest (suc n) y h = omega (arith, above_greatest n y (λ c u v. h c u (omega arith)), h (l + n) (omega arith) (omega arith))

  pub below_each : (n y : ℕ) → y < least_in numbers l n → (c : ℕ) → l ≤ c → c < l + n → y < get_or numbers c 0
  unfolding least_in
  below_each zero y h c u v = absurd (omega arith)
  below_each (suc n) y h c u v =
      by_cases (ℕ_discrete c (l + n))
      (λ e. omega (arith, ap (λ z. get_or numbers z 0) e))
      (λ d. below_each n y (omega arith) c u (omega arith))

  pub below-least : (n y : ℕ) → y < side → ((c : ℕ) → l ≤ c → c < l + n → y < get_or numbers c 0) → y < least_in numbers l n
  unfolding least_in
  below-least zero y s h = omega arith
  below-least (suc n) y s h = omega (arith, below-least n y s (λ c u v. h c u (omega arith)), h (l + n) (omega arith) (omega arith))

-- as the code has them: the part of the slice from the first column to before the end, which is empty where the end lies before the first
module _ (numbers : List ℕ) (first end : ℕ) (inside : end ≤ length numbers) where
  abbrev pub part : List ℕ
  part = take (end - min first end) (drop (min first end) numbers)

  pub greatest_part : fold max 0 part ≡ greatest_in numbers first (end - first)
  unfolding greatest_in
  greatest_part =
      by_cases (dec_le first end)
      (λ h. let e : min first end ≡ first = omega arith in ap (λ l. fold max 0 (take (end - l) (drop l numbers))) e ∙ greatest-folded numbers first (end - first) (omega arith))
      (λ h. let e : end - min first end ≡ 0 = omega arith in let o : end - first ≡ 0 = omega arith in rw (e, o))

  pub least_part : fold min side part ≡ least_in numbers first (end - first)
  unfolding least_in
  least_part =
      by_cases (dec_le first end)
      (λ h. let e : min first end ≡ first = omega arith in ap (λ l. fold min side (take (end - l) (drop l numbers))) e ∙ least-folded numbers first (end - first) (omega arith))
      (λ h. let e : end - min first end ≡ 0 = omega arith in let o : end - first ≡ 0 = omega arith in rw (e, o))
