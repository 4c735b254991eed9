-- A turn of a file's flashes by what stands there: a select, the end, or neither. `take_turn` goes by the three laws.
use mathlib.Core.Path.{◌≡◌, sym, ap, ◌∙◌}
use mathlib.Core.Bool.{cond, ◌&&◌}
use mathlib.Core.List.{List}
use mathlib.Core.Option.{none}
use Prim.Native.Nat.{ℕ, ◌+◌, ◌^◌, ◌<◌}
use native.Mathlib.Omega.{arith}
use lib.IntN.{ℤ}
use lib.ListN.{length}
use Rattle.lists.proofs.Searches.{first-within}
use Rattle.std.specs.Prelude.{Some, None}
use Rattle.text.specs.Words.{stands, word_at}
use Rattle.text.proofs.Passes.{found-spot}
use Rattle.gerber.specs.File.{select_line, end_line}
use Rattle.gerber.specs.declared.sizes.Size.{Size}
use Rattle.gerber.specs.Reading.{may_select, select_at, selected, flash_at, flash_turn, end_turn, after_select, turned}
use Rattle.gerber.specs.Parts.{found_of, Sound}
use Rattle.gerber.specs.declared.turns.Reached.{Reached}
use Rattle.gerber.proofs.ApertureRead.{not_found, found_at}
use Rattle.gerber.proofs.Compared.{found_nothing}

module _ (pitch : ℕ) (x y : ℤ) (text : List ℕ) (sizes : List Size) (count : ℕ) (len : length sizes ≡ count) (s : Reached) where
  module _ {k next : ℕ} (e : found_of (select_at text count s) (λ j. s.at + length (select_line j)) ≡ Some (k, next)) where
    pub select_bound : k < count
    unfolding select_at
    select_bound = omega (arith, (first-within (λ j. stands text s.at (select_line j) && may_select s j) 0 count (found_at (select_at text count s) (λ j. s.at + length (select_line j)) e).0).1)

    pub select-past : next ≡ s.at + length (select_line k)
    select-past = sym (found_at (select_at text count s) (λ j. s.at + length (select_line j)) e).1

    pub turned-select : turned pitch x y text sizes s ≡ flash_turn pitch x y (selected s k) (flash_at pitch x y text sizes (selected s k))
    unfolding turned
    turned-select = ap (after_select pitch x y text sizes s) (ap (λ (n : ℕ). select_at text n s) len ∙ (found_at (select_at text count s) (λ j. s.at + length (select_line j)) e).0)

  module _ (e : found_of (select_at text count s) (λ j. s.at + length (select_line j)) ≡ None) where
    unselected : turned pitch x y text sizes s ≡ after_select pitch x y text sizes s none
    unfolding turned
    unselected = ap (after_select pitch x y text sizes s) (ap (λ (n : ℕ). select_at text n s) len ∙ not_found (select_at text count s) (λ j. s.at + length (select_line j)) e)

    pub turned-end : {end : ℕ} → word_at text s.at end_line ≡ Some end → turned pitch x y text sizes s ≡ end_turn text count s
    unfolding word_at
    turned-end f =
        unselected
        ∙ ap (λ b. cond b (end_turn text (length sizes) s) (flash_turn pitch x y s (flash_at pitch x y text sizes s))) (found-spot (stands text s.at end_line) (s.at + length end_line) f).0
        ∙ ap (λ (n : ℕ). end_turn text n s) len

    pub end-past : {end : ℕ} → word_at text s.at end_line ≡ Some end → end ≡ s.at + length end_line
    unfolding word_at
    end-past f = sym (found-spot (stands text s.at end_line) (s.at + length end_line) f).1

    pub turned_on : word_at text s.at end_line ≡ None → turned pitch x y text sizes s ≡ flash_turn pitch x y s (flash_at pitch x y text sizes s)
    unfolding word_at
    turned_on f =
        unselected
        ∙ ap (λ b. cond b (end_turn text (length sizes) s) (flash_turn pitch x y s (flash_at pitch x y text sizes s))) (found_nothing (stands text s.at end_line) (s.at + length end_line) f)

pub selected-sound : (count : ℕ) (s : Reached) (k : ℕ) → k < count → Sound count s → s.line + 1 < 2 ^ 32 → Sound count (selected s k)
selected-sound count s k h o l = record { line = l; used = omega (arith, o.used); current = λ j e. let p : k ≡ j = cc in omega (arith, p, h) }
