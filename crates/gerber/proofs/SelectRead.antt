-- A select read part by part: its letter, and then a number among those that may stand there. `read_select` goes by the two laws.
use mathlib.Core.Path.{◌≡◌, ap, ◌∙◌}
use mathlib.Core.Bool.{Bool, ◌&&◌, and_comm}
use mathlib.Core.List.{List, ◌++◌}
use Prim.Native.Nat.{ℕ, ◌+◌}
use native.Mathlib.Omega.{arith}
use lib.ListN.{length}
use Rattle.lists.specs.Lists.{first, up_to}
use Rattle.lists.proofs.Members.{none_first}
use Rattle.std.specs.Prelude.{Some, None}
use Rattle.text.specs.Words.{stands, word_at}
use Rattle.text.proofs.Stands.{stands-append}
use Rattle.text.proofs.Passes.{found-spot}
use Rattle.gerber.specs.File.{bytes, select_line}
use Rattle.gerber.specs.Reading.{may_select, select_at}
use Rattle.gerber.specs.Parts.{found_of, number_line, found_select}
use Rattle.gerber.specs.declared.turns.Reached.{Reached}
use Rattle.gerber.proofs.Compared.{found_nothing}

module _ (text : List ℕ) (count : ℕ) (s : Reached) where
  pub select-none : word_at text s.at (bytes "D") ≡ None → found_of (select_at text count s) (λ k. s.at + length (select_line k)) ≡ None
  unfolding select_at select_line word_at
  select-none e =
      let f = found_nothing (stands text s.at (bytes "D")) (s.at + 1) e in
      ap (λ o. found_of o (λ k. s.at + length (bytes "D" ++ number_line k)))
      (none_first (λ k. stands text s.at (bytes "D" ++ number_line k) && may_select s k) (up_to count) (λ k m. rw (stands-append text s.at (bytes "D") (number_line k), f)))

  pub select-then : {number : ℕ} → word_at text s.at (bytes "D") ≡ Some number → found_of (select_at text count s) (λ k. s.at + length (select_line k)) ≡ found_select text number count s
  unfolding select_at found_select select_line word_at
  select-then {number} e =
      let f = found-spot (stands text s.at (bytes "D")) (s.at + 1) e in
      let one : (k : ℕ) → (stands text s.at (bytes "D" ++ number_line k) && may_select s k) ≡ (may_select s k && stands text number (number_line k)) =
      λ k.
      ap (λ (b : Bool). b && may_select s k) (stands-append text s.at (bytes "D") (number_line k) ∙ (λ i. f.0 i && stands text (f.1 i) (number_line k)))
      ∙ and_comm (stands text number (number_line k)) (may_select s k) in
      let past : (k : ℕ) → s.at + length (bytes "D" ++ number_line k) ≡ number + length (number_line k) = λ k. omega (arith, f.1) in
      λ i. found_of (first (λ k. one k i) (up_to count)) (λ k. past k i)
