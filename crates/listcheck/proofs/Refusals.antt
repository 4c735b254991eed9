-- The checks as the code makes them, in three parts, are the chain: what a call gives is the first refusal, or the verdict.
-- The cover's checks are asked with the room that they want for flashes, so that one never refuses. From the chain's laws (grid); the entry point uses it.
use mathlib.Core.Path.{◌≡◌, refl, sym, ap, ◌∙◌}
use mathlib.Core.List.{List, [], ◌∷◌, ◌++◌}
use Prim.Native.Nat.{ℕ}
use lib.Dec.{leb}
use lib.ListN.{length}
use borrow.Author.Tests.{eq-eqb, ne_eqb}
use Rattle.grid.specs.Limits.{allowance_limit, flash_room_size, mark_room_size}
use Rattle.std.specs.Prelude.{Result, Ok, Err}
use Rattle.grid.specs.Answers.{done, check, or_else, first_refusal, answer_of, answered, size_out, raster_length, mark_room_short, allowance_out}
use Rattle.grid.specs.Raster.{size_fits, length_fits, area_of}
use Rattle.grid.specs.declared.answers.Answer.{Answer}
use Rattle.grid.specs.declared.answers.Refusal.{Refusal}
use Rattle.grid.specs.declared.raster.Raster.{Raster}
use denote.Ref.{Bor}
use Rattle.grid.proofs.Chain.{Passes, chain-stops, chain-goes-on}
use Rattle.grid.proofs.Refusals.{refuses as numbered}
use Rattle.columns.specs.Columns.{raster_checks}
use Rattle.cover.specs.Code.{size_checks}
use Rattle.listcheck.specs.FlashList.{flashes_of}
use Rattle.listcheck.specs.Checked.{Given, refused_at, judged, list_checks, checks, or_verdict, check_gives, Gives}

module _ (a : Answer) (m : List ℕ) (verdict : Given) where
  pub refuses : (Passes a → ⊥) → or_verdict a m verdict ≡ refused_at a m
  unfolding or_verdict
  refuses n = rw (ne_eqb a.number 0 n)

  pub passes : Passes a → or_verdict a m verdict ≡ verdict
  unfolding or_verdict
  passes e = rw (eq-eqb a.number 0 e)

abbrev job_sizes : ℕ → ℕ → ℕ → ℕ → ℕ → List Answer
job_sizes w h k n m =
    check (size_fits w h) size_out
    ∷ check (length_fits w h n) raster_length
    ∷ check (leb mark_room_size m) mark_room_short
    ∷ check (leb k allowance_limit) allowance_out
    ∷ []

sizes-same : (w h k n m : ℕ) → first_refusal (size_checks w h k n flash_room_size m) ≡ first_refusal (job_sizes w h k n m)
unfolding first_refusal or_else
sizes-same w h k n m = refl

module _ (w h k : ℕ) (raster list m : List ℕ) where
  abbrev later : List Answer
  later = raster_checks w h raster ++ list_checks list

  abbrev sizes : List Answer
  sizes = job_sizes w h k (length raster) (length m)

  gives-refused : (r : Refusal) → answer_of r ≡ first_refusal (checks w h k raster list m) → Gives w h k raster list m (refused_at (answer_of r) []).outcome m
  unfolding check_gives
  gives-refused r e =
      let j = judged (area_of w h raster) w h (flashes_of list) m in
      sym (ap (λ a. or_verdict a m j) (sym e) ∙ refuses (answer_of r) m j (numbered r))

  gives-passed : {g : Given} → done ≡ first_refusal (checks w h k raster list m) → g ≡ judged (area_of w h raster) w h (flashes_of list) m → g ≡ check_gives w h k raster list m
  unfolding check_gives
  gives-passed e g =
      let j = judged (area_of w h raster) w h (flashes_of list) m in
      g ∙ sym (ap (λ a. or_verdict a m j) (sym e) ∙ passes done m j refl)

  module _ {T : Type 0} (x : Result T Refusal) (first : answered x ≡ first_refusal (size_checks w h k (length raster) flash_room_size (length m))) where
    sized : answered x ≡ first_refusal sizes
    sized = first ∙ sizes-same w h k (length raster) (length m)

    pub sizes-refuse : {r : Refusal} → x ≡ Err r → Gives w h k raster list m (refused_at (answer_of r) []).outcome m
    sizes-refuse q = gives-refused _ (chain-stops sizes later sized q)

    module _ {t : T} (fits : x ≡ Ok t) (y : Result (Unit {0}) Refusal) (second : answered y ≡ first_refusal (raster_checks w h raster)) where
      past_sizes : first_refusal (checks w h k raster list m) ≡ first_refusal later
      past_sizes = chain-goes-on sizes later sized fits

      pub raster-refuses : {r : Refusal} → y ≡ Err r → Gives w h k raster list m (refused_at (answer_of r) []).outcome m
      raster-refuses q = gives-refused _ (chain-stops (raster_checks w h raster) (list_checks list) second q ∙ sym past_sizes)

      module _ {u : Unit {0}} (whole : y ≡ Ok u) (z : Result ℕ Refusal) (third : answered z ≡ first_refusal (list_checks list)) where
        past_raster : first_refusal (checks w h k raster list m) ≡ first_refusal (list_checks list)
        past_raster = past_sizes ∙ chain-goes-on (raster_checks w h raster) (list_checks list) second whole

        pub list-refuses : {r : Refusal} → z ≡ Err r → Gives w h k raster list m (refused_at (answer_of r) []).outcome m
        list-refuses q = gives-refused _ (sym (ap answered q) ∙ third ∙ sym past_raster)

        pub gives-judged : {n : ℕ} {g : Given} → z ≡ Ok n → g ≡ judged (area_of w h raster) w h (flashes_of list) m → g ≡ check_gives w h k raster list m
        gives-judged q e = gives-passed (sym (ap answered q) ∙ third ∙ sym past_raster) e

-- what is said of a raster is said of its width, its height and its bytes
pub of-raster : {w h : ℕ} (r : Raster) {b : Bor (List ℕ)} {a : Answer} → (r.size.width ≡ w) × (r.size.height ≡ h) × (r.bytes ≡ b)
    → a ≡ first_refusal (raster_checks r.size.width r.size.height r.bytes.now) → a ≡ first_refusal (raster_checks w h b.now)
of-raster r s e = e ∙ (λ i. first_refusal (raster_checks (s.0 i) (s.1 i) ((s.2 i).now)))
