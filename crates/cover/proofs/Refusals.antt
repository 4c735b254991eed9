-- What a call gives is the first check's answer that refuses, or the work. The entry point uses it.
use mathlib.Core.Path.{◌≡◌, refl, sym, ap, ◌∙◌}
use mathlib.Core.List.{List}
use Prim.Native.Nat.{ℕ}
use borrow.Author.Tests.{eq-eqb, ne_eqb}
use Rattle.grid.specs.Answers.{done, answer_of, first_refusal}
use Rattle.grid.specs.Raster.{area_of}
use Rattle.grid.specs.declared.answers.Answer.{Answer}
use Rattle.grid.specs.declared.answers.Refusal.{Refusal}
use Rattle.grid.proofs.Chain.{Passes}
use Rattle.grid.proofs.Refusals as Codes
use Rattle.cover.specs.Cover.{Given, refused_at, cover_checks, or_work, answered, cover_gives, Gives}
use Rattle.cover.specs.Code.{outcome_of}
use Rattle.cover.specs.declared.entry.Outcome.{Outcome}

module _ (a : Answer) (f m : List ℕ) (work : Given) where
  pub refuses : (Passes a → ⊥) → or_work a f m work ≡ refused_at a.number a.x a.y f m
  unfolding or_work
  refuses e = rw (ne_eqb a.number 0 e)

  pub works : Passes a → or_work a f m work ≡ work
  unfolding or_work
  works e = rw (eq-eqb a.number 0 e)

-- the two ways out of the entry point: by a refusal, and by the work
module _ (w h k : ℕ) (raster f m : List ℕ) where
  pub gives-refused : (r : Refusal) {o : Outcome} → answer_of r ≡ first_refusal (cover_checks w h k raster f m) → o ≡ outcome_of (answer_of r) → Gives w h k raster f m o f m
  unfolding cover_gives
  gives-refused r q e =
      let work = answered (area_of w h raster) w h k f m in
      (λ i. record { outcome = e i; flashes_after = f; marks_after = m })
      ∙ sym (ap (λ z. or_work z f m work) (sym q) ∙ refuses (answer_of r) f m work (Codes.refuses r))

  pub gives_worked : {g : Given} → done ≡ first_refusal (cover_checks w h k raster f m) → g ≡ answered (area_of w h raster) w h k f m → g ≡ cover_gives w h k raster f m
  unfolding cover_gives
  gives_worked q e =
      let work = answered (area_of w h raster) w h k f m in
      e ∙ sym (ap (λ z. or_work z f m work) (sym q) ∙ works done f m work refl)
