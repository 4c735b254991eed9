-- Demand 3, over squares alone: a cover within the allowance exists exactly where the call succeeds, with a cover of the least number and as many marks;
-- else, and only then, the allowance is refused as short, with one mark more than the allowance.
-- Flashes and marks are equally many; no cover is shorter than the marks. So the allowance is short exactly where it is below their number.
use mathlib.Core.Path.{◌≡◌, refl, sym, ap, subst, ◌∙◌}
use mathlib.Core.List.{List}
use mathlib.Core.Logic.{by_cases, ◌⊎◌, inl, inr, ◌↔◌}
use Prim.Native.Nat.{ℕ, suc, ◌≤◌, ◌<◌}
use native.Mathlib.Omega.{arith}
use native.Mathlib.Decide.{dec_lt}
use lib.ListN.{length, take, length-take}
use borrow.Author.Tests.{lt-ltb, le-ltb}
use Rattle.grid.specs.Answers.{allowance_short}
use Rattle.grid.specs.Squares.{Area, InGrid, Unbroken, Cover, Evidence, copper_number}
use Rattle.grid.specs.Raster.{area_of}
use Rattle.grid.proofs.Areas.{area_in_grid}
use Rattle.grid.proofs.Pigeonhole.{pigeonhole, least}
use Rattle.cover.specs.Flashes.{flashes}
use Rattle.cover.specs.Marks.{marks}
use Rattle.cover.specs.Cover.{Given, Gives, short, covered, answered}
use Rattle.cover.specs.Demand3.{Asked, Fits, Met, Short, Demand}
use Rattle.cover.specs.declared.entry.Outcome.{Outcome}
use Rattle.cover.proofs.Covering.{flashes-cover}
use Rattle.cover.proofs.Independence.{evidence_take}
use Rattle.cover.proofs.MarkLaws.{marks_evidence, marks-flashes}
use Rattle.cover.proofs.Records.{flashes-read, marks-read}
use Rattle.cover.proofs.Checks.{asked-answered, answered-asked}

module _ (a : Area) (w h k : ℕ) (f m : List ℕ) (grid : InGrid w h a) (unbroken : Unbroken a) where
  -- a cover within the allowance exists exactly where the flashes are one
  fits-enough : Fits a k → length (flashes a w h) ≤ k
  fits-enough q = omega (arith, q.2, pigeonhole a q.0 (marks a w h) q.1 (marks_evidence a w h), marks-flashes a w h)

  enough-fits : length (flashes a w h) ≤ k → Fits a k
  enough-fits u = (flashes a w h, flashes-cover a w h grid unbroken, u)

  -- the two outcomes
  is-covered : length (flashes a w h) ≤ k → answered a w h k f m ≡ covered (copper_number a w h) (flashes a w h) (marks a w h) f m
  is-covered u = rw (le-ltb k (length (flashes a w h)) u)

  is-short : k < length (flashes a w h) → answered a w h k f m ≡ short (take (suc k) (marks a w h)) f m
  is-short u = rw (lt-ltb k (length (flashes a w h)) u)

  covered_met : Met a (covered (copper_number a w h) (flashes a w h) (marks a w h) f m)
  covered_met =
      let cover = flashes-cover a w h grid unbroken in
      record {
        done = refl;
        cover = subst (Cover a) (sym (flashes-read (flashes a w h) f)) cover;
        least = least a (flashes a w h) (marks a w h) cover (marks_evidence a w h) (sym (marks-flashes a w h));
        as_many = marks-flashes a w h;
        evidence = subst (Evidence a) (sym (marks-read (marks a w h) m)) (marks_evidence a w h);
      }

  short-short : k < length (flashes a w h) → Short a k (short (take (suc k) (marks a w h)) f m)
  short-short u =
      let ss = take (suc k) (marks a w h) in
      record {
        refused = refl;
        one_more = omega (arith, length-take (suc k) (marks a w h), marks-flashes a w h);
        evidence = subst (Evidence a) (sym (marks-read ss m)) (evidence_take a (suc k) (marks a w h) (marks_evidence a w h));
      }

  pub answered_demand : Demand a k (answered a w h k f m)
  answered_demand = record {
    covers = λ q. subst (Met a) (sym (is-covered (fits-enough q))) covered_met;
    refuses = λ n.
        let u : k < length (flashes a w h) = by_cases (dec_lt k (length (flashes a w h))) (λ z. z) (λ z. absurd (n (enough-fits (omega arith)))) in
        subst (Short a k) (sym (is-short u)) (short-short u);
    only_then = λ e q. let z : ◌≡◌ {A = ℕ} 0 9 = sym (ap (λ (g : Given). g.outcome.answer) (is-covered (fits-enough q))) ∙ e in omega arith;
  }

  -- done exactly where one fits, and else short
  pub answered-done : ((answered a w h k f m).outcome.answer ≡ 0) ↔ Fits a k
  answered-done = (
    λ e.
        by_cases (dec_lt k (length (flashes a w h)))
        (λ u. let z : ◌≡◌ {A = ℕ} 9 0 = sym (ap (λ (g : Given). g.outcome.answer) (is-short u)) ∙ e in absurd (omega arith))
        (λ u. enough-fits (omega arith)),
    λ q. ap (λ (g : Given). g.outcome.answer) (is-covered (fits-enough q)),
  )

  pub answered-number : ((answered a w h k f m).outcome.answer ≡ 0) ⊎ ((answered a w h k f m).outcome.answer ≡ allowance_short)
  answered-number =
      by_cases (dec_lt k (length (flashes a w h)))
      (λ u. inr (ap (λ (g : Given). g.outcome.answer) (is-short u)))
      (λ u. inl (ap (λ (g : Given). g.outcome.answer) (is-covered (omega arith))))

module _ (w h k : ℕ) (raster f m : List ℕ) (r : Outcome) (f' m' : List ℕ) (gives : Gives w h k raster f m r f' m') where
  module _ (asked : Asked w h k raster f m) where
    transfer : (P : Given → Type 0) → P (answered (area_of w h raster) w h k f m) → P (record { outcome = r; flashes_after = f'; marks_after = m' })
    transfer P = subst P (sym (gives ∙ asked-answered w h k raster f m asked))

    pub demand-3 : Demand (area_of w h raster) k (record { outcome = r; flashes_after = f'; marks_after = m' })
    demand-3 = transfer (Demand (area_of w h raster) k) (answered_demand (area_of w h raster) w h k f m (area_in_grid w h raster) asked.unbroken)

    -- the answer is 0 or 9, and 0 exactly where a cover within the allowance exists
    pub done-or-short : (r.answer ≡ 0) ⊎ (r.answer ≡ allowance_short)
    done-or-short =
        transfer (λ g. (g.outcome.answer ≡ 0) ⊎ (g.outcome.answer ≡ allowance_short))
        (answered-number (area_of w h raster) w h k f m (area_in_grid w h raster) asked.unbroken)

    pub done_where_fits : (r.answer ≡ 0) ↔ Fits (area_of w h raster) k
    done_where_fits =
        transfer (λ g. (g.outcome.answer ≡ 0) ↔ Fits (area_of w h raster) k)
        (answered-done (area_of w h raster) w h k f m (area_in_grid w h raster) asked.unbroken)

  -- and no other call is answered 0 or 9
  pub only-asked : (r.answer ≡ 0) ⊎ (r.answer ≡ allowance_short) → Asked w h k raster f m
  only-asked o =
      answered-asked w h k raster f m (subst (λ (g : Given). (g.outcome.answer ≡ 0) ⊎ (g.outcome.answer ≡ allowance_short)) gives o)
