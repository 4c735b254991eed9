-- What the check tells, over squares alone, of every outcome that meets its contract: `told` where it is not refused, `refused` where it is.
-- The chain's elimination law parts the two; `judged` has three ways, and Sound says what each means. The least number is that of our flashes.
use mathlib.Core.Path.{◌≡◌, refl, sym, ap, subst, ◌∙◌}
use mathlib.Core.List.{List}
use mathlib.Core.Logic.{◌↔◌, inl, inr}
use mathlib.Core.Option.{none, some}
use Prim.Native.Nat.{ℕ}
use native.Mathlib.Omega.{arith}
use lib.ListN.{length}
use Rattle.lists.proofs.Truth.{ocase, never}
use Rattle.lists.proofs.Members.{In}
use Rattle.lists.proofs.Pairs.{in_at}
use Rattle.grid.specs.Answers.{first_refusal}
use Rattle.grid.specs.Squares.{Area, InGrid, Unbroken, Rectangle, Square, Least, Evidence, rectangle_at}
use Rattle.grid.specs.Raster.{area_of, broken_square}
use Rattle.grid.proofs.Areas.{area_in_grid}
use Rattle.grid.proofs.Broken.{raster-unbroken}
use Rattle.grid.proofs.Chain.{Passes, pcase, chain-passed, check_at-passed}
use Rattle.grid.proofs.Pigeonhole as Pigeonhole
use Rattle.cover.specs.Flashes.{flashes}
use Rattle.cover.specs.Marks.{marks}
use Rattle.cover.proofs.Covering.{flashes-cover}
use Rattle.cover.proofs.MarkLaws.{marks_evidence, marks-flashes}
use Rattle.cover.proofs.Records.{marks-read}
use Rattle.listcheck.specs.FlashList.{flashes_of}
use Rattle.listcheck.specs.Verdict.{bad_line, bare_square}
use Rattle.listcheck.specs.Checked.{Given, sound, bad_at, bare_at, sound_with, judged, checks, check_gives, Gives}
use Rattle.listcheck.specs.Told.{Told, Refused}
use Rattle.listcheck.specs.declared.entry.Checked.{Checked}
use Rattle.listcheck.proofs.Sound as Sound
use Rattle.listcheck.proofs.Judged.{judged-bad, judged-bare, judged-sound}
use Rattle.listcheck.proofs.Refusals.{refuses, passes}

module _ (a : Area) (w h : ℕ) (grid : InGrid w h a) (unbroken : Unbroken a) (qs : List Rectangle) (m : List ℕ) where
  least-number : Least a (length (marks a w h))
  least-number =
      subst (Least a) (sym (marks-flashes a w h))
      (Pigeonhole.least a (flashes a w h) (marks a w h) (flashes-cover a w h grid unbroken) (marks_evidence a w h) (sym (marks-flashes a w h)))

  told-bad : {line : ℕ} → bad_line a w h qs ≡ some line → Told a qs m (bad_at (length qs) line m)
  told-bad {line} e =
      let b = Sound.first-bad a w h 1 qs e in
      record {
        counted = refl;
        verdict = inr (inl refl);
        is-sound = (λ z. absurd (omega arith), λ c. absurd (missing-bad (Sound.cover-good a w h grid qs c)));
        weighed = λ z. absurd (omega arith);
        first-bad = λ z. record {
          place = b.place;
          in-line = omega (arith, b.there);
          inside = b.inside;
          is-bad = λ i. never ((Sound.good-copper a (rectangle_at qs b.place) w h grid).1 i) b.is-bad;
          before = λ j u. (Sound.good-copper a (rectangle_at qs j) w h grid).0 (b.before j u);
        };
        first-bare = λ z. absurd (omega arith);
        untouched = λ z. refl;
      }
    where
      missing-bad : bad_line a w h qs ≡ none → ⊥
      missing-bad n = let z : ◌≡◌ {A = ℕ} 0 1 = cc in omega arith

  told-bare : bad_line a w h qs ≡ none → {s : Square} → bare_square a w h qs ≡ some s → Told a qs m (bare_at (length qs) s m)
  told-bare good {s} e = record {
    counted = refl;
    verdict = inr (inr refl);
    is-sound = (λ z. absurd (omega arith), λ c. absurd (missing-bare (Sound.cover-held a w h grid qs c)));
    weighed = λ z. absurd (omega arith);
    first-bad = λ z. absurd (omega arith);
    first-bare = λ z. record {
      no_bad = λ k u. (Sound.good-copper a (rectangle_at qs k) w h grid).0 (Sound.all-good a w h 1 qs good (rectangle_at qs k) (in_at qs (record { first = 0; last = 0; bottom = 0; top = 0 }) k u));
      copper = Sound.bare-copper a w h qs grid s e;
      is-bare = λ i. never (Sound.some-held a w h qs s i) (Sound.bare_unheld a w h qs grid s e);
      before = λ t o c. Sound.held-some a w h qs t (Sound.before-held a w h qs grid s e t o c);
    };
    untouched = λ z. refl;
  }
    where
      missing-bare : bare_square a w h qs ≡ none → ⊥
      missing-bare n = let z : ◌≡◌ {A = ℕ} 0 1 = cc in omega arith

  told-sound : bad_line a w h qs ≡ none → bare_square a w h qs ≡ none → Told a qs m (sound_with a w h (length qs) m)
  told-sound good held =
      let cover = Sound.covers a w h grid qs good held in
      record {
        counted = refl;
        verdict = inl refl;
        is-sound = (λ z. cover, λ c. refl);
        weighed = λ z. record {
          least = least-number;
          above = omega (arith, least-number.fewest qs cover, marks-flashes a w h);
          evidence = subst (Evidence a) (sym (marks-read (marks a w h) m)) (marks_evidence a w h);
        };
        first-bad = λ z. absurd (omega arith);
        first-bare = λ z. absurd (omega arith);
        untouched = λ z. absurd (z refl);
      }

  judged-told : Told a qs m (judged a w h qs m)
  judged-told =
      ocase (bad_line a w h qs)
      (λ good.
      ocase (bare_square a w h qs)
      (λ held. subst (Told a qs m) (judged-sound a w h qs m refl good held refl) (told-sound good held))
      (λ s e. subst (Told a qs m) (judged-bare a w h qs m refl good e refl) (told-bare good e)))
      (λ line e. subst (Told a qs m) (judged-bad a w h qs m refl e refl) (told-bad e))

  judged-done : (judged a w h qs m).outcome.answer ≡ 0
  judged-done =
      ocase (bad_line a w h qs)
      (λ good.
      ocase (bare_square a w h qs)
      (λ held. sym (ap (λ (g : Given). g.outcome.answer) (judged-sound a w h qs m refl good held refl)))
      (λ s e. sym (ap (λ (g : Given). g.outcome.answer) (judged-bare a w h qs m refl good e refl))))
      (λ line e. sym (ap (λ (g : Given). g.outcome.answer) (judged-bad a w h qs m refl e refl)))

module _ (w h k : ℕ) (raster list m : List ℕ) where
  -- what passes every check has no broken column
  passed-unbroken : Passes (first_refusal (checks w h k raster list m)) → Unbroken (area_of w h raster)
  passed-unbroken e =
      (raster-unbroken w h raster).0 (check_at-passed (broken_square (area_of w h raster) w h) 7 (chain-passed (checks w h k raster list m) e).1.1.1.1.1.0)

  -- the two kinds of call
  gives-told : ((check_gives w h k raster list m).outcome.answer ≡ 0 → Told (area_of w h raster) (flashes_of list) m (check_gives w h k raster list m))
      × (((check_gives w h k raster list m).outcome.answer ≡ 0 → ⊥) → Refused m (check_gives w h k raster list m))
  unfolding check_gives
  gives-told =
      let a = first_refusal (checks w h k raster list m) in
      let j = judged (area_of w h raster) w h (flashes_of list) m in
      pcase a
      (λ e.
      let p = passes a m j e in
      let t = judged-told (area_of w h raster) w h (area_in_grid w h raster) (passed-unbroken e) (flashes_of list) m in (
        λ z. subst (Told (area_of w h raster) (flashes_of list) m) (sym p) t,
        λ n. absurd (n (ap (λ (g : Given). g.outcome.answer) p ∙ judged-done (area_of w h raster) w h (area_in_grid w h raster) (passed-unbroken e) (flashes_of list) m)),
      ))
      (λ n.
      let p = refuses a m j n in (
        λ z. absurd (n (sym (ap (λ (g : Given). g.outcome.answer) p) ∙ z)),
        λ z. subst (Refused m) (sym p) (record { no-verdict = refl; no-flashes = refl; none_above = refl; no-marks = refl; untouched = refl }),
      ))

module _ (w h k : ℕ) (raster list m : List ℕ) (r : Checked) (m' : List ℕ) (gives : Gives w h k raster list m r m') where
  pub told : r.answer ≡ 0 → Told (area_of w h raster) (flashes_of list) m (record { outcome = r; marks_after = m' })
  told e = subst (Told (area_of w h raster) (flashes_of list) m) (sym gives) ((gives-told w h k raster list m).0 (sym (ap (λ (g : Given). g.outcome.answer) gives) ∙ e))

  pub refused : (r.answer ≡ 0 → ⊥) → Refused m (record { outcome = r; marks_after = m' })
  refused n = subst (Refused m) (sym gives) ((gives-told w h k raster list m).1 (λ e. n (ap (λ (g : Given). g.outcome.answer) gives ∙ e)))

  -- so a sound list with none above is a least cover
  pub least_list : r.answer ≡ 0 → r.verdict ≡ sound → r.above ≡ 0 → Least (area_of w h raster) (length (flashes_of list))
  least_list e v z =
      let t = (told e).weighed v in
      subst (Least (area_of w h raster)) (omega (arith, t.above)) t.least

-- the verdict sound does not depend on the order of lines, nor on how often a flash stands there: two lists of the same flashes
pub any_order : (w h k : ℕ) (raster list other m : List ℕ) (r s : Checked) (m' m'' : List ℕ)
    → Gives w h k raster list m r m' → Gives w h k raster other m s m'' → r.answer ≡ 0 → s.answer ≡ 0
    → ((q : Rectangle) → In q (flashes_of list) ↔ In q (flashes_of other)) → (r.verdict ≡ sound) ↔ (s.verdict ≡ sound)
any_order w h k raster list other m r s m' m'' g f e d same =
    let t = (told w h k raster list m r m' g e).is-sound in
    let u = (told w h k raster other m s m'' f d).is-sound in (
      λ v. u.1 (Sound.cover-same (area_of w h raster) (flashes_of list) (flashes_of other) same (t.0 v)),
      λ v. t.1 (Sound.cover-same (area_of w h raster) (flashes_of other) (flashes_of list) (λ q. ((same q).1, (same q).0)) (u.0 v)),
    )
