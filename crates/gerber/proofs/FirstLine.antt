-- The two versions of a file differ in their first line alone: the sizes, the flashes and the coordinates stand in the rest, which names no version.
-- Then of every two calls of the writer that differ in the version alone: the same answer, place and numbers, the same flashes and marks, and files with the same rest.
use mathlib.Core.Path.{◌≡◌, refl, sym, ap, subst, ◌∙◌}
use mathlib.Core.Bool.{Bool, true}
use mathlib.Core.List.{List, [], ◌∷◌, ◌++◌, append_assoc}
use mathlib.Core.Logic.{by_cases, inl}
use mathlib.Core.Option.{none}
use Prim.Native.Nat.{ℕ, ◌≤◌}
use native.Mathlib.Decide.{ℕ_discrete}
use native.Mathlib.Nat.{zero-add}
use native.Mathlib.Omega.{arith}
use lib.Dec.{leb}
use lib.IntN.{ℤ}
use lib.ListN.{length, take}
use Rattle.grid.specs.Limits.{file_room_size}
use Rattle.grid.specs.Answers.{check, first_refusal, version_unknown, pitch_out, centre_out, file_room_short}
use Rattle.grid.specs.Raster.{area_of}
use Rattle.grid.specs.Rooms.{written}
use Rattle.grid.specs.Squares.{Rectangle}
use Rattle.grid.specs.declared.answers.Answer.{Answer}
use Rattle.grid.proofs.Chain.{Passes}
use Rattle.grid.proofs.Writing.{through-written}
use Rattle.cover.specs.Cover as Cover
use Rattle.cover.specs.Cover.{cover_gives}
use Rattle.cover.specs.Flashes.{flashes}
use Rattle.cover.specs.Records.{flashes_in}
use Rattle.cover.specs.declared.entry.Outcome.{Outcome}
use Rattle.cover.proofs.Checks.{answered-asked}
use Rattle.gerber.specs.File.{first_line, format_line, unit_line, aperture_lines, flash_lines, apertures, end_line, gerber_file, version_known, pitch_fits, centres_fit}
use Rattle.gerber.specs.Writing.{Given, filed, file_checks, write_gives, WritesGerber}
use Rattle.gerber.specs.declared.write.WriteOutcome.{WriteOutcome}
use Rattle.gerber.proofs.Aside.{moved, Told, told}
use Rattle.gerber.proofs.FileChecks.{file-fits}
use Rattle.gerber.proofs.Filing.{not_covered, write_refused, write_done}

-- the lines of a file behind its first
abbrev pub later_lines : ℕ → ℤ → ℤ → List Rectangle → List ℕ
later_lines pitch x y qs = format_line ++ (unit_line ++ (aperture_lines pitch 0 (apertures qs) ++ (flash_lines pitch x y (apertures qs) none qs ++ end_line)))

pub first_alone : (version pitch : ℕ) (x y : ℤ) (qs : List Rectangle) → gerber_file version pitch x y qs ≡ first_line version ++ later_lines pitch x y qs
unfolding gerber_file
first_alone version pitch x y qs = append_assoc (first_line version) (format_line ++ unit_line) (aperture_lines pitch 0 (apertures qs) ++ (flash_lines pitch x y (apertures qs) none qs ++ end_line))

-- what a call tells of the cover: all of its numbers but the file's length
abbrev pub cover_of : WriteOutcome → Outcome
cover_of o = record { answer = o.answer; place_x = o.place_x; place_y = o.place_y; flashes = o.flashes; marks = o.marks; copper = o.copper; flashed = o.flashed }

-- the file that a call wrote
abbrev pub file_of : Given → List ℕ
file_of g = take g.outcome.length g.file_after

-- what calls under versions v and v' gave, where rest is what their files have behind the first line
pub record Alike (v v' : ℕ) (rest : List ℕ) (g g' : Given) : Type 0 where
  pub numbers : cover_of g.outcome ≡ cover_of g'.outcome
  pub flashes-same : g.flashes_after ≡ g'.flashes_after
  pub marks-same : g.marks_after ≡ g'.marks_after
  pub refused : (g.outcome.answer ≡ 0 → ⊥) → g ≡ g'
  pub files : g.outcome.answer ≡ 0 → (file_of g ≡ first_line v ++ rest) × (file_of g' ≡ first_line v' ++ rest)

alike_self : (v v' : ℕ) (rest : List ℕ) (g : Given) → (g.outcome.answer ≡ 0 → ⊥) → Alike v v' rest g g
alike_self v v' rest g n = record { numbers = refl; flashes-same = refl; marks-same = refl; refused = λ m. refl; files = λ z. absurd (n z) }

file-front : (t text : List ℕ) → length text ≤ length t → take (length text) (written t 0 text) ≡ text
file-front t text fits = ap (λ n. take n (written t 0 text)) (sym (zero-add (length text))) ∙ through-written t 0 text (omega arith)

module _ (w h k : ℕ) (raster : List ℕ) (pitch : ℕ) (x y : ℤ) (f m t : List ℕ) where
  abbrev covered : Cover.Given
  covered = cover_gives w h k raster f m

  abbrev listed : List Rectangle
  listed = flashes_in covered.outcome.flashes covered.flashes_after

  abbrev pub rest : List ℕ
  rest = later_lines pitch x y (flashes (area_of w h raster) w h)

  abbrev checked : ℕ → Answer
  checked version = first_refusal (file_checks version pitch x y listed (length t))

  -- the file of a call that was not refused
  filed-front : (version : ℕ) → Told w h k raster f m covered → covered.outcome.answer ≡ 0 → Passes (checked version)
      → file_of (filed (moved f m covered) t (gerber_file version pitch x y listed)) ≡ first_line version ++ rest
  filed-front version T z p =
      file-front t (gerber_file version pitch x y listed) (file-fits version pitch x y covered.outcome.flashes covered.flashes_after (length t) (T.held z) p)
      ∙ first_alone version pitch x y listed
      ∙ ap (λ qs. first_line version ++ later_lines pitch x y qs) (T.ruled z)

  module _ (v v' : ℕ) (known : version_known v ≡ true) (known' : version_known v' ≡ true) where
    checked-same : checked v ≡ checked v'
    checked-same =
        ap (λ (b : Bool). first_refusal
        (check b version_unknown ∷ check (pitch_fits pitch) pitch_out ∷ check (centres_fit pitch x y listed) centre_out ∷ check (leb file_room_size (length t)) file_room_short ∷ []))
        (known ∙ sym known')

    abbrev Both : Given → Given → Type 0
    Both g g' = Alike v v' rest g g'

    both : {a b g g' : Given} → a ≡ g → b ≡ g' → Both a b → Both g g'
    both {a} {b} {g} {g'} e e' s = subst (λ (c : Given). Both c g') e (subst (Both a) e' s)

    covered_alike : covered.outcome.answer ≡ 0 → Told w h k raster f m covered → Both (write_gives w h k raster v pitch x y f m t) (write_gives w h k raster v' pitch x y f m t)
    covered_alike z T =
        by_cases (ℕ_discrete (checked v).number 0)
        (λ p. both (write_done w h k raster v pitch x y f m t T z refl p) (write_done w h k raster v' pitch x y f m t T z refl (passes p)) (record {
          numbers = refl;
          flashes-same = refl;
          marks-same = refl;
          refused = λ n. absurd (n z);
          files = λ _. (filed-front v T z p, filed-front v' T z (passes p));
        }))
        (λ n. both (write_refused w h k raster v pitch x y f m t T z refl n) (write_refused w h k raster v' pitch x y f m t T z checked-same n) (alike_self v v' rest _ n))
      where
        passes : Passes (checked v) → Passes (checked v')
        passes p = sym (ap (λ (a : Answer). a.number) checked-same) ∙ p

    gives_alike : Both (write_gives w h k raster v pitch x y f m t) (write_gives w h k raster v' pitch x y f m t)
    gives_alike =
        by_cases (ℕ_discrete covered.outcome.answer 0)
        (λ z.
        let q = answered-asked w h k raster f m (inl z) in
        covered_alike z (told w h k raster f m f m q.flashes-fit q.marks-fit q.flashes-fit q.marks-fit refl))
        (λ n. both (sym (not_covered w h k raster v pitch x y f m t n)) (sym (not_covered w h k raster v' pitch x y f m t n)) (alike_self v v' rest _ n))

    -- of every two outcomes that fit the contract of `keekaboor_write_gerber`
    pub versions_alike : {g g' : Given} → WritesGerber w h k raster v pitch x y f m t g.outcome g.flashes_after g.marks_after g.file_after
        → WritesGerber w h k raster v' pitch x y f m t g'.outcome g'.flashes_after g'.marks_after g'.file_after → Alike v v' rest g g'
    versions_alike e e' = both (sym e) (sym e') gives_alike
