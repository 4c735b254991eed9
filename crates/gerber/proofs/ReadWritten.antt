-- Reading our own file back (document 02, R-2 and R-9), of the outcomes of the two exported functions: a file that was written with success, read with its pitch and
-- origin and under either version into a room that is large enough, gives the same flashes, byte for byte. By what a success of the writer is, and `read_back`.
use mathlib.Core.Path.{◌≡◌, refl, sym, ap, subst, ◌∙◌}
use mathlib.Core.Bool.{true, false}
use mathlib.Core.List.{List}
use mathlib.Core.Logic.{by_cases, inl}
use Prim.Native.Nat.{ℕ, ◌*◌, ◌≤◌}
use native.Mathlib.Decide.{ℕ_discrete}
use native.Mathlib.Omega.{arith}
use lib.Dec.{ltb}
use lib.IntN.{ℤ}
use lib.ListN.{length, take, drop}
use lib.Seq.{take_at, drop_at}
use borrow.Author.Tests.{le-leb}
use Rattle.lists.specs.Lists.{gather}
use Rattle.lists.proofs.Truth.{bcase}
use Rattle.grid.specs.Limits.{side, flash_room_size, flash_record}
use Rattle.grid.specs.Answers.{first_refusal}
use Rattle.grid.specs.Squares.{Rectangle, copper_number}
use Rattle.grid.specs.Raster.{area_of}
use Rattle.grid.specs.Rooms.{written}
use Rattle.grid.specs.declared.answers.Answer.{Answer}
use Rattle.grid.proofs.Writing.{from_start}
use Rattle.cover.specs.Flashes.{flashes}
use Rattle.cover.specs.Marks.{marks}
use Rattle.cover.specs.Records.{flash_bytes, flashes_in}
use Rattle.cover.specs.Cover as Cover
use Rattle.cover.specs.Cover.{covered, answered, cover_gives}
use Rattle.cover.proofs.Checks.{answered-asked, asked-answered}
use Rattle.cover.proofs.Records.{flashes-length}
use Rattle.gerber.specs.File.{gerber_file, version_known, pitch_fits, centres_fit}
use Rattle.gerber.specs.Writing.{Given, filed, file_checks, write_gives, WritesGerber}
use Rattle.gerber.specs.Reading as Reading
use Rattle.gerber.specs.Reading.{read_gives, ReadsGerber}
use Rattle.gerber.specs.SameFlashes.{SameFlashes}
use Rattle.gerber.specs.declared.write.WriteOutcome.{WriteOutcome}
use Rattle.gerber.specs.declared.read.ReadOutcome.{ReadOutcome}
use Rattle.gerber.proofs.GridSizes.{Drawns, held-drawn}
use Rattle.gerber.proofs.Aside.{Told, told}
use Rattle.gerber.proofs.FileChecks.{format_passes, checks-passed}
use Rattle.gerber.proofs.Filing.{not_covered, write_refused, write_done}
use Rattle.gerber.proofs.ReadBack.{read_back}
use Rattle.gerber.proofs.ReadOutcomes.{read_all}

-- what is written from a room's first byte on
taken : (room bytes : List ℕ) (n : ℕ) → length bytes ≡ n → take n (written room 0 bytes) ≡ bytes
taken room bytes n e = ap (take n) (from_start room bytes) ∙ take_at bytes (drop (length bytes) room) n e

left : (room bytes : List ℕ) (n : ℕ) → length bytes ≡ n → drop n (written room 0 bytes) ≡ drop n room
left room bytes n e = ap (drop n) (from_start room bytes) ∙ drop_at bytes (drop (length bytes) room) n e ∙ ap (λ (j : ℕ). drop j room) e

module _ (w h k : ℕ) (raster f m : List ℕ) where
  abbrev ours : List Rectangle
  ours = flashes (area_of w h raster) w h

  abbrev our_cover : Cover.Given
  our_cover = covered (copper_number (area_of w h raster) w h) ours (marks (area_of w h raster) w h) f m

  -- a success of the cover is the cover
  is-short : ltb k (length ours) ≡ true → (answered (area_of w h raster) w h k f m).outcome.answer ≡ 9
  is-short u = rw u

  is-covered : ltb k (length ours) ≡ false → answered (area_of w h raster) w h k f m ≡ our_cover
  is-covered u = rw u

  done-covered : (cover_gives w h k raster f m).outcome.answer ≡ 0 → cover_gives w h k raster f m ≡ our_cover
  done-covered z =
      let e = asked-answered w h k raster f m (answered-asked w h k raster f m (inl z)) in
      let n : (answered (area_of w h raster) w h k f m).outcome.answer ≡ 0 = sym (ap (λ (g : Cover.Given). g.outcome.answer) e) ∙ z in
      e ∙ bcase (ltb k (length ours)) (λ u. absurd (omega (arith, is-short u))) is-covered

  module _ (version pitch : ℕ) (x y : ℤ) (t : List ℕ) where
    -- a success of the writer: the cover, and the file of its flashes
    record Wrote : Type 0 where
      is : write_gives w h k raster version pitch x y f m t ≡ filed our_cover t (gerber_file version pitch x y ours)
      fits : pitch_fits pitch ≡ true
      centres : centres_fit pitch x y ours ≡ true
      few : length ours ≤ side
      drawn : Drawns ours

    abbrev checked : Cover.Given → Answer
    checked g = first_refusal (file_checks version pitch x y (flashes_in g.outcome.flashes g.flashes_after) (length t))

    filed-wrote : (cover_gives w h k raster f m).outcome.answer ≡ 0 → Told w h k raster f m (cover_gives w h k raster f m) → (checked (cover_gives w h k raster f m)).number ≡ 0 → Wrote
    filed-wrote z T p =
        let g : Cover.Given = cover_gives w h k raster f m in
        let e = T.ruled z in
        let c = checks-passed version pitch x y (flashes_in g.outcome.flashes g.flashes_after) (length t) p in
        let d = held-drawn g.outcome.flashes g.flashes_after (T.held z) in
        let n : g.outcome.flashes ≡ length ours = ap (λ (o : Cover.Given). o.outcome.flashes) (done-covered z) in
        record {
          is = sym (write_done w h k raster version pitch x y f m t T z refl p) ∙ (λ i. filed ((sym T.lent ∙ done-covered z) i) t (gerber_file version pitch x y (e i)));
          fits = c.0;
          centres = subst (λ qs. centres_fit pitch x y qs ≡ true) e c.1;
          few = omega (arith, T.few-flashes);
          drawn = subst Drawns e d;
        }

    wrote : (write_gives w h k raster version pitch x y f m t).outcome.answer ≡ 0 → Wrote
    wrote done =
        by_cases (ℕ_discrete (cover_gives w h k raster f m).outcome.answer 0)
        (λ z.
        let q = answered-asked w h k raster f m (inl z) in
        let T = told w h k raster f m f m q.flashes-fit q.marks-fit q.flashes-fit q.marks-fit refl in
        by_cases (ℕ_discrete (checked (cover_gives w h k raster f m)).number 0)
        (filed-wrote z T)
        (λ n. absurd (n (ap (λ (g : Given). g.outcome.answer) (write_refused w h k raster version pitch x y f m t T z refl n) ∙ done))))
        (λ n. absurd (n (sym (ap (λ (g : Given). g.outcome.answer) (not_covered w h k raster version pitch x y f m t n)) ∙ done)))

    module _ {r : WriteOutcome} {f' m' t' : List ℕ} (written-so : WritesGerber w h k raster version pitch x y f m t r f' m' t') (success : r.answer ≡ 0) where
      W : Wrote
      W = wrote (ap (λ (g : Given). g.outcome.answer) (sym written-so) ∙ success)

      whole : record { outcome = r; flashes_after = f'; marks_after = m'; file_after = t' } ≡ filed our_cover t (gerber_file version pitch x y ours)
      whole = written-so ∙ W.is

      counted : r.flashes ≡ length ours
      counted = ap (λ (g : Given). g.outcome.flashes) whole

      -- the bytes of the file
      text : take r.length t' ≡ gerber_file version pitch x y ours
      text =
          let file : List ℕ = gerber_file version pitch x y ours in
          ap (take r.length) (ap (λ (g : Given). g.file_after) whole) ∙ taken t file r.length (sym (ap (λ (g : Given). g.outcome.length) whole))

      -- of every outcome of the reader, under either version
      pub read-written : (either : ℕ) {g : List ℕ} {o : ReadOutcome} {g' : List ℕ} → version_known either ≡ true → flash_room_size ≤ length g
          → ReadsGerber either pitch x y (take r.length t') g o g' → SameFlashes r f' g o g'
      read-written either {g} {o} {g'} known room e =
          let file : List ℕ = gerber_file version pitch x y ours in
          let bytes : List ℕ = gather flash_bytes ours in
          let q = e ∙ ap (λ (b : List ℕ). read_gives either pitch x y b g) text
          ∙ read_all either pitch x y file g (le-leb flash_room_size (length g) room) (format_passes either pitch known W.fits) (read_back version pitch x y ours W.fits W.drawn W.centres W.few) in
          let there : g' ≡ written g 0 bytes = ap (λ (u : Reading.Given). u.flashes_after) q in
          let here : f' ≡ written f 0 bytes = ap (λ (u : Given). u.flashes_after) whole in
          let n : length bytes ≡ r.flashes * flash_record = flashes-length ours ∙ ap (λ (j : ℕ). j * flash_record) (sym counted) in
          record {
            answered = ap (λ (u : Reading.Given). u.outcome.answer) q;
            many = ap (λ (u : Reading.Given). u.outcome.flashes) q ∙ sym counted;
            records = ap (take (r.flashes * flash_record)) there ∙ taken g bytes (r.flashes * flash_record) n
                ∙ sym (ap (take (r.flashes * flash_record)) here ∙ taken f bytes (r.flashes * flash_record) n);
            rest = ap (drop (r.flashes * flash_record)) there ∙ left g bytes (r.flashes * flash_record) n;
          }
