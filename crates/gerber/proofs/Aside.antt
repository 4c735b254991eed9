-- A cover held back: what the cover gives in rooms of one's own tells what it gives in the lent rooms. The same numbers, and the records put into the lent rooms.
-- Both rooms are long enough, so the checks say the same; refusals write nothing. `keekaboor_write_gerber` stands on it.
use mathlib.Core.Path.{◌≡◌, refl, sym, ap, subst, ◌∙◌}
use mathlib.Core.Bool.{true, false}
use mathlib.Core.List.{List, [], ◌∷◌, map}
use mathlib.Core.Logic.{◌⊎◌, inl, inr}
use Prim.Native.Nat.{ℕ, zero, suc, ◌+◌, ◌*◌, ◌≤◌, ◌<◌}
use native.Mathlib.Nat.{add-zero, zero-add}
use native.Mathlib.Omega.{arith}
use lib.Dec.{leb, ltb}
use lib.ListN.{length, take, drop, length-take}
use lib.Seq.{take_at}
use borrow.Author.Tests.{le-leb}
use Rattle.lists.specs.Lists.{gather, from}
use Rattle.lists.proofs.Truth.{bcase}
use Rattle.lists.proofs.Members.{In}
use Rattle.lists.proofs.Pairs.{in_at}
use Rattle.grid.specs.Limits.{side, flash_room_size, mark_room_size, flash_record, mark_record}
use Rattle.grid.specs.Answers.{check, check_at, first_refusal, size_out, raster_length, flash_room_short, mark_room_short, allowance_out, bad_byte, broken_column, allowance_short}
use Rattle.grid.specs.Raster.{size_fits, length_fits, area_of, bad_square, broken_square}
use Rattle.grid.specs.Squares.{Rectangle, Square, rectangle_at, copper_number}
use Rattle.grid.specs.Rooms.{written}
use Rattle.grid.specs.declared.answers.Answer.{Answer}
use Rattle.grid.proofs.Areas.{area_in_grid}
use Rattle.grid.proofs.Chain.{Passes, pcase}
use Rattle.grid.proofs.Writing.{written_none, from_start, length-written}
use Rattle.cover.specs.Code.{Drawn}
use Rattle.cover.specs.Cover.{Given, refused_at, short, covered, answered, cover_checks, or_work, cover_gives}
use Rattle.cover.specs.Demand3.{Asked}
use Rattle.cover.specs.Flashes.{flashes}
use Rattle.cover.specs.Marks.{marks}
use Rattle.cover.specs.Records.{flash_bytes, mark_bytes, flashes_written, flash_in, flashes_in}
use Rattle.cover.proofs.Checks.{answered-asked}
use Rattle.cover.proofs.Refusals.{refuses, works}
use Rattle.cover.proofs.Covering.{flashes-short, flash-copper, flash-fits}
use Rattle.cover.proofs.MarkLaws.{marks-flashes}
use Rattle.cover.proofs.Records.{flashes-length, marks-length, flashes-read}
use Rattle.gerber.specs.Code.{FlashesHeld}

-- the bytes written from the room's first byte on are its first ones
taken : (room bytes : List ℕ) (n : ℕ) → length bytes ≡ n → take n (written room 0 bytes) ≡ bytes
taken room bytes n e = ap (take n) (from_start room bytes) ∙ take_at bytes (drop (length bytes) room) n e

-- the records of a call, put into the lent rooms f and m
abbrev pub moved : List ℕ → List ℕ → Given → Given
moved f m g = record {
  outcome = g.outcome;
  flashes_after = written f 0 (take (g.outcome.flashes * flash_record) g.flashes_after);
  marks_after = written m 0 (take (g.outcome.marks * mark_record) g.marks_after);
}

-- what a call in rooms of one's own tells of the same call in the lent rooms
pub record Told (w h k : ℕ) (raster f m : List ℕ) (g : Given) : Type 0 where
  pub lent : cover_gives w h k raster f m ≡ moved f m g
  pub few-flashes : g.outcome.flashes ≤ side
  pub few-marks : g.outcome.marks ≤ side
  pub held : g.outcome.answer ≡ 0 → FlashesHeld g.outcome.flashes g.flashes_after
  pub ruled : g.outcome.answer ≡ 0 → flashes_in g.outcome.flashes g.flashes_after ≡ flashes (area_of w h raster) w h
  pub none : (g.outcome.answer ≡ 0 → ⊥) → g.outcome.flashes ≡ 0

-- a record by its place in the list
flash-listed : (n : ℕ) (room : List ℕ) (k : ℕ) → k < n → rectangle_at (flashes_in n room) k ≡ flash_in room k
unfolding flashes_in
flash-listed n room k l = at 0 n k l ∙ ap (flash_in room) (zero-add k)
  where
    at : (a m j : ℕ) → j < m → rectangle_at (map (flash_in room) (from a m)) j ≡ flash_in room (a + j)
    at a zero j l = absurd (omega arith)
    at a (suc m) zero l = ap (flash_in room) (sym (add-zero a))
    at a (suc m) (suc j) l = let e : suc a + j ≡ a + suc j = omega arith in at (suc a) m j (omega arith) ∙ ap (flash_in room) e

answered-either : (w h k : ℕ) (raster f m : List ℕ) → let g = answered (area_of w h raster) w h k f m in (g.outcome.answer ≡ 0) ⊎ (g.outcome.answer ≡ allowance_short)
answered-either w h k raster f m = bcase (ltb k (length (flashes (area_of w h raster) w h))) (λ u. rw u (inr refl)) (λ u. rw u (inl refl))

module _ (w h k : ℕ) (raster f m f₁ m₁ : List ℕ) (lf : flash_room_size ≤ length f) (lm : mark_room_size ≤ length m) (lf₁ : flash_room_size ≤ length f₁) (lm₁ : mark_room_size ≤ length m₁) where
  same-checks : first_refusal (cover_checks w h k raster f m) ≡ first_refusal (cover_checks w h k raster f₁ m₁)
  same-checks =
      let ef : leb flash_room_size (length f) ≡ leb flash_room_size (length f₁) = le-leb flash_room_size (length f) lf ∙ sym (le-leb flash_room_size (length f₁) lf₁) in
      let em : leb mark_room_size (length m) ≡ leb mark_room_size (length m₁) = le-leb mark_room_size (length m) lm ∙ sym (le-leb mark_room_size (length m₁) lm₁) in
      λ i. first_refusal (
      check (size_fits w h) size_out
      ∷ check (length_fits w h (length raster)) raster_length
      ∷ check (ef i) flash_room_short
      ∷ check (em i) mark_room_short
      ∷ check (leb k side) allowance_out
      ∷ check_at (bad_square w raster) bad_byte
      ∷ check_at (broken_square (area_of w h raster) w h) broken_column
      ∷ [])

  refused-told : (a : Answer) → first_refusal (cover_checks w h k raster f₁ m₁) ≡ a → (Passes a → ⊥) → Told w h k raster f m (refused_at a.number a.x a.y f₁ m₁)
  unfolding cover_gives
  refused-told a e n = record {
    lent = ap (λ b. or_work b f m (answered (area_of w h raster) w h k f m)) (same-checks ∙ e) ∙ refuses a f m _ n
        ∙ (λ i. record { outcome = (refused_at a.number a.x a.y f m).outcome; flashes_after = sym (written_none f 0) i; marks_after = sym (written_none m 0) i });
    few-flashes = omega arith;
    few-marks = omega arith;
    held = λ z. absurd (n z);
    ruled = λ z. absurd (n z);
    none = λ z. refl;
  }

  -- marks alone
  short-told : (ss : List Square) → length ss ≤ side → cover_gives w h k raster f m ≡ short ss f m → Told w h k raster f m (short ss f₁ m₁)
  short-told ss few e = record {
    lent =
        e
        ∙ (λ i. record {
          outcome = (short ss f m).outcome;
          flashes_after = sym (written_none f 0) i;
          marks_after = written m 0 (sym (taken m₁ (gather mark_bytes ss) (length ss * mark_record) (marks-length ss)) i);
        });
    few-flashes = omega arith;
    few-marks = few;
    held = λ z. absurd (omega arith);
    ruled = λ z. absurd (omega arith);
    none = λ z. refl;
  }

  -- flashes and marks
  covered-told : (n : ℕ) (ss : List Square) → let qs = flashes (area_of w h raster) w h in length qs ≤ side → length ss ≤ side → ((q : Rectangle) → In q qs → Drawn q)
      → cover_gives w h k raster f m ≡ covered n qs ss f m → Told w h k raster f m (covered n qs ss f₁ m₁)
  covered-told n ss few marked drawn e =
      let qs : List Rectangle = flashes (area_of w h raster) w h in
      let room : List ℕ = flashes_written qs f₁ in
      let many : length (gather flash_bytes qs) ≡ length qs * flash_record = flashes-length qs in
      let wide : length room ≡ length f₁ = length-written f₁ 0 (gather flash_bytes qs) (omega arith) in
      record {
        lent =
            e
            ∙ (λ i. record {
              outcome = (covered n qs ss f m).outcome;
              flashes_after = written f 0 (sym (taken f₁ (gather flash_bytes qs) (length qs * flash_record) many) i);
              marks_after = written m 0 (sym (taken m₁ (gather mark_bytes ss) (length ss * mark_record) (marks-length ss)) i);
            });
        few-flashes = few;
        few-marks = marked;
        held = λ z. record {
          few = few;
          held = omega arith;
          drawn =
              λ j l. subst Drawn (sym (ap (λ ps. rectangle_at ps j) (flashes-read qs f₁)) ∙ flash-listed (length qs) room j l)
              (drawn (rectangle_at qs j) (in_at qs (record { first = 0; last = 0; bottom = 0; top = 0 }) j l));
        };
        ruled = λ z. flashes-read qs f₁;
        none = λ z. absurd (z refl);
      }

  passed-told : Passes (first_refusal (cover_checks w h k raster f₁ m₁)) → Told w h k raster f m (answered (area_of w h raster) w h k f₁ m₁)
  unfolding cover_gives
  passed-told p =
      let a = area_of w h raster in
      let inner : cover_gives w h k raster f₁ m₁ ≡ answered a w h k f₁ m₁ = works (first_refusal (cover_checks w h k raster f₁ m₁)) f₁ m₁ _ p in
      let outer : cover_gives w h k raster f m ≡ answered a w h k f m = works (first_refusal (cover_checks w h k raster f m)) f m _ (ap (λ (b : Answer). b.number) same-checks ∙ p) in
      let q : Asked w h k raster f₁ m₁ =
      answered-asked w h k raster f₁ m₁ (subst (λ (g : Given). (g.outcome.answer ≡ 0) ⊎ (g.outcome.answer ≡ allowance_short)) (sym inner) (answered-either w h k raster f₁ m₁)) in
      let few : length (flashes a w h) ≤ side = omega (arith, flashes-short a w h, q.wide) in
      let marked : length (marks a w h) ≤ side = omega (arith, marks-flashes a w h) in
      bcase (ltb k (length (flashes a w h)))
      (λ u. subst (Told w h k raster f m) (sym (is-short f₁ m₁ u)) (short-told (take (suc k) (marks a w h)) (omega (arith, length-take (suc k) (marks a w h))) (outer ∙ is-short f m u)))
      (λ u. subst (Told w h k raster f m) (sym (is-covered f₁ m₁ u)) (covered-told (copper_number a w h) (marks a w h) few marked (all-drawn q) (outer ∙ is-covered f m u)))
    where
      is-short : (f m : List ℕ) → ltb k (length (flashes (area_of w h raster) w h)) ≡ true → answered (area_of w h raster) w h k f m ≡ short (take (suc k) (marks (area_of w h raster) w h)) f m
      is-short f m u = rw u

      is-covered : (f m : List ℕ) → ltb k (length (flashes (area_of w h raster) w h)) ≡ false → answered (area_of w h raster) w h k f m
          ≡ covered (copper_number (area_of w h raster) w h) (flashes (area_of w h raster) w h) (marks (area_of w h raster) w h) f m
      is-covered f m u = rw u

      all-drawn : Asked w h k raster f₁ m₁ → (q : Rectangle) → In q (flashes (area_of w h raster) w h) → Drawn q
      all-drawn asked q i =
          let c = flash-copper (area_of w h raster) w h (area_in_grid w h raster) asked.unbroken q i in
          let l = flash-fits (area_of w h raster) w h (area_in_grid w h raster) asked.unbroken q i in
          record { wide = c.wide; narrow = omega (arith, asked.wide); tall = c.high; low = omega (arith, asked.high) }

  pub told : {g : Given} → g ≡ cover_gives w h k raster f₁ m₁ → Told w h k raster f m g
  unfolding cover_gives
  told e =
      let a = first_refusal (cover_checks w h k raster f₁ m₁) in
      subst (Told w h k raster f m) (sym e)
      (pcase a
      (λ p. subst (Told w h k raster f m) (sym (works a f₁ m₁ _ p)) (passed-told p))
      (λ n. subst (Told w h k raster f m) (sym (refuses a f₁ m₁ _ n)) (refused-told a refl n)))
