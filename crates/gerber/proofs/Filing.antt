-- The four ways out of `keekaboor_write_gerber`: a short room, the cover's refusal, a refusal of the file, and the file.
use mathlib.Core.Path.{◌≡◌, sym, ap, ◌∙◌}
use mathlib.Core.Bool.{Bool, true, false, ◌&&◌}
use mathlib.Core.List.{List}
use mathlib.Core.Logic.{inl}
use Prim.Native.Nat.{ℕ, ◌*◌, ◌≤◌}
use lib.Dec.{leb}
use lib.IntN.{ℤ}
use lib.ListN.{length, take}
use borrow.Author.Tests.{le-leb, leb-true, eq-eqb, ne_eqb}
use Rattle.lists.proofs.Truth.{never, and_left, and_right, and_both}
use Rattle.grid.specs.Limits.{flash_room_size, mark_room_size, flash_record, mark_record}
use Rattle.grid.specs.Answers.{first_refusal}
use Rattle.grid.specs.Raster.{area_of}
use Rattle.grid.specs.Rooms.{written}
use Rattle.grid.specs.declared.answers.Answer.{Answer}
use Rattle.grid.proofs.Writing.{written_none}
use Rattle.cover.specs.Code.{outcome_of}
use Rattle.cover.specs.Cover as Cover
use Rattle.cover.specs.Cover.{cover_gives, refused_at}
use Rattle.cover.specs.Flashes.{flashes}
use Rattle.cover.specs.Records.{flashes_in}
use Rattle.cover.proofs.Checks.{answered-asked}
use Rattle.gerber.specs.File.{gerber_file}
use Rattle.gerber.specs.Writing.{with_length, no_file, filed, file_checks, or_file, write_gives}
use Rattle.gerber.proofs.Aside.{moved, Told}

-- both rooms are long enough
pub rooms-hold : (f m : ℕ) {b : Bool} → b ≡ (leb flash_room_size f && leb mark_room_size m) → b ≡ true → (flash_room_size ≤ f) × (mark_room_size ≤ m)
rooms-hold f m e t =
    let u = sym e ∙ t in
    (leb-true flash_room_size f (and_left (leb flash_room_size f) (leb mark_room_size m) u), leb-true mark_room_size m (and_right (leb flash_room_size f) (leb mark_room_size m) u))

module _ (w h k : ℕ) (raster : List ℕ) (version pitch : ℕ) (x y : ℤ) (f m t : List ℕ) where
  -- what the cover refuses
  pub not_covered : ((cover_gives w h k raster f m).outcome.answer ≡ 0 → ⊥) → write_gives w h k raster version pitch x y f m t ≡ no_file (cover_gives w h k raster f m) t
  unfolding write_gives
  not_covered n = rw (ne_eqb (cover_gives w h k raster f m).outcome.answer 0 n)

  is-covered : (cover_gives w h k raster f m).outcome.answer ≡ 0
      → write_gives w h k raster version pitch x y f m t
      ≡ or_file (first_refusal (file_checks version pitch x y (flashes (area_of w h raster) w h) (length t))) (cover_gives w h k raster f m) f m t
      (gerber_file version pitch x y (flashes (area_of w h raster) w h))
  unfolding write_gives
  is-covered e = rw (eq-eqb (cover_gives w h k raster f m).outcome.answer 0 e)

  pub write_short : {g : Cover.Given} → g ≡ cover_gives w h k raster f m → (leb flash_room_size (length f) && leb mark_room_size (length m)) ≡ false → no_file g t
      ≡ write_gives w h k raster version pitch x y f m t
  write_short e u =
      ap (λ (g : Cover.Given). no_file g t) e
      ∙ sym (not_covered (λ z.
      let q = answered-asked w h k raster f m (inl z) in
      never (and_both (leb flash_room_size (length f)) (leb mark_room_size (length m)) (le-leb flash_room_size (length f) q.flashes-fit) (le-leb mark_room_size (length m) q.marks-fit)) u))

  module _ {g : Cover.Given} (T : Told w h k raster f m g) where
    answers : (cover_gives w h k raster f m).outcome.answer ≡ g.outcome.answer
    answers = ap (λ (c : Cover.Given). c.outcome.answer) T.lent

    pub write_none : (g.outcome.answer ≡ 0 → ⊥)
        → record { outcome = with_length g.outcome 0; flashes_after = f; marks_after = written m 0 (take (g.outcome.marks * mark_record) g.marks_after); file_after = t }
        ≡ write_gives w h k raster version pitch x y f m t
    write_none n =
        let e : f ≡ written f 0 (take (g.outcome.flashes * flash_record) g.flashes_after) = sym (ap (λ c. written f 0 (take (c * flash_record) g.flashes_after)) (T.none n) ∙ written_none f 0) in
        (λ i. record { outcome = with_length g.outcome 0; flashes_after = e i; marks_after = written m 0 (take (g.outcome.marks * mark_record) g.marks_after); file_after = t })
        ∙ ap (λ (c : Cover.Given). no_file c t) (sym T.lent)
        ∙ sym (not_covered (λ z. n (sym answers ∙ z)))

    module _ (z : g.outcome.answer ≡ 0) where
      module _ {a : Answer} (e : a ≡ first_refusal (file_checks version pitch x y (flashes_in g.outcome.flashes g.flashes_after) (length t))) where
        given : write_gives w h k raster version pitch x y f m t ≡ or_file a (moved f m g) f m t (gerber_file version pitch x y (flashes_in g.outcome.flashes g.flashes_after))
        given =
            is-covered (answers ∙ z)
            ∙ ap (λ qs. or_file (first_refusal (file_checks version pitch x y qs (length t))) (cover_gives w h k raster f m) f m t (gerber_file version pitch x y qs)) (sym (T.ruled z))
            ∙ (λ i. or_file (sym e i) (T.lent i) f m t (gerber_file version pitch x y (flashes_in g.outcome.flashes g.flashes_after)))

        pub write_refused : (a.number ≡ 0 → ⊥) → record { outcome = with_length (outcome_of a) 0; flashes_after = f; marks_after = m; file_after = t }
            ≡ write_gives w h k raster version pitch x y f m t
        unfolding or_file
        write_refused n = sym (given ∙ rw (ne_eqb a.number 0 n))

        pub write_done : a.number ≡ 0
            → filed (moved f m g) t (gerber_file version pitch x y (flashes_in g.outcome.flashes g.flashes_after)) ≡ write_gives w h k raster version pitch x y f m t
        unfolding or_file
        write_done n = sym (given ∙ rw (eq-eqb a.number 0 n))
