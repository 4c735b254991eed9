-- On success the printed lines are those of the flashes and marks that document 01's rules give, in the rules' order, with their number, the copper number and the flashed area.
-- The rooms hold those lists (demand 2), and the lines are read off the rooms, record by record.
use mathlib.Core.Path.{◌≡◌, refl, ap, ◌∙◌}
use mathlib.Core.List.{List, [], ◌∷◌, ◌++◌, map}
use Prim.Native.Nat.{ℕ, zero, suc, ◌+◌, ◌*◌, ◌≤◌, ◌<◌}
use native.Mathlib.Omega.{arith}
use lib.Dec.{ltb}
use lib.ListN.{length, drop, length-take, length-drop}
use Rattle.lists.specs.Lists.{gather, from}
use Rattle.lists.proofs.Truth.{bcase}
use Rattle.grid.specs.Limits.{side, flash_record, mark_record}
use Rattle.grid.specs.Squares.{Area, copper_number}
use Rattle.grid.specs.Raster.{area_of}
use Rattle.cover.specs.Flashes.{flashes, flashed_area}
use Rattle.cover.specs.Marks.{marks}
use Rattle.cover.specs.Records.{flash_bytes, mark_bytes, flash_of, mark_of, flash_in, mark_in, flashes_in, marks_in}
use Rattle.cover.specs.Cover.{Given, answered, cover_gives}
use Rattle.cover.proofs.Covering.{flashes-short}
use Rattle.cover.proofs.MarkLaws.{marks-flashes}
use Rattle.cover.proofs.Checks.{outcomes}
use Rattle.cover.proofs.Rooms.{rooms_kept}
use Rattle.cover.proofs.Demand2.{demand-2}
use Rattle.text.specs.Line.{line, record_lines}
use Rattle.grid.specs.Rooms.{record_in}
use Rattle.text.proofs.Ahead.{record_inside}
use Rattle.printed.specs.Printed.{cover_word, flash_word, mark_word, flash_lines, mark_lines, printed}
use Rattle.printed.proofs.Forms.{print_cover}

-- the bytes of a record are those that its reading says
two : (r : List ℕ) → length r ≡ mark_record → r ≡ mark_bytes (mark_of r)
two [] e = absurd (omega arith)
two (a ∷ []) e = absurd (omega arith)
two (a ∷ b ∷ []) e = refl
two (a ∷ b ∷ c ∷ r) e = absurd (omega arith)

four : (r : List ℕ) → length r ≡ flash_record → r ≡ flash_bytes (flash_of r)
four [] e = absurd (omega arith)
four (a ∷ []) e = absurd (omega arith)
four (a ∷ b ∷ []) e = absurd (omega arith)
four (a ∷ b ∷ c ∷ []) e = absurd (omega arith)
four (a ∷ b ∷ c ∷ d ∷ []) e = refl
four (a ∷ b ∷ c ∷ d ∷ e ∷ r) x = absurd (omega arith)

whole : (size n : ℕ) (room : List ℕ) → n * size ≤ length room → (k : ℕ) → k < n → length (record_in size room k) ≡ size
whole size n room h k l = omega (arith, record_inside size n k (length room) l h, length-take size (drop (k * size) room), length-drop (k * size) room)

-- so the lines of a room's records are those of the records' readings
lines-read : {A : Type 0} (g : ℕ → List ℕ) (each : A → List ℕ) (at : ℕ → A) (a n : ℕ) → ((k : ℕ) → k < a + n → g k ≡ each (at k)) → gather g (from a n) ≡ gather each (map at (from a n))
lines-read g each at a zero same = refl
lines-read g each at a (suc n) same =
    ap (◌++ gather g (from (suc a) n)) (same a (omega arith))
    ∙ ap (each (at a) ++◌) (lines-read g each at (suc a) n (λ k h. same k (omega arith)))

pub flash-lines : (n : ℕ) (f : List ℕ) → n * flash_record ≤ length f → flash_lines n f ≡ gather (λ q. line flash_word (flash_bytes q)) (flashes_in n f)
unfolding record_lines flashes_in
flash-lines n f h =
    lines-read (λ k. line flash_word (record_in flash_record f k)) (λ q. line flash_word (flash_bytes q)) (flash_in f) 0 n
    (λ k l. ap (line flash_word) (four (record_in flash_record f k) (whole flash_record n f h k (omega arith))))

mark-lines : (n : ℕ) (m : List ℕ) → n * mark_record ≤ length m → mark_lines n m ≡ gather (λ s. line mark_word (mark_bytes s)) (marks_in n m)
unfolding record_lines marks_in
mark-lines n m h =
    lines-read (λ k. line mark_word (record_in mark_record m k)) (λ s. line mark_word (mark_bytes s)) (mark_in m) 0 n
    (λ k l. ap (line mark_word) (two (record_in mark_record m k) (whole mark_record n m h k (omega arith))))

-- the rooms hold the records
abbrev Held : List ℕ → List ℕ → Given → Type 0
Held f m g = (g.outcome.flashes * flash_record ≤ length f) × (g.outcome.marks * mark_record ≤ length m)

answered-held : (a : Area) (w h k : ℕ) (f m : List ℕ) → w ≤ side → side * flash_record ≤ length f → side * mark_record ≤ length m → Held f m (answered a w h k f m)
answered-held a w h k f m narrow x y =
    let n = flashes-short a w h in
    let e = marks-flashes a w h in
    bcase (ltb k (length (flashes a w h)))
    (λ t. rw t (omega arith, omega (arith, length-take (suc k) (marks a w h))))
    (λ t. rw t (omega arith, omega arith))

held : (w h k : ℕ) (raster f m : List ℕ) → Held f m (cover_gives w h k raster f m)
held w h k raster f m =
    outcomes w h k raster f m (Held f m)
    (λ n x y l u. (omega arith, omega arith))
    (λ q. answered-held (area_of w h raster) w h k f m q.wide.1 q.flashes-fit q.marks-fit)

pub ruled : (w h k : ℕ) (raster f m : List ℕ) →
    let a = area_of w h raster in
    let g = cover_gives w h k raster f m in
    g.outcome.answer ≡ 0
    → printed g.outcome g.flashes_after g.marks_after
    ≡ line cover_word (length (flashes a w h) ∷ copper_number a w h ∷ flashed_area (flashes a w h) ∷ [])
    ++ (gather (λ q. line flash_word (flash_bytes q)) (flashes a w h) ++ gather (λ s. line mark_word (mark_bytes s)) (marks a w h))
ruled w h k raster f m e =
    let g = cover_gives w h k raster f m in
    let s = demand-2 w h k raster f m g.outcome g.flashes_after g.marks_after refl e in
    let r = rooms_kept w h k raster f m g.outcome g.flashes_after g.marks_after refl in
    let l = held w h k raster f m in
    print_cover g.outcome g.marks_after g.flashes_after e
    ∙ rw (
      flash-lines g.outcome.flashes g.flashes_after (omega (arith, r.0.as_long)),
      mark-lines g.outcome.marks g.marks_after (omega (arith, r.1.as_long)),
      s.flashes-ruled,
      s.marks-ruled,
      s.flash-count,
      s.copper-number,
      s.flashed-area,
      s.flashes-ruled,
    )
