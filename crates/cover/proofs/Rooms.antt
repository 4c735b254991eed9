-- Of every outcome: both rooms keep their lengths, and every byte past the records stays as it was.
-- A refusal changes nothing; no more records are written than the largest grid has columns, and the rooms that pass the checks hold them.
use mathlib.Core.Path.{refl, sym, subst}
use mathlib.Core.List.{List}
use Prim.Native.Nat.{ℕ, suc, ◌≤◌}
use native.Mathlib.Omega.{arith}
use lib.Dec.{ltb}
use lib.ListN.{length, take, length-take}
use Rattle.lists.specs.Lists.{gather}
use Rattle.lists.proofs.Truth.{bcase}
use Rattle.grid.specs.Limits.{side, flash_room_size, mark_room_size, flash_record, mark_record}
use Rattle.grid.specs.Squares.{Area, Rectangle, Square}
use Rattle.grid.specs.Raster.{area_of}
use Rattle.grid.specs.Rooms.{Kept}
use Rattle.grid.proofs.Writing.{kept}
use Rattle.cover.specs.Flashes.{flashes}
use Rattle.cover.specs.Marks.{marks}
use Rattle.cover.specs.Records.{flash_bytes, mark_bytes, flashes_written, marks_written}
use Rattle.cover.specs.Cover.{Given, Gives, answered}
use Rattle.cover.specs.declared.entry.Outcome.{Outcome}
use Rattle.cover.proofs.Covering.{flashes-short}
use Rattle.cover.proofs.MarkLaws.{marks-flashes}
use Rattle.cover.proofs.Records.{flashes-length, marks-length}
use Rattle.cover.proofs.Checks.{outcomes}

untouched : (room : List ℕ) (size : ℕ) → Kept room room 0 size
untouched room size = record { as_long = refl; beyond = λ i u. refl }

flashes-kept : (qs : List Rectangle) (room : List ℕ) → length qs ≤ side → flash_room_size ≤ length room → Kept room (flashes_written qs room) (length qs) flash_record
flashes-kept qs room u v = kept room (gather flash_bytes qs) (length qs) flash_record (flashes-length qs) (omega (arith, flashes-length qs))

marks-kept : (ss : List Square) (room : List ℕ) → length ss ≤ side → mark_room_size ≤ length room → Kept room (marks_written ss room) (length ss) mark_record
marks-kept ss room u v = kept room (gather mark_bytes ss) (length ss) mark_record (marks-length ss) (omega (arith, marks-length ss))

abbrev BothKept : List ℕ → List ℕ → Given → Type 0
BothKept f m g = Kept f g.flashes_after g.outcome.flashes flash_record × Kept m g.marks_after g.outcome.marks mark_record

answered-kept : (a : Area) (w h k : ℕ) (f m : List ℕ) → w ≤ side → flash_room_size ≤ length f → mark_room_size ≤ length m → BothKept f m (answered a w h k f m)
answered-kept a w h k f m narrow u v =
    let n = flashes-short a w h in
    let e = marks-flashes a w h in
    bcase (ltb k (length (flashes a w h)))
    (λ t. rw t (untouched f flash_record, marks-kept (take (suc k) (marks a w h)) m (omega (arith, length-take (suc k) (marks a w h))) v))
    (λ t. rw t (flashes-kept (flashes a w h) f (omega arith) u, marks-kept (marks a w h) m (omega arith) v))

pub rooms_kept : (w h k : ℕ) (raster f m : List ℕ) (r : Outcome) (f' m' : List ℕ) → Gives w h k raster f m r f' m'
    → Kept f f' r.flashes flash_record × Kept m m' r.marks mark_record
rooms_kept w h k raster f m r f' m' gives =
    subst (BothKept f m) (sym gives)
    (outcomes w h k raster f m (BothKept f m)
    (λ n x y l u. (untouched f flash_record, untouched m mark_record))
    (λ q. answered-kept (area_of w h raster) w h k f m q.wide.1 q.flashes-fit q.marks-fit))
