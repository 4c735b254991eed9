-- Records in a room: what is written is read back, the room keeps its length, and bytes past the records stay as they were.
-- A record is a block of as many bytes as its size; what is written is the blocks and then the rest of the room. The demands read the lists back by it.
use mathlib.Core.Path.{◌≡◌, refl, ap, ◌∙◌}
use mathlib.Core.List.{List}
use Prim.Native.Nat.{ℕ, ◌*◌}
use lib.ListN.{length, drop}
use Rattle.lists.specs.Lists.{gather}
use Rattle.lists.proofs.Blocks.{blocks_length, blocks_read}
use Rattle.grid.specs.Limits.{flash_record, mark_record}
use Rattle.grid.specs.Squares.{Rectangle, Square}
use Rattle.grid.proofs.Writing.{from_start, record_later}
use Rattle.cover.specs.Records.{flash_bytes, mark_bytes, flash_of, mark_of, flashes_written, marks_written, flash_in, mark_in, flashes_in, marks_in}

pub flashes-length : (qs : List Rectangle) → length (gather flash_bytes qs) ≡ length qs * flash_record
flashes-length = blocks_length flash_bytes flash_record (λ q. refl)

pub marks-length : (ss : List Square) → length (gather mark_bytes ss) ≡ length ss * mark_record
marks-length = blocks_length mark_bytes mark_record (λ s. refl)

-- what is written is read back
pub flashes-read : (qs : List Rectangle) (room : List ℕ) → flashes_in (length qs) (flashes_written qs room) ≡ qs
unfolding flashes_in
flashes-read qs room =
    ap (flashes_in (length qs)) (from_start room (gather flash_bytes qs))
    ∙ blocks_read flash_bytes flash_in (λ q rest. refl) (λ q rest k. ap flash_of (record_later flash_record (flash_bytes q) rest k refl)) qs (drop (length (gather flash_bytes qs)) room)

pub marks-read : (ss : List Square) (room : List ℕ) → marks_in (length ss) (marks_written ss room) ≡ ss
unfolding marks_in
marks-read ss room =
    ap (marks_in (length ss)) (from_start room (gather mark_bytes ss))
    ∙ blocks_read mark_bytes mark_in (λ s rest. refl) (λ s rest k. ap mark_of (record_later mark_record (mark_bytes s) rest k refl)) ss (drop (length (gather mark_bytes ss)) room)
