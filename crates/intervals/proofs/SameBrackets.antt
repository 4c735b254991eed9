-- Both searches reduce the same brackets in the same order, repeats included (02, R-13): said of the two final sets' contracts, as the check reads them.
-- Each leaves rule 5's own brackets in its room; so two calls on the same table and room cannot be told apart.
use mathlib.Core.Path.{◌≡◌, refl, sym, ap, ◌∙◌}
use mathlib.Core.List.{List}
use Prim.Native.Nat.{ℕ}
use lib.ListN.{length, drop}
use Rattle.lists.specs.Lists.{gather}
use Rattle.lists.proofs.Blocks.{blocks_read}
use Rattle.method.specs.Intervals.{Interval as Span}
use Rattle.method.specs.Final.{trace}
use Rattle.grid.specs.Limits.{bracket_record}
use Rattle.grid.specs.Rooms.{written, record_in}
use Rattle.grid.proofs.Outcome.{Always, Alike}
use Rattle.grid.proofs.Writing.{from_start, record_later}
use Rattle.intervals.specs.Spans.{spans}
use Rattle.intervals.specs.Finished.{bracket_bytes, bracket_of, brackets_in, Finished}
use Rattle.intervals.proofs.SameTables.{same-table}
use Rattle.intervals.proofs.final_set.final_set
use Rattle.intervals.proofs.sweep.final_set_swept

-- what is noted is read back
brackets_read : (ds : List Span) (room : List ℕ) → brackets_in (length ds) (written room 0 (gather bracket_bytes ds)) ≡ ds
unfolding brackets_in
brackets_read ds room =
    ap (brackets_in (length ds)) (from_start room (gather bracket_bytes ds))
    ∙ blocks_read bracket_bytes (λ r k. bracket_of (record_in bracket_record r k)) (λ d rest. refl)
    (λ d rest k. ap bracket_of (record_later bracket_record (bracket_bytes d) rest k refl)) ds (drop (length (gather bracket_bytes ds)) room)

-- the room of a final set begins with rule 5's brackets
pub finished-trace : {n : ℕ} {s : List Span} {room : List ℕ} {k : ℕ} {after left : List ℕ} → Finished n s room k after left → brackets_in k left ≡ trace n s
finished-trace {n} {s} {room} F =
    (λ i. brackets_in (F.counted i) (F.noted i)) ∙ brackets_read (trace n s) room

pub plain-trace : Always final_set.Kinds.ps final_set.Kinds.r final_set.Reads.Pre final_set.Reads.Post
    (λ κs a r v. brackets_in r v.1.0 ≡ trace a.0.now.last.0 (spans a.0.now))
plain-trace κs a pre r v F = finished-trace F.0

pub swept_trace : Always final_set_swept.Kinds.ps final_set_swept.Kinds.r final_set_swept.Reads.Pre final_set_swept.Reads.Post
    (λ κs a r v. brackets_in r v.1.0 ≡ trace a.0.now.last.0 (spans a.0.now))
swept_trace κs a pre r v F = finished-trace F.0

pub same_brackets : Alike final_set.Kinds.ps final_set.Kinds.r final_set.Reads.Pre final_set.Reads.Post final_set_swept.Reads.Pre final_set_swept.Reads.Post
same_brackets κs a pre pre' x y v w p q =
    let s = same-table v.0 w.0 (p.0.set ∙ sym q.0.set) (p.1 ∙ sym q.1) in
    let r = p.0.noted ∙ sym q.0.noted in
    (p.0.counted ∙ sym q.0.counted, λ i. (s i, (r i, tt)))
