-- What Keekaboor promises, in one file: the user's three demands of every outcome of the exported functions, and what the program prints for every job.
-- `Always` speaks of the reading that the check itself makes of a function's `requires` and `ensures`: of its arguments, its result, and what it leaves behind each
-- reference. `Demands` is the whole promise of a cover; each theorem below it cites its proof in a line or two.
use mathlib.Core.Path.{◌≡◌, refl, ap, ◌∙◌}
use native.Mathlib.Omega.{arith}
use mathlib.Core.List.{List}
use mathlib.Core.Logic.{◌⊎◌, ◌≢◌}
use Prim.Native.Nat.{ℕ, ◌*◌, ◌≤◌}
use lib.ListN.{length, take, replicate}
use Rattle.grid.specs.Limits.{flash_record, mark_record, flash_room_size, mark_room_size, raster_room}
use Rattle.grid.specs.Answers.{allowance_short}
use Rattle.grid.specs.Raster.{area_of}
use Rattle.grid.specs.Rooms.{Written, Kept}
use Rattle.grid.proofs.Outcome.{Always, Determined, Alike}
use Rattle.cover.specs.Cover.{Given, Gives, cover_gives}
use Rattle.cover.specs.Demand1.{Refused}
use Rattle.cover.specs.Demand2.{Sound, ShortRuled}
use Rattle.cover.specs.Demand3.{Asked, Demand}
use Rattle.cover.specs.Merging.{Merging}
use Rattle.cover.specs.declared.entry.Outcome.{Outcome}
use Rattle.cover.proofs.Demand1.{demand-1}
use Rattle.cover.proofs.Demand2.{demand-2, demand-2-short}
use Rattle.cover.proofs.Demand3.{demand-3, only-asked}
use Rattle.cover.proofs.Merging.{merging_holds}
use Rattle.cover.proofs.Rooms.{rooms_kept}
use Rattle.cover.proofs.Determined.{cover-determined, both-covers}
use Rattle.cover.proofs.entry.keekaboor_cover
use Rattle.cover.proofs.entry.keekaboor_cover_plain
use Rattle.job.specs.JobText.{job_text, IsJob, text_room}
use Rattle.job.specs.Reading.{ReadJob}
use Rattle.job.specs.Writing.{WriteJob}
use Rattle.job.specs.declared.read.ReadOutcome.{ReadOutcome}
use Rattle.job.specs.declared.write.WriteOutcome.{WriteOutcome}
use Rattle.job.proofs.Accepted.{text_accepted, text-raster}
use Rattle.job.proofs.Outcomes.{ReadRefused, read-refused, write_refused}
use Rattle.job.proofs.RoundTrip.{IsRead, IsWritten, read-then_write, write_then-read}
use Rattle.job.proofs.read.keekaboor_read_job
use Rattle.job.proofs.write.keekaboor_write_job
use Rattle.flashlist.specs.Program.{printed_given, judged_text, cover_text, program_text}
use Rattle.printed.proofs.Forms.{as_text}
use Rattle.flashlist.proofs.answer.answer

-- The demands of one call of the cover: width w, height h, allowance k, what raster, flash room and mark room held, and what the call gave.
pub record Demands (w h k : ℕ) (raster f m : List ℕ) (g : Given) : Type 0 where
  -- 1. a refusal changes no lent buffer and reports nothing, save that answer 9 writes and reports its marks; past the records every byte stays
  pub refusal : g.outcome.answer ≢ 0 → Refused f m g
  pub flash_room : Kept f g.flashes_after g.outcome.flashes flash_record
  pub mark_room : Kept m g.marks_after g.outcome.marks mark_record
  -- 2. on success the rules' flashes and marks, and a cover; on answer 9 the rules' first marks
  pub success : g.outcome.answer ≡ 0 → Sound (area_of w h raster) w h g
  pub short : g.outcome.answer ≡ allowance_short → ShortRuled (area_of w h raster) w h k g
  -- 3. the least number with as many independent marks, or answer 9 exactly where no cover fits; and 0 and 9 only to what is asked for
  pub least : Asked w h k raster f m → Demand (area_of w h raster) k g
  pub only-asked : (g.outcome.answer ≡ 0) ⊎ (g.outcome.answer ≡ allowance_short) → Asked w h k raster f m

given_demands : {w h k : ℕ} {raster f m : List ℕ} {r : Outcome} {f' m' : List ℕ} → Gives w h k raster f m r f' m'
    → Demands w h k raster f m (record { outcome = r; flashes_after = f'; marks_after = m' })
given_demands {w} {h} {k} {raster} {f} {m} {r} {f'} {m'} g =
    let rooms = rooms_kept w h k raster f m r f' m' g in
    record {
      refusal = demand-1 w h k raster f m r f' m' g;
      flash_room = rooms.0;
      mark_room = rooms.1;
      success = demand-2 w h k raster f m r f' m' g;
      short = demand-2-short w h k raster f m r f' m' g;
      least = demand-3 w h k raster f m r f' m' g;
      only-asked = only-asked w h k raster f m r f' m' g;
    }

-- Every call of `keekaboor_cover` meets them,
pub cover : Always keekaboor_cover.Kinds.ps keekaboor_cover.Kinds.r keekaboor_cover.Reads.Pre keekaboor_cover.Reads.Post
    (λ κs a r v.
    Demands a.0 a.1.0 a.1.1.0 a.1.1.1.0.now a.1.1.1.1.0.now a.1.1.1.1.1.0.now
    (record { outcome = r; flashes_after = v.1.1.1.1.0; marks_after = v.1.1.1.1.1.0 }))
cover κs a pre r v g = given_demands g

-- and has one outcome.
pub cover-once : Determined keekaboor_cover.Kinds.ps keekaboor_cover.Kinds.r keekaboor_cover.Reads.Pre keekaboor_cover.Reads.Post
cover-once = cover-determined

-- `keekaboor_cover_plain` meets them too, and gives what `keekaboor_cover` gives: the same outcome, and the same bytes in both rooms.
pub cover-plain : Always keekaboor_cover_plain.Kinds.ps keekaboor_cover_plain.Kinds.r keekaboor_cover_plain.Reads.Pre keekaboor_cover_plain.Reads.Post
    (λ κs a r v.
    Demands a.0 a.1.0 a.1.1.0 a.1.1.1.0.now a.1.1.1.1.0.now a.1.1.1.1.1.0.now
    (record { outcome = r; flashes_after = v.1.1.1.1.0; marks_after = v.1.1.1.1.1.0 }))
cover-plain κs a pre r v g = given_demands g

pub both-covers_alike : Alike keekaboor_cover.Kinds.ps keekaboor_cover.Kinds.r keekaboor_cover.Reads.Pre keekaboor_cover.Reads.Post keekaboor_cover_plain.Reads.Pre keekaboor_cover_plain.Reads.Post
both-covers_alike = both-covers

-- Whatever minimal bracket is chosen at each step, merging an area's starting set ends in the final set that its flashes stand on, after as many reductions.
pub any_order : Merging
any_order = merging_holds

-- A refusal to read or to write a job answers zeros and changes no lent byte.
pub read-refuses : Always keekaboor_read_job.Kinds.ps keekaboor_read_job.Kinds.r keekaboor_read_job.Reads.Pre keekaboor_read_job.Reads.Post
    (λ κs a r v. r.answer ≢ 0 → ReadRefused a.1.0.now r v.1.0)
read-refuses κs a pre r v p = read-refused p

pub write_refuses : Always keekaboor_write_job.Kinds.ps keekaboor_write_job.Kinds.r keekaboor_write_job.Reads.Pre keekaboor_write_job.Reads.Post
    (λ κs a r v. r.answer ≢ 0 → (r.length ≡ 0) × (v.1.1.1.1.0 ≡ a.1.1.1.1.0.now))
write_refuses κs a pre r v p = write_refused p

-- "A job read from text and written out again is the same text": the numbers and the raster that reading gave are written as the bytes that were read.
pub read_write : Always keekaboor_read_job.Kinds.ps keekaboor_read_job.Kinds.r keekaboor_read_job.Reads.Pre keekaboor_read_job.Reads.Post
    (λ κs a r v.
    r.answer ≡ 0 → (room after : List ℕ) (o : WriteOutcome) → text_room ≤ length room
    → WriteJob r.width r.height r.allowance (take (r.width * r.height) v.1.0) room o after → IsWritten a.0.now room o after)
read_write κs a pre r v p z room after o holds q = read-then_write p z holds q

-- "and a job written and read back is the same job": the text that writing gave is read as the numbers and the raster that were written.
pub write_read : Always keekaboor_write_job.Kinds.ps keekaboor_write_job.Kinds.r keekaboor_write_job.Reads.Pre keekaboor_write_job.Reads.Post
    (λ κs a o v.
    o.answer ≡ 0 → (room after : List ℕ) (r : ReadOutcome) → raster_room ≤ length room
    → ReadJob (take o.length v.1.1.1.1.0) room r after → IsRead a.0 a.1.0 a.1.1.0 a.1.1.1.0.now room r after)
write_read κs a pre o v p z room after r holds q = write_then-read p z holds q

-- The driver: for the text of every job, the program prints the lines of what the cover gives for it, with the demands of what it gives.
pub record Driven (w h k : ℕ) (raster out : List ℕ) (n : ℕ) (after : List ℕ) : Type 0 where
  pub given : Given
  pub printed : Written out 0 (printed_given given) n after
  pub demands : Demands w h k raster (replicate flash_room_size 0) (replicate mark_room_size 0) given

job_text_lem : (w h k : ℕ) (raster : List ℕ) → IsJob w h k raster → program_text (job_text w h k raster) ≡ cover_text w h k raster
unfolding program_text
job_text_lem w h k raster j =
    let text = job_text w h k raster in
    ap (judged_text text) (text_accepted w h k raster j raster_room (omega arith)) ∙ ap (cover_text w h k) (text-raster w h k raster j)

pub driver : Always answer.Kinds.ps answer.Kinds.r answer.Reads.Pre answer.Reads.Post
    (λ κs a n v. (w h k : ℕ) (raster : List ℕ) → IsJob w h k raster → a.0.now ≡ job_text w h k raster → Driven w h k raster a.1.0.now n v.1.0)
driver κs a pre n v p w h k raster j e = record {
  given = cover_gives w h k raster (replicate flash_room_size 0) (replicate mark_room_size 0);
  printed = as_text (ap program_text e ∙ job_text_lem w h k raster j) p;
  demands = given_demands refl;
}
