-- Demand 2: "A job read from text and written out again is the same text, and a job written and read back is the same job."
-- Of every outcome and every room that the contracts of the two exported functions allow: a text is accepted exactly where it is the text of a job.
use mathlib.Core.Path.{◌≡◌, refl, sym, ap, subst, ◌∙◌}
use mathlib.Core.Bool.{true}
use mathlib.Core.List.{List, ◌++◌}
use Prim.Native.Nat.{ℕ, zero, suc, ◌*◌, ◌≤◌}
use native.Mathlib.Omega.{arith}
use native.Mathlib.Nat.{zero-add}
use lib.ListN.{length, take, drop, replicate, length-replicate}
use lib.Seq.{take_at}
use Rattle.grid.specs.Limits.{side, allowance_limit, raster_room}
use Rattle.grid.specs.declared.answers.Answer.{Answer}
use Rattle.grid.specs.declared.raster.Job.{Job}
use Rattle.grid.specs.Rooms.{written}
use Rattle.job.specs.JobText.{job_text, IsJob, text_length, text_room}
use Rattle.job.specs.Reading.{raster_from, judged, read_outcome, read_room, ReadJob}
use Rattle.job.specs.Writing.{or_work, not_written, written_out, WriteJob}
use Rattle.job.specs.declared.read.ReadOutcome.{ReadOutcome}
use Rattle.job.specs.declared.write.WriteOutcome.{WriteOutcome}
use Rattle.job.proofs.Lengths.{length-text, longest}
use Rattle.job.proofs.Row.{squares?}
use Rattle.job.proofs.Judging.{judged-fine}
use Rattle.job.proofs.Checking.{checked_job, job_checked}
use Rattle.job.proofs.Accepted.{accepted_job, accepted_text, text_accepted, text-raster}
use Rattle.job.proofs.Outcomes.{ReadDone, read_done, write_done}

front : (room bytes : List ℕ) → written room 0 bytes ≡ bytes ++ drop (length bytes) room
unfolding written
front room bytes = ap (λ (n : ℕ). bytes ++ drop n room) (zero-add (length bytes))

-- the numbers w, h and k were answered, and the room holds the raster and then what it held before
pub record IsRead (w h k : ℕ) (raster room : List ℕ) (r : ReadOutcome) (after : List ℕ) : Type 0 where
  pub answer : r.answer ≡ 0
  pub width : r.width ≡ w
  pub height : r.height ≡ h
  pub allowance : r.allowance ≡ k
  pub bytes : after ≡ raster ++ drop (length raster) room

-- the length of the text was answered, and the room holds the text and then what it held before
pub record IsWritten (text room : List ℕ) (o : WriteOutcome) (after : List ℕ) : Type 0 where
  pub answer : o.answer ≡ 0
  pub count : o.length ≡ length text
  pub bytes : after ≡ text ++ drop (length text) room

done-text : (text room after : List ℕ) (r : ReadOutcome) (job : Job) (spot : ℕ) → ReadDone text room r after job spot
    → let raster = take (r.width * r.height) after in IsJob r.width r.height r.allowance raster × (text ≡ job_text r.width r.height r.allowance raster)
done-text text room after r job spot done =
    let j = judged-fine text (length room) done.found in
    let raster : List ℕ = raster_from text job.size.width job.size.height spot in
    let is = accepted_job text (length room) job spot j in
    let bytes : take (job.size.width * job.size.height) after ≡ raster =
    ap (take (job.size.width * job.size.height)) (done.left ∙ front room raster) ∙ take_at raster (drop (length raster) room) (job.size.width * job.size.height) is.full in
    rw (
      ap (λ (x : ReadOutcome). x.width) done.outcome,
      ap (λ (x : ReadOutcome). x.height) done.outcome,
      ap (λ (x : ReadOutcome). x.allowance) done.outcome,
      bytes,
    )
    (is, accepted_text text (length room) job spot j)

-- What reading accepts is the text of the job that it answers.
pub reads_text : {text room after : List ℕ} {r : ReadOutcome} → ReadJob text room r after → r.answer ≡ 0
    → let raster = take (r.width * r.height) after in IsJob r.width r.height r.allowance raster × (text ≡ job_text r.width r.height r.allowance raster)
reads_text {text} {room} {after} {r} p z = let d = read_done p z in done-text text room after r d.0 d.1 d.2

-- The text of a job is accepted, and read as that job.
pub text_reads : {w h k : ℕ} {raster room after : List ℕ} {r : ReadOutcome} → IsJob w h k raster → raster_room ≤ length room → ReadJob (job_text w h k raster) room r after
    → IsRead w h k raster room r after
text_reads {w} {h} {k} {raster} {room} {after} {r} j holds p =
    let found = text_accepted w h k raster j (length room) holds in
    let outcome = p.outcome ∙ ap read_outcome found in
    record {
      answer = ap (λ (x : ReadOutcome). x.answer) outcome;
      width = ap (λ (x : ReadOutcome). x.width) outcome;
      height = ap (λ (x : ReadOutcome). x.height) outcome;
      allowance = ap (λ (x : ReadOutcome). x.allowance) outcome;
      bytes = p.left ∙ ap (read_room (job_text w h k raster) room) found ∙ ap (written room 0) (text-raster w h k raster j) ∙ front room raster;
    }

-- A job is written as its text,
pub text_writes : {w h k : ℕ} {raster room after : List ℕ} {o : WriteOutcome} → IsJob w h k raster → text_room ≤ length room → WriteJob w h k raster room o after
    → IsWritten (job_text w h k raster) room o after
text_writes {w} {h} {k} {raster} {room} {after} {o} j holds p =
    let text : List ℕ = job_text w h k raster in
    let found = job_checked w h k raster (length room) holds j in
    let outcome = p.outcome ∙ ap (λ (a : Answer). or_work a (not_written a) (written_out (length text))) found in
    record {
      answer = ap (λ (x : WriteOutcome). x.answer) outcome;
      count = ap (λ (x : WriteOutcome). x.length) outcome;
      bytes = p.left ∙ ap (λ (a : Answer). or_work a room (written room 0 text)) found ∙ front room text;
    }

-- and nothing else is written.
pub writes_text : {w h k : ℕ} {raster room after : List ℕ} {o : WriteOutcome} → WriteJob w h k raster room o after → o.answer ≡ 0
    → IsJob w h k raster × IsWritten (job_text w h k raster) room o after
writes_text {w} {h} {k} {raster} {room} {after} {o} p z =
    let c = checked_job w h k raster (length room) (write_done p z) in
    (c.1, text_writes c.1 c.0 p)

-- "A job read from text and written out again is the same text":
-- what reading accepts, writing does not refuse, and it gives the same bytes.
pub read-then_write : {text raster-room raster-after text-room text-after : List ℕ} {r : ReadOutcome} {o : WriteOutcome}
    → ReadJob text raster-room r raster-after → r.answer ≡ 0 → text_room ≤ length text-room
    → WriteJob r.width r.height r.allowance (take (r.width * r.height) raster-after) text-room o text-after
    → IsWritten text text-room o text-after
read-then_write {text-room} {text-after} {o} p z holds q =
    let t = reads_text p z in
    subst (λ (x : List ℕ). IsWritten x text-room o text-after) (sym t.1) (text_writes t.0 holds q)

-- "and a job written and read back is the same job":
-- what writing gives, reading does not refuse, and it gives the same numbers and raster bytes, broken columns included.
pub write_then-read : {w h k : ℕ} {raster text-room text-after raster-room raster-after : List ℕ} {o : WriteOutcome} {r : ReadOutcome}
    → WriteJob w h k raster text-room o text-after → o.answer ≡ 0 → raster_room ≤ length raster-room
    → ReadJob (take o.length text-after) raster-room r raster-after
    → IsRead w h k raster raster-room r raster-after
write_then-read {w} {h} {k} {raster} {text-room} {text-after} {raster-room} {raster-after} {o} {r} p z holds q =
    let t = writes_text p z in
    let text : List ℕ = job_text w h k raster in
    let bytes : take o.length text-after ≡ text =
    ap (take o.length) t.1.bytes ∙ take_at text (drop (length text) text-room) o.length (sym t.1.count) in
    text_reads t.0 holds (subst (λ (x : List ℕ). ReadJob x raster-room r raster-after) bytes q)

-- Each text has at most one job,
pub one_job : {w h k w' h' k' : ℕ} {raster raster' : List ℕ} → IsJob w h k raster → IsJob w' h' k' raster' → job_text w h k raster ≡ job_text w' h' k' raster'
    → (w ≡ w') × (h ≡ h') × (k ≡ k') × (raster ≡ raster')
one_job {w} {h} {k} {w'} {h'} {k'} {raster} {raster'} i j e =
    let text : List ℕ = job_text w h k raster in
    let room : List ℕ = replicate raster_room 0 in
    let found = judged text (length room) in
    let r : ReadOutcome = read_outcome found in
    let after : List ℕ = read_room text room found in
    let p : ReadJob text room r after = record { outcome = refl; left = refl } in
    let holds : raster_room ≤ length room = omega (arith, length-replicate raster_room zero) in
    same room r after i.full j.full (text_reads i holds p) (text_reads j holds (subst (λ (x : List ℕ). ReadJob x room r after) e p))
  where
    same : (room : List ℕ) (r : ReadOutcome) (after : List ℕ) → length raster ≡ w * h → length raster' ≡ w' * h' → IsRead w h k raster room r after → IsRead w' h' k' raster' room r after
        → (w ≡ w') × (h ≡ h') × (k ≡ k') × (raster ≡ raster')
    same room r after f g a b =
        let ew : w ≡ w' = sym a.width ∙ b.width in
        let eh : h ≡ h' = sym a.height ∙ b.height in
        let n : length raster' ≡ length raster = g ∙ ap (◌* h') (sym ew) ∙ ap (w *◌) (sym eh) ∙ sym f in (
          ew,
          eh,
          sym a.allowance ∙ b.allowance,
          sym (take_at raster (drop (length raster) room) (length raster) refl)
              ∙ ap (take (length raster)) (sym a.bytes ∙ b.bytes)
              ∙ take_at raster' (drop (length raster') room) (length raster) n,
        )

-- and each job one text: two texts that are read as one job are one.
pub one-text : {text room after text' room' after' : List ℕ} {r r' : ReadOutcome} → ReadJob text room r after → ReadJob text' room' r' after' → r.answer ≡ 0 → r ≡ r'
    → take (r.width * r.height) after ≡ take (r.width * r.height) after' → text ≡ text'
one-text {text'} {room'} {after'} {r} p q z e b =
    let q' : ReadJob text' room' r after' = subst (λ (x : ReadOutcome). ReadJob text' room' x after') (sym e) q in
    (reads_text p z).1 ∙ ap (job_text r.width r.height r.allowance) b ∙ sym (reads_text q' z).1

-- The length that writing answers is the formula's, at most its value at the limits,
pub written-length : {w h k : ℕ} {raster room after : List ℕ} {o : WriteOutcome} → WriteJob w h k raster room o after → o.answer ≡ 0
    → (o.length ≡ text_length w h k) × (o.length ≤ text_room)
written-length {w} {h} {k} {raster} p z =
    let t = writes_text p z in
    (t.1.count ∙ length-text w h k raster t.0, omega (arith, t.1.count, longest w h k raster t.0))

-- which a job at the limits has, whatever its raster;
pub at_the_limits : {raster room after : List ℕ} {o : WriteOutcome} → length raster ≡ side * side → squares? raster ≡ true → text_room ≤ length room
    → WriteJob side side allowance_limit raster room o after → (o.answer ≡ 0) × (o.length ≡ text_room)
at_the_limits {raster} full squares holds p =
    let j : IsJob side side allowance_limit raster =
    record { wide = omega arith; narrow = omega arith; tall = omega arith; low = omega arith; allowed = omega arith; full = full; squares = squares } in
    let t = text_writes j holds p in
    (t.answer, t.count ∙ length-text side side allowance_limit raster j)

-- so the bound is reached, by a raster with no copper for one.
no_copper : (n : ℕ) → squares? (replicate n 0) ≡ true
no_copper zero = refl
no_copper (suc n) = no_copper n

pub longest-reached : (raster : List ℕ)
    × ((room after : List ℕ) (o : WriteOutcome) → text_room ≤ length room → WriteJob side side allowance_limit raster room o after → (o.answer ≡ 0) × (o.length ≡ text_room))
longest-reached =
    (replicate (side * side) 0, λ room after o holds p. at_the_limits (length-replicate (side * side) zero) (no_copper (side * side)) holds p)
