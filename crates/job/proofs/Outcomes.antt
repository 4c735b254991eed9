-- An outcome with answer 0 is that of a job, and every other one is a refusal that wrote nothing.
-- Each refusal has a number of document 01, from 1 on, so answer 0 tells the two apart.
-- The theorems about the exported functions open their outcomes with these.
use Rattle.std.proofs.Common.{Err, Ok}
use Rattle.job.specs.Reading.{Judged}
use mathlib.Core.Path.{◌≡◌, refl, sym, ap, ◌∙◌}
use mathlib.Core.Bool.{true, false}
use mathlib.Core.List.{List}
use Prim.Native.Nat.{ℕ, ◌≤◌}
use native.Mathlib.Omega.{arith}
use lib.Dec.{eqb}
use lib.ListN.{length}
use borrow.Author.Tests.{eq-eqb, ne_eqb}
use Rattle.grid.specs.Answers.{first_refusal}
use Rattle.grid.specs.declared.answers.Answer.{Answer}
use Rattle.grid.proofs.Chain.{Passes, pcase}
use Rattle.grid.specs.declared.raster.Job.{Job}
use Rattle.grid.specs.Rooms.{written}
use Rattle.job.specs.JobText.{job_text}
use Rattle.job.specs.Reading.{raster_from, read_checks, judged, read_outcome, read_room, ReadJob}
use Rattle.job.specs.Writing.{checked, not_written, written_out, WriteJob}
use Rattle.job.specs.declared.read.ReadOutcome.{ReadOutcome}
use Rattle.job.specs.declared.write.WriteOutcome.{WriteOutcome}

-- reading: a refusal's number is not 0
abbrev Numbered : Judged → Type 0
Numbered (Err a) = 1 ≤ a.number
Numbered (Ok (job, spot)) = Unit {0}

judged-numbered : (t : List ℕ) (room : ℕ) → Numbered (judged t room)
unfolding judged
judged-numbered t room =
    let a : Answer = first_refusal (read_checks t room) in
    pcase a (λ e. rw (eq-eqb a.number 0 e) tt) (λ n. rw (ne_eqb a.number 0 n) (omega arith))

-- an outcome of reading: a job that was read, or a refusal
pub record ReadDone (text room : List ℕ) (r : ReadOutcome) (after : List ℕ) (job : Job) (spot : ℕ) : Type 0 where
  pub found : judged text (length room) ≡ Ok (job, spot)
  pub outcome : r ≡ read_outcome (Ok (job, spot))
  pub left : after ≡ written room 0 (raster_from text job.size.width job.size.height spot)

pub read_done : {text room after : List ℕ} {r : ReadOutcome} → ReadJob text room r after → r.answer ≡ 0 → (job : Job) × (spot : ℕ) × ReadDone text room r after job spot
read_done {text} {room} {after} {r} p z = go (judged text (length room)) refl (judged-numbered text (length room))
  where
    go : (j : Judged) → judged text (length room) ≡ j → Numbered (judged text (length room)) → (job : Job) × (spot : ℕ) × ReadDone text room r after job spot
    go (Err a) e n =
        let o : r ≡ read_outcome (Err a) = p.outcome ∙ ap read_outcome e in
        let m : 1 ≤ a.number = rw e at n in
        absurd (omega (arith, ap (λ (x : ReadOutcome). x.answer) o))
    go (Ok (job, spot)) e n = (job, spot, record { found = e; outcome = p.outcome ∙ ap read_outcome e; left = p.left ∙ ap (read_room text room) e })

-- "On a refusal .. width, height and allowance are returned as 0, and nothing is written"
pub record ReadRefused (room : List ℕ) (r : ReadOutcome) (after : List ℕ) : Type 0 where
  pub width : r.width ≡ 0
  pub height : r.height ≡ 0
  pub allowance : r.allowance ≡ 0
  pub left : after ≡ room

pub read-refused : {text room after : List ℕ} {r : ReadOutcome} → ReadJob text room r after → (r.answer ≡ 0 → ⊥) → ReadRefused room r after
read-refused {text} {room} {after} {r} p z = go (judged text (length room)) refl
  where
    go : (j : Judged) → judged text (length room) ≡ j → ReadRefused room r after
    go (Err a) e =
        let o : r ≡ read_outcome (Err a) = p.outcome ∙ ap read_outcome e in
        record {
          width = ap (λ (x : ReadOutcome). x.width) o;
          height = ap (λ (x : ReadOutcome). x.height) o;
          allowance = ap (λ (x : ReadOutcome). x.allowance) o;
          left = p.left ∙ ap (read_room text room) e;
        }
    go (Ok (job, spot)) e = absurd (z (ap (λ (x : ReadOutcome). x.answer) (p.outcome ∙ ap read_outcome e)))

-- writing: an answer 0 has passed the checks, and every other one is a refusal of length 0 that wrote nothing
module _ {w h k : ℕ} {raster room after : List ℕ} {o : WriteOutcome} (p : WriteJob w h k raster room o after) where
  abbrev a : Answer
  a = checked w h k raster (length room)

  refusing : (Passes a → ⊥) → (o ≡ not_written a) × (after ≡ room)
  refusing n = let t : eqb a.number 0 ≡ false = ne_eqb a.number 0 n in (p.outcome ∙ rw t, p.left ∙ rw t)

  pub write_done : o.answer ≡ 0 → Passes a
  write_done z = pcase a (λ e. e) (λ n. absurd (n (sym (ap (λ (x : WriteOutcome). x.answer) (refusing n).0) ∙ z)))

  done : Passes a → o ≡ written_out (length (job_text w h k raster))
  done e = let t : eqb a.number 0 ≡ true = eq-eqb a.number 0 e in p.outcome ∙ rw t

  pub write_refused : (o.answer ≡ 0 → ⊥) → (o.length ≡ 0) × (after ≡ room)
  write_refused z =
      pcase a
      (λ e. absurd (z (ap (λ (x : WriteOutcome). x.answer) (done e))))
      (λ n. let r = refusing n in (ap (λ (x : WriteOutcome). x.length) r.0, r.1))
