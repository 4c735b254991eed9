-- What was read and checked, printed, is the program's text.
-- The reader's answer tells a refusal from a job; the job's raster is the front of the room it was read into. `print_check` and `answer` stand on this.
use mathlib.Core.Path.{◌≡◌, sym, ap, subst, ◌∙◌}
use mathlib.Core.List.{List, append-nil}
use Prim.Native.Nat.{ℕ, ◌*◌, ◌≤◌}
use native.Mathlib.Omega.{arith}
use native.Mathlib.Nat.{zero-add, mul_comm, mul-le-mul}
use lib.ListN.{length, take}
use Rattle.grid.specs.Limits.{side, raster_room}
use Rattle.grid.specs.declared.raster.Job.{Job}
use Rattle.grid.specs.Rooms.{written}
use Rattle.grid.proofs.Writing.{through-written}
use Rattle.std.specs.Prelude.{Ok, Err}
use Rattle.job.specs.Reading.{Judged, judged, raster_from, read_outcome, ReadJob}
use Rattle.job.specs.declared.read.ReadOutcome.{ReadOutcome}
use Rattle.job.proofs.Rows.{length-raster}
use Rattle.job.proofs.Judging.{judged-fine}
use Rattle.job.proofs.Outcomes.{ReadDone, read_done}
use Rattle.listcheck.specs.Checked.{Gives, check_gives}
use Rattle.listcheck.specs.declared.entry.Checked.{Checked}
use Rattle.text.specs.Line.{record_lines}
use Rattle.printed.specs.Printed.{refusal_line}
use Rattle.checklist.proofs.Verdicts.{line_refused}
use Rattle.checklist.specs.Program.{verdict_line, checked_text, given_text, check_text, refusal_text, judged_text, program_text}

pub given-text : (w h k : ℕ) (raster list m : List ℕ) (r : Checked) (m' : List ℕ) → Gives w h k raster list m r m' → checked_text r m' ≡ given_text (check_gives w h k raster list m)
given-text w h k raster list m r m' g = ap given_text g

-- a refusal's line is its print
pub refused-line : (n x y : ℕ) → (n ≡ 0 → ⊥) → refusal_line (record { number = n; x = x; y = y }) ≡ refusal_text n x y
unfolding checked_text record_lines
refused-line n x y e = let c : Checked = record { answer = n; place_x = x; place_y = y; verdict = 0; flashes = 0; above = 0; marks = 0 } in
    sym (line_refused c e) ∙ sym (append-nil (verdict_line c))

-- a text that was refused
refused-from : (text list : List ℕ) (r : ReadOutcome) (j : Judged) → r ≡ read_outcome j → (r.answer ≡ 0 → ⊥) → refusal_text r.answer r.place_x r.place_y ≡ judged_text text list j
refused-from text list r (Err a) e n = ap (λ (x : ReadOutcome). refusal_text x.answer x.place_x x.place_y) e
refused-from text list r (Ok (job, spot)) e n = absurd (n (ap (λ (x : ReadOutcome). x.answer) e))

-- a text that was read as a job: the raster fits its room, and the check with the front of the room gives the program's text
pub record Ready (text list : List ℕ) (r : ReadOutcome) (after : List ℕ) : Type 0 where
  pub small : r.width * r.height ≤ raster_room
  pub same : check_text r.width r.height r.allowance (take (r.width * r.height) after) list ≡ program_text text list

module _ (text list room after : List ℕ) (r : ReadOutcome) (long : length room ≡ raster_room) (read : ReadJob text room r after) where
  pub refused-text : (r.answer ≡ 0 → ⊥) → refusal_line (record { number = r.answer; x = r.place_x; y = r.place_y }) ≡ program_text text list
  unfolding program_text
  refused-text e = refused-line r.answer r.place_x r.place_y e ∙ refused-from text list r (judged text raster_room) (read.outcome ∙ ap (λ (n : ℕ). read_outcome (judged text n)) long) e

  fine-ready : (job : Job) (spot : ℕ) → ReadDone text room r after job spot → Ready text list (read_outcome (Ok (job, spot))) after
  unfolding program_text
  fine-ready job spot d =
      let w : ℕ = job.size.width in
      let h : ℕ = job.size.height in
      let raster : List ℕ = raster_from text w h spot in
      let j = judged-fine text (length room) d.found in
      let fits : w * h ≤ side * side = mul-le-mul j.sized.narrow j.sized.low in
      let n : w * h ≡ length raster = mul_comm w h ∙ sym (length-raster text w h 2 spot j.ruled) in
      let front : take (w * h) after ≡ raster =
      ap (take (w * h)) d.left
      ∙ ap (λ (i : ℕ). take i (written room 0 raster)) (n ∙ sym (zero-add (length raster)))
      ∙ through-written room 0 raster (omega arith) in
      record {
        small = omega arith;
        same = ap (λ (x : List ℕ). check_text w h job.allowance x list) front ∙ sym (ap (judged_text text list) (ap (judged text) (sym long) ∙ d.found));
      }

  pub ready : r.answer ≡ 0 → Ready text list r after
  ready z =
      let d = read_done read z in
      subst (λ (x : ReadOutcome). Ready text list x after) (sym d.2.outcome) (fine-ready d.0 d.1 d.2)
