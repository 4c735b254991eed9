-- What was read and covered, printed, is the program's text.
-- The reader's answer tells a refusal from a job; the job's raster is the front of the room it was read into. `print_cover` and `answer` stand on this.
use mathlib.Core.Path.{◌≡◌, refl, sym, ap, subst, ◌∙◌}
use mathlib.Core.List.{List, []}
use Prim.Native.Nat.{ℕ, ◌+◌, ◌*◌, ◌≤◌}
use native.Mathlib.Omega.{arith}
use native.Mathlib.Nat.{zero-add, mul_comm, mul-le-mul}
use mathlib.Core.Logic.{by_cases}
use native.Mathlib.Decide.{dec_le}
use lib.ListN.{length, take, length-take}
use lib.Seq.{take_all}
use Rattle.grid.specs.Limits.{side, flash_room_size, mark_room_size, raster_room}
use Rattle.grid.specs.declared.raster.Job.{Job}
use Rattle.grid.specs.Rooms.{written}
use Rattle.grid.proofs.Writing.{through-written}
use Rattle.job.specs.JobText.{text_room}
use Rattle.std.specs.Prelude.{Ok, Err}
use Rattle.job.specs.Reading.{Judged, judged, raster_from, read_outcome, ReadJob}
use Rattle.job.specs.declared.read.ReadOutcome.{ReadOutcome}
use Rattle.job.proofs.Rows.{length-raster}
use Rattle.job.proofs.Judging.{long-text, judged-fine}
use Rattle.job.proofs.Outcomes.{ReadDone, read_done}
use Rattle.cover.specs.Cover.{Given, Gives, cover_gives}
use Rattle.cover.specs.declared.entry.Outcome.{Outcome}
use Rattle.flashlist.proofs.Few.{few}
use Rattle.printed.specs.Printed.{printed, print_room, refusal_line, Printable}
use Rattle.printed.proofs.Forms.{print_alone}
use Rattle.flashlist.specs.Program.{printed_given, cover_text, refusal_text, judged_text, program_text}

-- what a cover gives can be printed
module _ (w h k : ℕ) (raster f m : List ℕ) (r : Outcome) (f' m' : List ℕ) (g : Gives w h k raster f m r f' m') where
  pub printable : flash_room_size ≤ length f' → mark_room_size ≤ length m' → (out : List ℕ) → print_room ≤ length out → Printable r f' m' out
  printable flashes marks out room =
      let n = few w h k raster f m in
      let fs : r.flashes ≤ side = omega (arith, ap (λ (x : Given). x.outcome.flashes) g) in
      let ms : r.marks ≤ side = omega (arith, ap (λ (x : Given). x.outcome.marks) g) in
      record { few-flashes = fs; few-marks = ms; flashes-held = omega arith; marks-held = omega arith; room = room }

  pub given-text : printed r f' m' ≡ printed_given (cover_gives w h k raster f m)
  given-text = ap printed_given g

-- a refusal's line is its print
pub refused-line : (n x y : ℕ) → (n ≡ 0 → ⊥) → refusal_line (record { number = n; x = x; y = y }) ≡ refusal_text n x y
refused-line n x y e = sym (print_alone (record { answer = n; place_x = x; place_y = y; flashes = 0; marks = 0; copper = 0; flashed = 0 }) [] [] e refl)

-- a text that was refused
refused-from : (text : List ℕ) (r : ReadOutcome) (j : Judged) → r ≡ read_outcome j → (r.answer ≡ 0 → ⊥) → refusal_text r.answer r.place_x r.place_y ≡ judged_text text j
refused-from text r (Err a) e n = ap (λ (x : ReadOutcome). refusal_text x.answer x.place_x x.place_y) e
refused-from text r (Ok (job, spot)) e n = absurd (n (ap (λ (x : ReadOutcome). x.answer) e))

-- a text that was read as a job: the raster fits its room, and covering the front of the room gives the program's text
pub record Ready (text : List ℕ) (r : ReadOutcome) (after : List ℕ) : Type 0 where
  pub small : r.width * r.height ≤ raster_room
  pub same : cover_text r.width r.height r.allowance (take (r.width * r.height) after) ≡ program_text text

module _ (text room after : List ℕ) (r : ReadOutcome) (long : length room ≡ raster_room) (read : ReadJob text room r after) where
  pub refused-text : (r.answer ≡ 0 → ⊥) → refusal_line (record { number = r.answer; x = r.place_x; y = r.place_y }) ≡ program_text text
  unfolding program_text
  refused-text e = refused-line r.answer r.place_x r.place_y e ∙ refused-from text r (judged text raster_room) (read.outcome ∙ ap (λ (n : ℕ). read_outcome (judged text n)) long) e

  fine-ready : (job : Job) (spot : ℕ) → ReadDone text room r after job spot → Ready text (read_outcome (Ok (job, spot))) after
  unfolding program_text
  fine-ready job spot d =
      let w : ℕ = job.size.width in
      let h : ℕ = job.size.height in
      let raster : List ℕ = raster_from text w h spot in
      let j = judged-fine text (length room) d.found in
      let fits : w * h ≤ side * side = mul-le-mul j.sized.narrow j.sized.low in
      let n : w * h ≡ length raster = mul_comm w h ∙ sym (length-raster text w h 2 spot j.ruled) in
      let front : take (w * h) after ≡ raster =
      ap (take (w * h)) d.left
      ∙ ap (λ (i : ℕ). take i (written room 0 raster)) (n ∙ sym (zero-add (length raster)))
      ∙ through-written room 0 raster (omega arith) in
      record {
        small = omega arith;
        same = ap (cover_text w h job.allowance) front ∙ sym (ap (judged_text text) (ap (judged text) (sym long) ∙ d.found));
      }

  pub ready : r.answer ≡ 0 → Ready text r after
  ready z =
      let d = read_done read z in
      subst (λ (x : ReadOutcome). Ready text x after) (sym d.2.outcome) (fine-ready d.0 d.1 d.2)

-- One byte more than the longest job is enough: what follows it changes nothing.
pub cut : (text : List ℕ) → program_text (take (text_room + 1) text) ≡ program_text text
unfolding program_text
cut text =
    by_cases (dec_le (length text) (text_room + 1))
    (λ short. ap program_text (take_all (text_room + 1) text short))
    (λ long.
    let front = take (text_room + 1) text in
    ap (judged_text front) (long-text front raster_room (omega arith) (omega (arith, length-take (text_room + 1) text)))
    ∙ sym (ap (judged_text text) (long-text text raster_room (omega arith) (omega arith))))
