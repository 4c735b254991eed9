-- What was read and written, printed, is the program's text.
-- The reader's answer tells a refusal from a job; the job's raster is the front of the room it was read into. `print_job` and `answer` stand on this.
use mathlib.Core.Path.{◌≡◌, sym, ap, subst, ◌∙◌}
use mathlib.Core.List.{List, []}
use Prim.Native.Nat.{ℕ, ◌*◌, ◌≤◌}
use native.Mathlib.Omega.{arith}
use native.Mathlib.Nat.{zero-add, mul_comm, mul-le-mul}
use lib.IntN.{ℤ}
use lib.ListN.{length, take}
use Rattle.grid.specs.Limits.{side, raster_room}
use Rattle.grid.specs.declared.raster.Job.{Job}
use Rattle.grid.specs.Rooms.{written}
use Rattle.grid.proofs.Writing.{through-written}
use Rattle.std.specs.Prelude.{Option, Some, None, Ok, Err}
use Rattle.job.specs.Reading.{Judged, judged, raster_from, read_outcome, ReadJob}
use Rattle.job.specs.declared.read.ReadOutcome.{ReadOutcome}
use Rattle.job.proofs.Rows.{length-raster}
use Rattle.job.proofs.Judging.{judged-fine}
use Rattle.job.proofs.Outcomes.{ReadDone, read_done}
use Rattle.printed.specs.Printed.{refusal_line}
use Rattle.gerberfile.proofs.Texts.{refused-line}
use Rattle.gerberfile.specs.Words.{word_number, asked_by}
use Rattle.gerberfile.specs.Program.{refused_text, file_text, judged_text, job_text, read_text, task_text, wrong_text, asked_text, program_text}
use Rattle.text.specs.Words.{word_at}
use Rattle.gerber.specs.File.{bytes}
use Rattle.gerberfile.specs.declared.call.Call.{Call}
use Rattle.gerberfile.specs.declared.call.WrongWord.{WrongWord}

module _ (text : List ℕ) (version pitch : ℕ) (x y : ℤ) where
  -- a text that was refused
  refused-from : (r : ReadOutcome) (j : Judged) → r ≡ read_outcome j → (r.answer ≡ 0 → ⊥) → refused_text r.answer r.place_x r.place_y 0 [] ≡ judged_text text version pitch x y j
  refused-from r (Err a) e n = ap (λ (o : ReadOutcome). refused_text o.answer o.place_x o.place_y 0 []) e
  refused-from r (Ok (job, spot)) e n = absurd (n (ap (λ (o : ReadOutcome). o.answer) e))

  -- a text that was read as a job: the raster fits its room, and writing the front of the room gives the program's text
  pub record Ready (r : ReadOutcome) (after : List ℕ) : Type 0 where
    pub small : r.width * r.height ≤ raster_room
    pub same : file_text r.width r.height r.allowance (take (r.width * r.height) after) version pitch x y ≡ job_text text version pitch x y

  module _ (room after : List ℕ) (r : ReadOutcome) (long : length room ≡ raster_room) (read : ReadJob text room r after) where
    pub unread : (r.answer ≡ 0 → ⊥) → refusal_line (record { number = r.answer; x = r.place_x; y = r.place_y }) ≡ job_text text version pitch x y
    unfolding job_text
    unread e = refused-line r.answer r.place_x r.place_y e ∙ refused-from r (judged text raster_room) (read.outcome ∙ ap (λ (n : ℕ). read_outcome (judged text n)) long) e

    fine-ready : (job : Job) (spot : ℕ) → ReadDone text room r after job spot → Ready (read_outcome (Ok (job, spot))) after
    unfolding job_text
    fine-ready job spot d =
        let w : ℕ = job.size.width in
        let h : ℕ = job.size.height in
        let raster : List ℕ = raster_from text w h spot in
        let j = judged-fine text (length room) d.found in
        let fits : w * h ≤ side * side = mul-le-mul j.sized.narrow j.sized.low in
        let n : w * h ≡ length raster = mul_comm w h ∙ sym (length-raster text w h 2 spot j.ruled) in
        let front : take (w * h) after ≡ raster =
        ap (take (w * h)) d.left
        ∙ ap (λ (i : ℕ). take i (written room 0 raster)) (n ∙ sym (zero-add (length raster)))
        ∙ through-written room 0 raster (omega arith) in
        record {
          small = omega arith;
          same = ap (λ (bytes : List ℕ). file_text w h job.allowance bytes version pitch x y) front ∙ sym (ap (judged_text text version pitch x y) (ap (judged text) (sym long) ∙ d.found));
        }

    pub ready : r.answer ≡ 0 → Ready r after
    ready z =
        let d = read_done read z in
        subst (λ (o : ReadOutcome). Ready o after) (sym d.2.outcome) (fine-ready d.0 d.1 d.2)

module _ (text : List ℕ) (version pitch : ℕ) (x y : ℤ) {found : Option ℕ} where
  pub task_reads : {next : ℕ} → found ≡ Some next → read_text text version pitch x y ≡ task_text found text version pitch x y
  task_reads e = sym (ap (λ n. task_text n text version pitch x y) e)

  pub task_writes : found ≡ None → job_text text version pitch x y ≡ task_text found text version pitch x y
  task_writes e = sym (ap (λ n. task_text n text version pitch x y) e)

module _ (task version pitch x y text : List ℕ) where
  pub wrong_text_lem : (word : WrongWord) → asked_by version pitch x y ≡ Err word → wrong_text (word_number word) ≡ program_text task version pitch x y text
  unfolding program_text
  wrong_text_lem word e = sym (ap (asked_text task text) e)

  pub named_text : (c : Call) → asked_by version pitch x y ≡ Ok c → task_text (word_at task 0 (bytes "read")) text c.version c.pitch c.x c.y ≡ program_text task version pitch x y text
  unfolding program_text
  named_text c e = sym (ap (asked_text task text) e)
