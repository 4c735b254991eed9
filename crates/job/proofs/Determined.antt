-- Every public function's contract determines its outcome: no second answer fits, and no other byte in a lent room.
-- Each contract is an equation with a definition of the arguments, or a pair of such equations. Of the two entry points it is said of `ReadJob` and
-- `WriteJob` too; of the functions over the reader, of the clauses that they meet.
use mathlib.Core.Path.{◌≡◌, refl, sym, ◌∙◌}
use mathlib.Core.List.{List}
use Prim.Native.Nat.{ℕ}
use seplogic.Ra.Ura.{Ura}
use base.Logic.{SProp, ent, sep, fst∗, snd∗}
use prog.Memory.{Memory}
use prog.Routine.{Routine}
use types.Logic.{Logic}
use contract.Lifetimes.{Lfts}
use contract.Monad.{Fun, fact, fact_i, fact_use}
use denote.Triple.Clauses.{Ended, Clauses, AtExit}
use denote.Triple.Entry.{Args, Res}
use Rattle.grid.proofs.Outcome.{Determined}
use Rattle.job.specs.Reading.{ReadJob}
use Rattle.job.specs.Writing.{WriteJob}
use Rattle.job.specs.declared.read.ReadOutcome.{ReadOutcome}
use Rattle.job.specs.declared.write.WriteOutcome.{WriteOutcome}
use Rattle.job.proofs.lines.read_shape
use Rattle.job.proofs.lines.read_row
use Rattle.job.proofs.lines.judge_rows
use Rattle.job.proofs.lines.row_head
use Rattle.job.proofs.read.keekaboor_read_job
use Rattle.job.proofs.write.keekaboor_write_job
use Rattle.job.proofs.read.ReadOutcomeFromRefusal.from as read_refused
use Rattle.job.proofs.read.ReadOutcomeFromJob.from as read_done
use Rattle.job.proofs.write.WriteOutcomeFromRefusal.from as write_refused
use Rattle.job.specs.contracts.reader.Reader.new as new
use Rattle.job.specs.contracts.reader.Reader.moved as moved
use Rattle.job.specs.contracts.reader.Reader.shape as shape
use Rattle.job.specs.contracts.reader.Reader.rows as rows
use Rattle.job.specs.contracts.reader.shape_of as shape_of
use Rattle.job.specs.contracts.reader.rows_of as rows_of_lem

-- numbers, places, and every byte of the room
pub read-determined : {text room : List ℕ} {r s : ReadOutcome} {after after' : List ℕ} → ReadJob text room r after → ReadJob text room s after' → (r ≡ s) × (after ≡ after')
read-determined p q = (p.outcome ∙ sym q.outcome, p.left ∙ sym q.left)

pub write_determined : {w h k : ℕ} {raster room : List ℕ} {o s : WriteOutcome} {after after' : List ℕ} → WriteJob w h k raster room o after → WriteJob w h k raster room s after'
    → (o ≡ s) × (after ≡ after')
write_determined p q = (p.outcome ∙ sym q.outcome, p.left ∙ sym q.left)

pub read_job_determined : Determined keekaboor_read_job.Kinds.ps keekaboor_read_job.Kinds.r keekaboor_read_job.Reads.Pre keekaboor_read_job.Reads.Post
read_job_determined κs a pre x y v w p q = let d = read-determined p q in (d.0, λ i. (tt, (d.1 i, tt)))

pub write_job_determined : Determined keekaboor_write_job.Kinds.ps keekaboor_write_job.Kinds.r keekaboor_write_job.Reads.Pre keekaboor_write_job.Reads.Post
write_job_determined κs a pre x y v w p q = let d = write_determined p q in (d.0, λ i. (tt, (tt, (tt, (tt, (d.1 i, tt))))))

pub read_shape_determined : Determined read_shape.Kinds.ps read_shape.Kinds.r read_shape.Reads.Pre read_shape.Reads.Post
read_shape_determined κs a pre x y v w p q = (p ∙ sym q, refl)

pub read-row-determined : Determined read_row.Kinds.ps read_row.Kinds.r read_row.Reads.Pre read_row.Reads.Post
read-row-determined κs a pre x y v w p q = (p ∙ sym q, refl)

pub judge_rows-determined : Determined judge_rows.Kinds.ps judge_rows.Kinds.r judge_rows.Reads.Pre judge_rows.Reads.Post
judge_rows-determined κs a pre x y v w p q = (p ∙ sym q, refl)

pub row-head-determined : Determined row_head.Kinds.ps row_head.Kinds.r row_head.Reads.Pre row_head.Reads.Post
row-head-determined κs a pre x y v w p q = (p ∙ sym q, refl)

-- the outcome of a refusal, and of a job that was read
pub read-refusal-determined : Determined read_refused.Kinds.ps read_refused.Kinds.r read_refused.Reads.Pre read_refused.Reads.Post
read-refusal-determined κs a pre x y v w p q = (p ∙ sym q, refl)

pub read-done-determined : Determined read_done.Kinds.ps read_done.Kinds.r read_done.Reads.Pre read_done.Reads.Post
read-done-determined κs a pre x y v w p q = (p ∙ sym q, refl)

pub write-refusal-determined : Determined write_refused.Kinds.ps write_refused.Kinds.r write_refused.Reads.Pre write_refused.Reads.Post
write-refusal-determined κs a pre x y v w p q = (p ∙ sym q, refl)

-- over the reader: where two results meet a function's clauses for the same arguments they are one; nothing is lent to be changed, so the result is all
abbrev pub DeterminedByClauses : {M : Type 1} (𝓤 : Ura M) (T : Ended) → Clauses 𝓤 T → Type 1
DeterminedByClauses 𝓤 T c =
    (κs : Lfts T.signature.lifetimes) (a : Args T.signature κs) (g : (c κs a).ghost) (e : AtExit T κs) (r s : Res T.signature κs)
    → ent 𝓤 (sep 𝓤 ((c κs a).ensures g r e) ((c κs a).ensures g s e)) (fact 𝓤 (r ≡ s))

one : {M : Type 1} (𝓤 : Ura M) {X : Type 0} {x : X} (r s : X) → ent 𝓤 (sep 𝓤 (fact 𝓤 (r ≡ x)) (fact 𝓤 (s ≡ x))) (fact 𝓤 (r ≡ s))
one 𝓤 {x = x} r s = fact_use 𝓤 (r ≡ x) (fst∗ 𝓤 (fact 𝓤 (r ≡ x)) (fact 𝓤 (s ≡ x)))
    (λ p. fact_use 𝓤 (s ≡ x) (snd∗ 𝓤 (fact 𝓤 (r ≡ x)) (fact 𝓤 (s ≡ x))) (λ q. fact_i 𝓤 (r ≡ s) _ (p ∙ sym q)))

module _ {M : Type 1} {𝓤 : Ura M} (𝓛 : Logic 𝓤) (mem : Memory → SProp 𝓤) (run : Routine → Fun 𝓤) where
  pub new-determined : DeterminedByClauses 𝓤 new.ended (new.clauses 𝓛 mem run)
  new-determined κs a g e = one 𝓤

  pub moved-determined : DeterminedByClauses 𝓤 moved.ended (moved.clauses 𝓛 mem run)
  moved-determined κs a g e = one 𝓤

  pub shape_determined : DeterminedByClauses 𝓤 shape.ended (shape.clauses 𝓛 mem run)
  shape_determined κs a g e = one 𝓤

  pub rows-determined : DeterminedByClauses 𝓤 rows.ended (rows.clauses 𝓛 mem run)
  rows-determined κs a g e = one 𝓤

  pub shape_of_determined : DeterminedByClauses 𝓤 shape_of.ended (shape_of.clauses 𝓛 mem run)
  shape_of_determined κs a g e = one 𝓤

  pub rows_of_determined : DeterminedByClauses 𝓤 rows_of_lem.ended (rows_of_lem.clauses 𝓛 mem run)
  rows_of_determined κs a g e = one 𝓤
