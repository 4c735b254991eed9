-- Every public function's contract determines its outcome: no second result fits, and nothing else behind a reference.
-- Each `ensures` is an equation with a definition, or a record of such equations.
use denote.Param.Laws.{Laws}
use denote.RattleType.{RattleType}
use mir.Syntax.{Dict}
use mathlib.Core.Path.{refl, sym, ap, ◌∙◌}
use Rattle.grid.specs.Lines.{interval_of}
use Rattle.grid.proofs.Outcome.{Determined}
use Rattle.intervals.proofs.SameTables.{same-table}
use Rattle.intervals.specs.declared.final_set.Search.{Ghosts as Searching}
use Rattle.counts.specs.declared.Marking.{Ghosts}
use Rattle.counts.proofs.final_marks
use Rattle.counts.proofs.marks.final_marks_counted
use Rattle.counts.proofs.plain.final_marks_plain
use Rattle.counts.proofs.spans.interval_in

pub interval_in_determined : Determined interval_in.Kinds.ps interval_in.Kinds.r interval_in.Reads.Pre interval_in.Reads.Post
interval_in_determined κs a pre x y v w p q = (ap interval_of (p ∙ sym q), refl)

pub final-marks-counted-determined : Determined final_marks_counted.Kinds.ps final_marks_counted.Kinds.r final_marks_counted.Reads.Pre final_marks_counted.Reads.Post
final-marks-counted-determined κs a pre x y v w p q =
    let t = same-table v.0 w.0 (p.1.0 ∙ sym q.1.0) (p.1.1.0 ∙ sym q.1.1.0) in
    let m = p.1.1.1 ∙ sym q.1.1.1 in
    (p.0 ∙ sym q.0, λ i. (t i, (m i, tt)))

pub final-marks-plain-determined : Determined final_marks_plain.Kinds.ps final_marks_plain.Kinds.r final_marks_plain.Reads.Pre final_marks_plain.Reads.Post
final-marks-plain-determined κs a pre x y v w p q =
    let t = same-table v.0 w.0 (p.1.0 ∙ sym q.1.0) (p.1.1.0 ∙ sym q.1.1.0) in
    let m = p.1.1.1 ∙ sym q.1.1.1 in
    (p.0 ∙ sym q.0, λ i. (t i, (m i, tt)))

-- by whichever search
module _ (T : RattleType) (L : Laws T) (M : Ghosts T.Denot) (d : Dict) (S : Searching T.Denot) (e : Dict) where
  pub final-marks-determined : Determined (final_marks.Kinds.ps T L) (final_marks.Kinds.r T L) (final_marks.Reads.Pre T L M d S e) (final_marks.Reads.Post T L M d S e)
  final-marks-determined κs a pre x y v w p q =
      let t = same-table v.0 w.0 (p.1.0 ∙ sym q.1.0) (p.1.1.0 ∙ sym q.1.1.0) in
      let m = p.1.1.1 ∙ sym q.1.1.1 in
      (p.0 ∙ sym q.0, λ i. (t i, (m i, tt)))
