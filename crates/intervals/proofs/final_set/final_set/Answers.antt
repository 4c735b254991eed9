-- `final_set` meets its contract: each turn reduces rule 5's bracket and notes it; where none is left, the set is final.
use mathlib.Core.Path.{ap, ◌∙◌}
use Rattle.grid.proofs.Edges.{number}
use Rattle.intervals.proofs.FinishSteps.{finished-long, turn-over, turn-fits, turn-less, turn-next}
use Rattle.intervals.proofs.final_set.final_set.Goals as goal

pub note_bracket-requires : goal.note_bracket-requires
note_bracket-requires c = let I = c.loop-d.invariant in
    turn-fits c.loop-d.t (ap number I.0) I.1 c.bracket.result c.bracket.ensures c.in-Some.d c.in-Some.is

pub loop-d-smaller : goal.loop-d-smaller
loop-d-smaller c = let I = c.loop-d.invariant in
    turn-less c.loop-d.t (ap number I.0) I.1 c.bracket.result c.bracket.ensures c.in-Some.d c.in-Some.is c.reduce.new.t c.note_bracket.new.room
    c.reduce.ensures.rows c.note_bracket.ensures

pub loop-d-preserved : goal.loop-d-preserved
loop-d-preserved c = let I = c.loop-d.invariant in (
  c.reduce.ensures.last ∙ I.0,
  turn-next c.loop-d.t (ap number I.0) I.1 c.bracket.result c.bracket.ensures c.in-Some.d c.in-Some.is c.reduce.new.t c.note_bracket.new.room
      c.reduce.ensures.rows c.note_bracket.ensures,
)

pub returns-clause-finished : goal.returns-clause-finished
returns-clause-finished c = let I = c.loop-d.invariant in
    turn-over c.loop-d.t (ap number I.0) I.1 c.bracket.result c.bracket.ensures c.in_default.is

pub shape_of-room : goal.shape_of-room
shape_of-room c = finished-long c.args.t.now.rows c.requires.roomy (returns-clause-finished c)
