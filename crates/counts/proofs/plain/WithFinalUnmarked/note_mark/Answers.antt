-- `note_mark` meets its contract: a turn of the marks' rule.
use Rattle.method.specs.Strike.{least}
use Rattle.counts.proofs.MarkTurns.{found-told, nothing-told, never-nothing, mark-fits, turn_on}
use Rattle.counts.proofs.plain.WithFinalUnmarked.note_mark.Goals as goal

pub unreachable-requires : goal.unreachable-requires
unreachable-requires c = never-nothing c.args.self.now.set c.requires.next (nothing-told (least _ _) c.least.ensures c.in_default.is)

pub note_bracket-requires : goal.note_bracket-requires
note_bracket-requires c = mark-fits c.args.self.now.set c.requires.next (found-told (least _ _) c.least.ensures c.in-Some.is) c.requires.bracket_record_in_bounds

pub returns-clause-turned : goal.returns-clause-turned
returns-clause-turned c =
    let C = c.strike.ensures in
    turn_on c.args.self.now.set c.strike.new.self c.requires.next (found-told (least _ _) c.least.ensures c.in-Some.is) c.requires.bracket_record_in_bounds C.last C.rows c.note_bracket.ensures
