-- `note_mark` meets its contract: a turn of the marks' rule by counts.
use mathlib.Core.Path.{◌≡◌, ap, subst⁻¹}
use Prim.Native.Nat.{ℕ}
use Rattle.method.specs.Strike.{least}
use Rattle.grid.proofs.Edges.{number}
use Rattle.intervals.specs.Table.{begun_from, NoneBegins}
use Rattle.intervals.specs.Spans.{spans}
use Rattle.intervals.specs.declared.Table.{Table}
use Rattle.intervals.proofs.TableLaws.{set-listed}
use Rattle.intervals.proofs.BegunRows.{none-begins}
use Rattle.counts.proofs.MarkTurns.{found-told, nothing-told, never-nothing, mark-fits}
use Rattle.counts.proofs.Turns.{below, set-holding, set_asks, bag_asks, turned, still, early, onward, back_asks}
use Rattle.counts.proofs.marks.CountedUnmarked.note_mark.Goals as goal

-- no interval begins before the first row that is not empty
begun : (t : Table) (p : ℕ) {q : ℕ} → NoneBegins (spans t) p → q ≡ begun_from t.last.0 (spans t) p → NoneBegins (spans t) q
begun t p h e = subst⁻¹ (NoneBegins (spans t)) e (none-begins t.last.0 (spans t) p (set-listed t.last.0 t.rows) h)

pub least-requires : goal.least-requires
least-requires c = let s = c.args.self.now in record { none_begins = begun s.set s.first.0 c.requires.kept.none_begins (ap number c.begun_from-first.ensures) }

pub unreachable-requires : goal.unreachable-requires
unreachable-requires c = never-nothing c.args.self.now.set c.requires.next (nothing-told (least _ _) c.least.ensures c.in_default.is)

pub note_bracket-requires : goal.note_bracket-requires
note_bracket-requires c = mark-fits c.args.self.now.set c.requires.next (found-told (least _ _) c.least.ensures c.in-Some.is) c.requires.bracket_record_in_bounds

pub strike_set-requires : goal.strike_set-requires
strike_set-requires c =
    let s = c.args.self.now in
    let found = found-told (least _ _) c.least.ensures c.in-Some.is in
    record { holding = set-holding c.requires.kept.tallies c.requires.next found; can_change = set_asks c.requires.kept.tallies c.requires.next found }

pub strike-start-requires : goal.strike-start-requires
strike-start-requires c = bag_asks c.requires.kept.tallies c.requires.next (found-told (least _ _) c.least.ensures c.in-Some.is) c.strike_set.ensures.changed _

pub held_before-self-requires : goal.held_before-self-requires
held_before-self-requires c =
    let s = c.args.self.now in
    let found = found-told (least _ _) c.least.ensures c.in-Some.is in
    let C = c.strike_set.ensures in
    let B = c.strike-start.ensures in
    let on = turned c.requires.kept.tallies c.requires.next found C.changed c.strike_set.new.set C.last C.rows c.requires.bracket_record_in_bounds c.note_bracket.ensures B.struck B.changed in
    let f = early c.requires.kept.tallies c.requires.next found C.changed B.since B.changed in
    let r = back_asks s.set C.last C.rows on.0 (below c.requires.kept.tallies c.requires.next found) f in
    record { steps = r.0; column_value = (r.1, r.2, r.3) }

pub returns-clause-kept : goal.returns-clause-kept
returns-clause-kept c =
    let s = c.args.self.now in
    let found = found-told (least _ _) c.least.ensures c.in-Some.is in
    let C = c.strike_set.ensures in
    let B = c.strike-start.ensures in
    record {
      tallies = (turned c.requires.kept.tallies c.requires.next found C.changed c.strike_set.new.set C.last C.rows c.requires.bracket_record_in_bounds c.note_bracket.ensures B.struck B.changed).0;
      none_begins = still c.requires.kept.tallies c.args.column.0 c.strike_set.new.set C.last C.rows (begun s.set s.first.0 c.requires.kept.none_begins (ap number c.begun_from-first.ensures));
      onward = onward c.requires.kept.tallies c.requires.next found C.changed B.since B.changed (ap number C.last) c.held_before-self.ensures;
    }

pub returns-clause-turned : goal.returns-clause-turned
returns-clause-turned c =
    let found = found-told (least _ _) c.least.ensures c.in-Some.is in
    let C = c.strike_set.ensures in
    let B = c.strike-start.ensures in
    (turned c.requires.kept.tallies c.requires.next found C.changed c.strike_set.new.set C.last C.rows c.requires.bracket_record_in_bounds c.note_bracket.ensures B.struck B.changed).1
