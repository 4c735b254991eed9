-- For inner functions only: what marks from counts keep beside the set, a bag and counts that are of it, a line before which no interval begins, and where the next column is looked for.
use Rattle.counts.specs.declared.marks.Counted.{Counted}
use Rattle.counts.specs.Marks.{Tallies}
use Rattle.counts.specs.Spans.{spans_in}
use Rattle.counts.specs.Tally.{Onward}
use Rattle.intervals.specs.Table.{NoneBegins}
use Rattle.intervals.specs.Spans.{spans}

pub record Kept (c : Counted) : Type 0 where
  pub tallies : Tallies c.set (spans_in c.bag.records 0 c.bag.count) c.tally.rises c.tally.falls
  pub none_begins : NoneBegins (spans c.set) c.first.0
  pub onward : Onward c.set.last.0 c.tally.rises c.tally.falls c.start.0 c.held
