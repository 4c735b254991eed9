-- `strike` meets its contract. The loop's invariant: the pass so far, the counts without what it has struck, and the least line at which one of these began.
use mathlib.Core.Bool.{false}
use Rattle.lists.specs.Lists.{keep}
use Rattle.method.specs.Intervals.{holds}
use Rattle.counts.specs.Spans.{spans_in}
use Rattle.counts.proofs.SpanLaws.{Passed}
use Rattle.counts.proofs.TallyLaws.{Going, Seeking}
use Rattle.counts.proofs.bag.Bag.strike.Given as goal

abbrev pub invariant-loop-k : goal.invariant-loop-k
invariant-loop-k l =
    let c = l.column.0 in
    let n = l.count in
    let all = keep (holds c) (spans_in l.initial.self.records 0 n) in
    let rest = keep (holds c) (spans_in l.self.records l.k n) in
    Passed c n l.initial.self.records l.k l.kept l.self.records
    × Going false l.initial.tally.falls l.initial.tally.rises all l.tally.falls l.tally.rises rest
    × Seeking l.initial.least.0 all l.least.0 rest
