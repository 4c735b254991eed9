-- `enter` meets its contract. The loop's invariant: the intervals from the k-th on are still to come.
use mathlib.Core.Bool.{true}
use Rattle.counts.specs.Spans.{spans_in}
use Rattle.counts.proofs.TallyLaws.{Going}
use Rattle.counts.proofs.bag.Bag.enter.Given as goal

abbrev pub invariant-loop-k : goal.invariant-loop-k
invariant-loop-k l = Going true l.initial.tally.falls l.initial.tally.rises (spans_in l.self.records 0 l.self.count) l.tally.falls l.tally.rises (spans_in l.self.records l.k l.self.count)
