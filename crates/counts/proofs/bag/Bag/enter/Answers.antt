-- `enter` meets its contract. The loop's invariant: the intervals from the k-th on are still to come.
use Rattle.std.proofs.Common.{arith}
use Prim.Native.Nat.{◌+◌}
use mathlib.Core.List.{[], ◌∷◌}
use mathlib.Core.Path.{sym, ap, ◌∙◌}
use Rattle.method.specs.Intervals.{Interval as Span}
use Rattle.counts.specs.Spans.{spans_in}
use Rattle.counts.proofs.SpanLaws.{spans_next, spans_none}
use Rattle.counts.proofs.TallyLaws.{going_over, next_can, going_next}
use Rattle.counts.proofs.bag.Bag.enter.Goals as goal

pub count_bracket-requires : goal.count_bracket-requires
count_bracket-requires c =
    let b = c.args.self.now in
    next_can c.loop-k.invariant (_ ∷ []) _ (spans_next b.records c.loop-k.k b.count (omega arith) ∙ ap (λ (i : Span). i ∷ spans_in b.records (c.loop-k.k + 1) b.count) (sym c.interval_in.ensures))

pub loop-k-preserved : goal.loop-k-preserved
loop-k-preserved c =
    let b = c.args.self.now in
    going_next c.loop-k.invariant (_ ∷ []) _
    (spans_next b.records c.loop-k.k b.count (omega arith) ∙ ap (λ (i : Span). i ∷ spans_in b.records (c.loop-k.k + 1) b.count) (sym c.interval_in.ensures)) c.count_bracket.ensures

pub returns : goal.returns
returns c =
    let b = c.args.self.now in
    going_over c.loop-k.invariant (spans_none b.records c.loop-k.k b.count (omega arith))
