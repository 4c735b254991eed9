-- `strike` meets its contract. The loop's invariant: the pass so far, the counts without what it has struck, and the least line at which one of these began.
use Rattle.std.proofs.Common.{arith, rules}
use Prim.Native.Nat.{min}
use mathlib.Core.Path.{◌≡◌, sym, ap, ◌∙◌}
use mathlib.Core.Bool.{false}
use mathlib.Core.List.{[], ◌∷◌}
use Rattle.lists.specs.Lists.{keep}
use Rattle.method.specs.Intervals.{holds}
use Rattle.grid.specs.Lines.{line, span_of}
use Rattle.grid.proofs.Edges.{number}
use Rattle.counts.specs.Spans.{spans_in}
use Rattle.counts.proofs.SpanLaws.{pass_start, pass_hit, pass_miss, pass_over}
use Rattle.counts.proofs.TallyLaws.{going_start, going_over, going_as, next_can, going_next, seeking_start, seeking_over, seeking_as, seeking_next}
use Rattle.counts.proofs.bag.Bag.strike.Goals.{then-holds, else-holds}
use Rattle.counts.proofs.bag.Bag.strike.Goals as goal

pub loop-k-init : goal.loop-k-init
loop-k-init c =
    let b = c.args.self.now in
    let t = c.args.tally.now in
    let all = keep (holds c.args.column.0) (spans_in b.records 0 b.count) in
    (pass_start c.args.column.0 b.count b.records, going_start false t.falls t.rises all c.requires, seeking_start c.args.first.0 all)

pub count_bracket-requires : goal.count_bracket-requires
count_bracket-requires c =
    let i = c.loop-k.invariant in
    let hit = pass_hit i.0 (span_of c.interval_in-i.result) (omega arith) c.interval_in-i.ensures (sym c.holds.ensures ∙ c.if-holds.true) in
    next_can i.1 (_ ∷ []) _ hit.1

pub loop-k-preserved : goal.loop-k-preserved
loop-k-preserved c =
    let i = c.loop-k.invariant in
    let j = span_of c.interval_in-i.result in
    elim c.if-holds.branch [
      | then-holds w ↦
          let hit = pass_hit i.0 j (omega arith) c.interval_in-i.ensures (sym c.holds.ensures ∙ w.if-holds.true) in
          let least : w.min-least.result ≡ line (min c.loop-k.least.0 j.left) = search rules in
          rw (w.self-is, w.tally-is, w.kept-is, w.least-is) (hit.0, going_next i.1 (j ∷ []) _ hit.1 w.count_bracket.ensures, seeking_next i.2 j _ hit.1 (ap number least))
      | else-holds w ↦
          let miss = pass_miss i.0 j (omega arith) c.interval_in-i.ensures (sym c.holds.ensures ∙ w.if-holds.false) w.move_record.ensures in
          rw (w.self-is, w.tally-is, w.kept-is, w.least-is) (miss.0, going_as i.1 miss.1, seeking_as i.2 miss.1)
    ]

pub returns : goal.returns
returns c =
    let i = c.loop-k.invariant in
    let over = pass_over i.0 (omega arith) in
    record { struck = over.0; changed = going_over i.1 over.1; since = seeking_over i.2 over.1 }
