-- `ends_beyond` meets its contract: the ends counted and those that are left are all of them.
use Rattle.std.proofs.Common.{arith}
use mathlib.Core.Path.{◌≡◌}
use Prim.Native.Nat.{suc}
use Rattle.intervals.specs.Spans.{spans}
use Rattle.intervals.specs.Tops.{ends_beyond}
use Rattle.intervals.proofs.TableLaws.{set-listed}
use Rattle.intervals.proofs.TableRows.{end_found, no_end}
use Rattle.intervals.proofs.SetSizes.{set_bound}
use Rattle.intervals.proofs.RowCounts.{ends_one, ends_over, ends_bound}
use Rattle.intervals.proofs.Table.ends_beyond.Goals as goal

-- one of those left goes as the next one comes
counted : (c : goal.In-Some) → ends_beyond (spans c.args.self.now) c.args.left.0 c.args.self.now.last.0 c.loop-next.end.0
    ≡ suc (ends_beyond (spans c.args.self.now) c.args.left.0 c.args.self.now.last.0 c.in-Some.next.0)
counted c = let t = c.args.self.now in
    ends_one t.last.0 (set-listed t.last.0 t.rows) c.args.left.0 c.loop-next.end.0 c.in-Some.next.0 (end_found _ _ _ c.next_end.ensures c.in-Some.is)

pub overflow_add-n : goal.overflow_add-n
overflow_add-n c = let t = c.args.self.now in
    omega (
      arith,
      c.loop-next.invariant,
      counted c,
      ends_bound (spans t) c.args.left.0 t.last.0 c.args.from.0,
      set_bound t.last.0 t.rows t.tabled.fits,
    )

pub loop-next-preserved : goal.loop-next-preserved
loop-next-preserved c = omega (arith, c.loop-next.invariant, counted c)

pub loop-next-smaller : goal.loop-next-smaller
loop-next-smaller c = omega (arith, counted c)

pub returns : goal.returns
returns c = let t = c.args.self.now in
    omega (arith, c.loop-next.invariant, ends_over t.last.0 (set-listed t.last.0 t.rows) c.args.left.0 c.loop-next.end.0 (no_end _ _ c.next_end.ensures c.in_default.is))
