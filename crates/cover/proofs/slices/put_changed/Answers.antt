-- `put_changed` meets its contract. The loop's invariant: the table holds what it held and the row's touched slices that begin before `at`,
-- and no slice of the row is cut there.
use Rattle.std.proofs.Common.{arith}
use mathlib.Core.Path.{refl, sym, ap, ◌∙◌}
use mathlib.Core.Bool.{◌&&◌}
use Rattle.lists.proofs.Truth.{and_right}
use Rattle.words.specs.Words.{bits, on}
use Rattle.intervals.specs.Table.{set_of, table_of, with}
use Rattle.intervals.specs.Spans.{spans}
use Rattle.intervals.proofs.TableLaws.{set-listed}
use Rattle.grid.specs.Lines.{span_of}
use Rattle.grid.proofs.Edges.{number}
use Rattle.cover.specs.Code.{next_slice}
use Rattle.cover.proofs.ChangedRow.{changed-none, changed-all, changed_slices, put_table}
use Rattle.cover.proofs.NextSlice.{Put, none-next, some_next}
use Rattle.cover.proofs.slices.put_changed.Goals as goal

pub loop-slice-init : goal.loop-slice-init
loop-slice-init c = let g = c.args in
    let n = g.t.now.last.0 in
    let s = spans g.t.now in record {
      rows = g.t.now.tabled.whole ∙ ap table_of (changed-none (on g.row) (on c.both-touched.result) n s (set-listed n g.t.now.rows));
      last = refl;
      edge = λ h. absurd (omega arith);
      within = omega arith;
    }

pub loop-slice-smaller : goal.loop-slice-smaller
loop-slice-smaller c =
    let g = c.args in
    let n = g.t.now.last.0 in
    let fits = g.t.now.tabled.fits in
    let told = ap (λ l. next_slice (on g.row) (on c.both-touched.result) (number l) c.loop-slice.at.0) (sym c.loop-slice.invariant.last) in
    let p : Put (on g.row) (on c.both-touched.result) n c.loop-slice.at.0 (omega arith) c.in-Some.slice =
    some_next _ _ n c.loop-slice.at.0 (omega arith) (λ x t. and_right _ _ (sym (c.both-touched.ensures x) ∙ t)) c.requires c.loop-slice.invariant.edge c.in-Some.slice
    (told ∙ sym c.next_slice.ensures ∙ c.in-Some.is) in
    omega (arith, p.onward, p.within)

pub loop-slice-preserved : goal.loop-slice-preserved
loop-slice-preserved c =
    let g = c.args in
    let n = g.t.now.last.0 in
    let fits = g.t.now.tabled.fits in
    let I = c.loop-slice.invariant in
    let told = ap (λ l. next_slice (on g.row) (on c.both-touched.result) (number l) c.loop-slice.at.0) (sym I.last) in
    let p : Put (on g.row) (on c.both-touched.result) n c.loop-slice.at.0 (omega arith) c.in-Some.slice =
    some_next _ _ n c.loop-slice.at.0 (omega arith) (λ x t. and_right _ _ (sym (c.both-touched.ensures x) ∙ t)) c.requires I.edge c.in-Some.slice
    (told ∙ sym c.next_slice.ensures ∙ c.in-Some.is) in record {
      rows = c.put.ensures.rows
          ∙ ap (λ l. table_of (with (number l) (span_of c.in-Some.slice) (set_of (number l) c.loop-slice.t.rows))) I.last
          ∙ put_table (on g.row) (on c.both-touched.result) n (spans g.t.now) c.loop-slice.at.0 fits I.rows _ _ (p.put (spans g.t.now));
      last = c.put.ensures.last ∙ I.last;
      edge = λ h. p.edge;
      within = p.within;
    }

pub returns : goal.returns
returns c =
    let g = c.args in
    let n = g.t.now.last.0 in
    let fits = g.t.now.tabled.fits in
    let row = on g.row in
    let touched = on c.both-touched.result in
    let s = spans g.t.now in
    let I = c.loop-slice.invariant in
    let told = ap (λ l. next_slice row touched (number l) c.loop-slice.at.0) (sym I.last) in
    let left = none-next row touched n c.loop-slice.at.0 (omega arith) (told ∙ sym c.next_slice.ensures ∙ c.in_default.is) in record {
      rows = I.rows
          ∙ ap table_of
          (changed-all row touched n s c.loop-slice.at.0 left
          ∙ changed_slices row touched (on g.changed) n bits (omega arith) (λ k. c.both-touched.ensures k ∙ ap (λ x. x && row k) (c.spread.ensures k)) s);
      last = I.last;
    }
