-- Record by record. The invariant: the lines before the k-th record's are written, and the others are left.
use Rattle.std.proofs.Common.{arith}
use lib.ListN.{length}
use Rattle.text.specs.Line.{record_lines}
use Rattle.text.proofs.Ahead.{lined, line-fits, line-written, lines-written, record_inside, record_part}
use Rattle.text.proofs.line.put_record_lines.Goals as goal

pub loop-k-init : goal.loop-k-init
unfolding record_lines
loop-k-init c = lined _ _ _ _ c.requires.1

pub put_record_line-at-requires : goal.put_record_line-at-requires
put_record_line-at-requires c = let l = c.loop-k in
    let a = c.args in
    rw (record_part a.size a.records.now l.k) (line-fits l.invariant (omega arith))

pub loop-k-preserved : goal.loop-k-preserved
loop-k-preserved c = let l = c.loop-k in
    let a = c.args in
    line-written l.invariant (omega arith) (rw (record_part a.size a.records.now l.k) at c.put_record_line-at.ensures)

pub returns : goal.returns
unfolding record_lines
returns c = lines-written c.loop-k.invariant (omega arith)

pub overflow_mul-from : goal.overflow_mul-from
overflow_mul-from c = let a = c.args in omega (arith, record_inside a.size a.count c.loop-k.k (length a.records.now) (omega arith) c.requires.0)

pub overflow_add-from : goal.overflow_add-from
overflow_add-from c = let a = c.args in omega (arith, record_inside a.size a.count c.loop-k.k (length a.records.now) (omega arith) c.requires.0)

pub slice_bounds-put_record_line-end : goal.slice_bounds-put_record_line-end
slice_bounds-put_record_line-end c = let a = c.args in omega (arith, record_inside a.size a.count c.loop-k.k (length a.records.now) (omega arith) c.requires.0)
