-- Record by record. The invariant: the lines before the k-th record's are written, and the others are left.
use Rattle.text.proofs.Ahead.{Lined, record_line}
use Rattle.text.proofs.line.put_record_lines.Given as goal

abbrev pub invariant-loop-k : goal.invariant-loop-k
invariant-loop-k l = Lined (record_line l.word l.size l.records) l.count l.initial.room l.spot l.room l.at l.k
