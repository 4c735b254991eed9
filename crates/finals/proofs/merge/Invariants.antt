-- `merge` keeps the table's last line, and what it was given to choose by may be called again.
use mathlib.Core.Path.{◌≡◌}
use denote.Param.Always.{always_mut}
use Rattle.finals.proofs.merge.Given as goal

abbrev pub invariant-loop-reductions : goal.invariant-loop-reductions
invariant-loop-reductions g l =
    (always_mut g.F.FnMut l.initial.choose → always_mut g.F.FnMut l.choose) × (l.t.last ≡ l.initial.t.last)
