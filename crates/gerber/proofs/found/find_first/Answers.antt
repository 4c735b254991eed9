-- The invariant: what is found among all the numbers is what is found among those from n on.
use Rattle.std.proofs.Common.{arith}
use mathlib.Core.Path.{sym, ◌∙◌}
use Rattle.gerber.proofs.Compared.{found_nothing, found_here, found-on}
use Rattle.gerber.proofs.found.find_first.Goals as goal

pub returns-in-Some : goal.returns-in-Some
returns-in-Some g c = let l = c.loop-n in
    λ test past h. sym (l.invariant test past h ∙ found_here test past l.n c.args.end (omega arith) (sym (h l.n c.at.result (omega arith) (omega arith) c.at.ensures) ∙ c.in-Some.is))

pub loop-n-preserved : goal.loop-n-preserved
loop-n-preserved g c = let l = c.loop-n in
    λ test past h.
    l.invariant test past h ∙ found-on test past l.n c.args.end (omega arith) (found_nothing (test l.n) (past l.n) (sym (h l.n c.at.result (omega arith) (omega arith) c.at.ensures) ∙ c.in_default.is))
