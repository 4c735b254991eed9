-- The sum stays in range, since the centre has at most ten digits.
use Rattle.gerber.proofs.Signs.{centre-fits, centre-told}
use Rattle.gerber.proofs.centres.Axis.centre.Goals as goal

pub overflow_add-result : goal.overflow_add-result
overflow_add-result c = let a = c.args in centre-fits a.self.pitch a.a a.b a.self.origin a.self.in_word c.from_origin.ensures c.requires.ten_digits

pub returns : goal.returns
returns c = let a = c.args in centre-told a.self.pitch a.a a.b a.self.origin a.self.in_word c.from_origin.ensures c.requires.ten_digits
