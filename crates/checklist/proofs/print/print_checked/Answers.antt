-- `print_checked` meets its contract: the verdict's line, and the marks' lines behind it, in room for the longest print.
use Rattle.std.proofs.Common.{arith, rules}
use mathlib.Core.Path.{ap, ◌∙◌}
use lib.ListN.{length}
use Rattle.grid.proofs.Writing.{length-written, then-written}
use Rattle.printed.specs.Printed.{mark_lines}
use Rattle.checklist.specs.Program.{verdict_line, checked_text}
use Rattle.checklist.proofs.Verdicts.{checked-fits}
use Rattle.checklist.proofs.print.print_checked.Goals as goal

pub put_verdict-at-requires : goal.put_verdict-at-requires
put_verdict-at-requires c = omega (arith, checked-fits c.args.checked (search rules) _ _ c.type_inv.marks c.requires)

pub put_record_lines-requires : goal.put_record_lines-requires
put_record_lines-requires c = let a = c.args in
    let f = checked-fits a.checked (search rules) _ _ c.type_inv.marks c.requires in
    let w = c.put_verdict-at.ensures in
    (c.requires.1, omega (arith, f, w.past, ap length w.left ∙ length-written a.out.now 0 (verdict_line a.checked) (omega arith)))

pub returns : goal.returns
unfolding checked_text
returns c = let a = c.args in
    then-written a.out.now 0 (verdict_line a.checked) (mark_lines a.checked.marks a.marks.now)
    (checked-fits a.checked (search rules) _ _ c.type_inv.marks c.requires) c.put_verdict-at.ensures c.put_record_lines.ensures
