-- The lines of each form, one after the other, in room for the longest print.
use Rattle.std.proofs.Common.{arith, rules}
use mathlib.Core.Path.{refl, ap}
use lib.ListN.{length}
use Rattle.text.proofs.Onward.{fits_next, piece, last, whole}
use Rattle.printed.proofs.Begun.{cover-fits, headed, refused}
use Rattle.printed.proofs.Forms.{marks-short, marks-none}
use Rattle.printed.proofs.outcome.print_outcome.Goals as goal

pub put_line-at-requires : goal.put_line-at-requires
put_line-at-requires c = cover-fits c.requires (search rules) c.type_inv.flash_room c.type_inv.mark_room c.in-0.is

pub put_record_lines-at-requires : goal.put_record_lines-at-requires
put_record_lines-at-requires c = let h = headed c.requires (search rules) c.type_inv.flash_room c.type_inv.mark_room c.in-0.is c.put_line-at.ensures in
    (c.requires.flashes-held, fits_next h _ _ refl)

pub put_record_lines-requires : goal.put_record_lines-requires
put_record_lines-requires c = let h = headed c.requires (search rules) c.type_inv.flash_room c.type_inv.mark_room c.in-0.is c.put_line-at.ensures in
    (c.requires.marks-held, (piece h _ _ refl c.put_record_lines-at.ensures).fits)

pub returns-in-0 : goal.returns-in-0
returns-in-0 c = let h = headed c.requires (search rules) c.type_inv.flash_room c.type_inv.mark_room c.in-0.is c.put_line-at.ensures in
    last (piece h _ _ refl c.put_record_lines-at.ensures) _ refl c.put_record_lines.ensures

pub put_record_lines-requires-in-9 : goal.put_record_lines-requires-in-9
put_record_lines-requires-in-9 c = let r = refused c.requires (search rules) c.type_inv.flash_room c.type_inv.mark_room (λ e. omega arith) c.print_refusal-at.ensures in
    (c.requires.marks-held, omega (arith, r.fits, ap length (marks-short c.args.outcome c.args.mark_room.now c.in-9.is)))

pub returns-in-9 : goal.returns-in-9
returns-in-9 c = let r = refused c.requires (search rules) c.type_inv.flash_room c.type_inv.mark_room (λ e. omega arith) c.print_refusal-at.ensures in
    last r _ (marks-short c.args.outcome c.args.mark_room.now c.in-9.is) c.put_record_lines-in-9.ensures

pub returns-in_default : goal.returns-in_default
returns-in_default c = let r = refused c.requires (search rules) c.type_inv.flash_room c.type_inv.mark_room (λ e. omega arith) c.print_refusal.ensures in
    whole r (marks-none c.args.outcome c.args.mark_room.now (λ e. omega arith))
