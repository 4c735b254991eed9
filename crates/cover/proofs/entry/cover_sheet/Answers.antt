-- `cover_sheet` meets its contract: short of allowance the first marks, else all flashes and all marks.
use Rattle.std.proofs.Common.{arith}
use mathlib.Core.Path.{◌≡◌, ap, ◌∙◌}
use Prim.Native.Nat.{◌+◌, min}
use lib.ListN.{take}
use Rattle.grid.specs.Limits.{side}
use Rattle.grid.specs.Lines.{line}
use Rattle.grid.proofs.Edges.{number}
use Rattle.cover.specs.Code.{covered_of}
use Rattle.cover.proofs.RecordsBehind.{as_written}
use Rattle.cover.proofs.Worked.{work_refused, done_as, work_done}
use Rattle.cover.proofs.Sheets.{Done, started-few, done, sheet-upright, sheet-copper, sheet-noted, sheet-marks, sheet-stands, sheet-short, sheet-flashes}
use Rattle.cover.proofs.StartingByChange.{columned}
use Rattle.cover.proofs.entry.cover_sheet.Goals as goal

pub put_starting-requires : goal.put_starting-requires
put_starting-requires g c =
    let s = c.args.sheet.now in
    let n = s.sheeted.narrow in
    let w : min c.last_line-last.result.0 side ≡ s.size.width = omega (arith, ap number c.last_line-last.ensures) in record {
      columned = (columned _ _ _ _ s.sheeted, s.sheeted.low);
      empty = (c.empty-work.ensures.rows, c.empty-work.ensures.last ∙ ap line w);
    }

pub final_marks-flashes-requires : goal.final_marks-flashes-requires
final_marks-flashes-requires g c =
    let S = c.args.sheet.now.sheeted in
    let last = ap number c.put_starting.ensures.last in
    (omega (arith, S.narrow), started-few _ _ _ _ S c.put_starting.ensures.rows c.put_starting.ensures.last)

pub write_marks-marks-requires-clause-within : goal.write_marks-marks-requires-clause-within
write_marks-marks-requires-clause-within g c =
    let S = c.args.sheet.now.sheeted in
    let k = c.final_marks-flashes.ensures in
    let n = S.narrow in
    let wide = ap number c.last_line-last.ensures in
    let noted = sheet-noted _ _ _ _ S (done _ _ _ _ S c.put_starting.ensures.rows c.put_starting.ensures.last k.rows k.last k.noted_after k.value) wide in
    (omega arith, omega (arith, S.reached.low-long), omega (arith, S.reached.high-long), noted)

pub returns-then-allowance-flashes : goal.returns-then-allowance-flashes
returns-then-allowance-flashes g c =
    let s = c.args.sheet.now in
    let wide = ap number c.last_line-last.ensures in
    let k = c.final_marks-flashes.ensures in
    let D : Done s.size.width s.size.height s.bottoms s.ends _ _ _ _ = done _ _ _ _ s.sheeted c.put_starting.ensures.rows c.put_starting.ensures.last k.rows k.last k.noted_after k.value in
    work_refused _ _ _ s.sheeted.narrow D.rows D.count c.if-allowance-flashes.true c.short.ensures
    (as_written (ap (take (c.args.allowance + 1)) (sheet-marks _ _ _ _ s.sheeted D wide)) c.write_marks-marks.ensures)

pub write_flashes-flashed-requires : goal.write_flashes-flashed-requires
write_flashes-flashed-requires g c =
    let s = c.args.sheet.now in
    let k = c.final_marks-flashes.ensures in
    let D : Done s.size.width s.size.height s.bottoms s.ends _ _ _ _ = done _ _ _ _ s.sheeted c.put_starting.ensures.rows c.put_starting.ensures.last k.rows k.last k.noted_after k.value in
    record { standing = sheet-stands _ _ _ _ s.sheeted D; lent = (sheet-short _ _ _ _ s.sheeted D, c.requires.1) }

pub write_marks-marks-requires-2-clause-within : goal.write_marks-marks-requires-2-clause-within
write_marks-marks-requires-2-clause-within g c =
    let S = c.args.sheet.now.sheeted in
    let k = c.final_marks-flashes.ensures in
    let n = S.narrow in
    let wide = ap number c.last_line-last.ensures in
    let noted = sheet-noted _ _ _ _ S (done _ _ _ _ S c.put_starting.ensures.rows c.put_starting.ensures.last k.rows k.last k.noted_after k.value) wide in
    (omega arith, omega (arith, S.reached.low-long), omega (arith, S.reached.high-long), noted)

pub heights-copper-requires-clause-upright : goal.heights-copper-requires-clause-upright
heights-copper-requires-clause-upright g c = sheet-upright _ _ _ _ c.args.sheet.now.sheeted

pub returns : goal.returns
returns g c =
    let s = c.args.sheet.now in
    let wide = ap number c.last_line-last.ensures in
    let k = c.final_marks-flashes.ensures in
    let D : Done s.size.width s.size.height s.bottoms s.ends _ _ _ _ = done _ _ _ _ s.sheeted c.put_starting.ensures.rows c.put_starting.ensures.last k.rows k.last k.noted_after k.value in
    let copper = c.heights-copper.ensures ∙ sheet-copper _ _ _ _ s.sheeted in
    let covered = c.covered.ensures ∙ ap (λ n. covered_of n c.write_flashes-flashed.result c.write_marks-marks-2.result) copper in
    work_done _ _ _ s.sheeted.narrow D.rows D.count c.if-allowance-flashes.false covered (done_as (sheet-flashes _ _ _ _ s.sheeted D) c.write_flashes-flashed.ensures)
    (as_written (ap (take side) (sheet-marks _ _ _ _ s.sheeted D wide)) c.write_marks-marks-2.ensures)
