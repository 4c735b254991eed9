-- The four ways out. What the cover gave in rooms of one's own tells what it gives in the lent ones.
use Rattle.std.proofs.Common.{arith}
use mathlib.Core.Path.{◌≡◌, refl, sym, ap, ◌∙◌}
use Prim.Native.Nat.{◌*◌}
use mir.Facts.{to_z-of_z}
use lib.ListN.{length, length-take}
use lib.Seq.{length-take-le}
use Rattle.grid.specs.Limits.{mark_record}
use Rattle.grid.specs.Answers.{answered, first_refusal}
use Rattle.grid.specs.Rooms.{written}
use Rattle.grid.specs.declared.answers.Answer.{Answer}
use Rattle.grid.proofs.Refusals.{refuses}
use Rattle.cover.specs.Records.{flashes_in}
use Rattle.gerber.specs.File.{gerber_file, centres_fit}
use Rattle.gerber.specs.Writing.{file_checks, with_length}
use Rattle.gerber.proofs.Aside.{told}
use Rattle.gerber.proofs.FileChecks.{checks-passed, file-fits}
use Rattle.gerber.proofs.Filing.{rooms-hold, write_short, write_none, write_refused, write_done}
use Rattle.gerber.proofs.write.keekaboor_write_gerber.Goals as goal

pub returns-then-not-rooms_fit : goal.returns-then-not-rooms_fit
returns-then-not-rooms_fit c = let a = c.args in
    (λ i. record { outcome = c.with_length.ensures i; flashes_after = c.keekaboor_cover-short.new.flash_room; marks_after = c.keekaboor_cover-short.new.mark_room; file_after = a.file_room.now })
    ∙ write_short a.width a.height a.allowance a.raster.now a.version a.pitch a.x a.y a.flash_room.now a.mark_room.now a.file_room.now c.keekaboor_cover-short.ensures
    (sym c.rooms_fit.ensures ∙ c.if-not-rooms_fit.true)

pub overflow_mul-mark_end : goal.overflow_mul-mark_end
overflow_mul-mark_end c = let a = c.args in
    let fit = rooms-hold (length a.flash_room.now) (length a.mark_room.now) c.rooms_fit.ensures c.if-not-rooms_fit.false in
    let tells = told a.width a.height a.allowance a.raster.now a.flash_room.now a.mark_room.now _ _ fit.0 fit.1 (omega arith) (omega arith) c.keekaboor_cover-covered.ensures in
    omega (arith, tells.few-marks)

pub slice_bounds-marks-end : goal.slice_bounds-marks-end
slice_bounds-marks-end c = let a = c.args in
    let fit = rooms-hold (length a.flash_room.now) (length a.mark_room.now) c.rooms_fit.ensures c.if-not-rooms_fit.false in
    let tells = told a.width a.height a.allowance a.raster.now a.flash_room.now a.mark_room.now _ _ fit.0 fit.1 (omega arith) (omega arith) c.keekaboor_cover-covered.ensures in
    omega (arith, tells.few-marks)

pub slice_bounds-put_bytes-end : goal.slice_bounds-put_bytes-end
slice_bounds-put_bytes-end c = let a = c.args in
    let fit = rooms-hold (length a.flash_room.now) (length a.mark_room.now) c.rooms_fit.ensures c.if-not-rooms_fit.false in
    let tells = told a.width a.height a.allowance a.raster.now a.flash_room.now a.mark_room.now _ _ fit.0 fit.1 (omega arith) (omega arith) c.keekaboor_cover-covered.ensures in
    sym (length-take-le _ c.keekaboor_cover-covered.new.mark_room (omega (arith, tells.few-marks)))

pub invariant_of-listed : goal.invariant_of-listed
invariant_of-listed c = let a = c.args in
    let fit = rooms-hold (length a.flash_room.now) (length a.mark_room.now) c.rooms_fit.ensures c.if-not-rooms_fit.false in
    let tells = told a.width a.height a.allowance a.raster.now a.flash_room.now a.mark_room.now _ _ fit.0 fit.1 (omega arith) (omega arith) c.keekaboor_cover-covered.ensures in
    record { held = tells.held c.if-covered-ne-DONE.false }

pub returns-then-covered-ne-DONE : goal.returns-then-covered-ne-DONE
returns-then-covered-ne-DONE c = let a = c.args in
    let fit = rooms-hold (length a.flash_room.now) (length a.mark_room.now) c.rooms_fit.ensures c.if-not-rooms_fit.false in
    let tells = told a.width a.height a.allowance a.raster.now a.flash_room.now a.mark_room.now _ _ fit.0 fit.1 (omega arith) (omega arith) c.keekaboor_cover-covered.ensures in
    (λ i. record { outcome = c.with_length-then-covered-ne-DONE.ensures i; flashes_after = a.flash_room.now; marks_after = c.put_bytes.ensures.left i; file_after = a.file_room.now })
    ∙ write_none a.width a.height a.allowance a.raster.now a.version a.pitch a.x a.y a.flash_room.now a.mark_room.now a.file_room.now tells c.if-covered-ne-DONE.true

pub put_file-length-requires-clause-centres : goal.put_file-length-requires-clause-centres
put_file-length-requires-clause-centres c = let a = c.args in
    let qs = flashes_in c.keekaboor_cover-covered.result.flashes c.keekaboor_cover-covered.new.flash_room in
    let checked = c.file_checked.ensures.value ∙ (λ i. first_refusal (file_checks a.version a.pitch (to_z-of_z c.ranges.x i) (to_z-of_z c.ranges.y i) qs (length a.file_room.now))) in
    let pass = ap (λ (z : Answer). z.number) (sym checked ∙ ap answered c.in-Ok.is) in
    let f = c.in-Ok.ensures.format in
    (λ i. centres_fit (f.1 i) ((f.2 ∙ to_z-of_z c.ranges.x) i) ((f.3 ∙ to_z-of_z c.ranges.y) i) qs) ∙ (checks-passed a.version a.pitch a.x a.y qs (length a.file_room.now) pass).1

pub put_file-length-requires-clause-fits : goal.put_file-length-requires-clause-fits
put_file-length-requires-clause-fits c = let a = c.args in
    let fit = rooms-hold (length a.flash_room.now) (length a.mark_room.now) c.rooms_fit.ensures c.if-not-rooms_fit.false in
    let tells = told a.width a.height a.allowance a.raster.now a.flash_room.now a.mark_room.now _ _ fit.0 fit.1 (omega arith) (omega arith) c.keekaboor_cover-covered.ensures in
    let qs = flashes_in c.keekaboor_cover-covered.result.flashes c.keekaboor_cover-covered.new.flash_room in
    let checked = c.file_checked.ensures.value ∙ (λ i. first_refusal (file_checks a.version a.pitch (to_z-of_z c.ranges.x i) (to_z-of_z c.ranges.y i) qs (length a.file_room.now))) in
    let pass = ap (λ (z : Answer). z.number) (sym checked ∙ ap answered c.in-Ok.is) in
    let f = c.in-Ok.ensures.format in
    let same : gerber_file a.version (c.in-Ok.plane).pitch (c.in-Ok.plane).x (c.in-Ok.plane).y qs ≡ gerber_file a.version a.pitch a.x a.y qs =
    λ i. gerber_file a.version (f.1 i) ((f.2 ∙ to_z-of_z c.ranges.x) i) ((f.3 ∙ to_z-of_z c.ranges.y) i) qs in
    let held = tells.held c.if-covered-ne-DONE.false in
    omega (arith, ap length same, file-fits a.version a.pitch a.x a.y c.keekaboor_cover-covered.result.flashes c.keekaboor_cover-covered.new.flash_room (length a.file_room.now) held pass)

pub slice_bounds-marks-end-in-Ok : goal.slice_bounds-marks-end-in-Ok
slice_bounds-marks-end-in-Ok c = let a = c.args in
    let fit = rooms-hold (length a.flash_room.now) (length a.mark_room.now) c.rooms_fit.ensures c.if-not-rooms_fit.false in
    let tells = told a.width a.height a.allowance a.raster.now a.flash_room.now a.mark_room.now _ _ fit.0 fit.1 (omega arith) (omega arith) c.keekaboor_cover-covered.ensures in
    omega (arith, tells.few-marks)

pub slice_bounds-put_bytes-end-in-Ok-2 : goal.slice_bounds-put_bytes-end-in-Ok-2
slice_bounds-put_bytes-end-in-Ok-2 c = let a = c.args in
    let fit = rooms-hold (length a.flash_room.now) (length a.mark_room.now) c.rooms_fit.ensures c.if-not-rooms_fit.false in
    let tells = told a.width a.height a.allowance a.raster.now a.flash_room.now a.mark_room.now _ _ fit.0 fit.1 (omega arith) (omega arith) c.keekaboor_cover-covered.ensures in
    sym (length-take-le _ c.keekaboor_cover-covered.new.mark_room (omega (arith, tells.few-marks)))

pub put_bytes-requires-in-Ok-2 : goal.put_bytes-requires-in-Ok-2
put_bytes-requires-in-Ok-2 c = let a = c.args in
    let fit = rooms-hold (length a.flash_room.now) (length a.mark_room.now) c.rooms_fit.ensures c.if-not-rooms_fit.false in
    let tells = told a.width a.height a.allowance a.raster.now a.flash_room.now a.mark_room.now _ _ fit.0 fit.1 (omega arith) (omega arith) c.keekaboor_cover-covered.ensures in
    omega (arith, tells.few-marks, fit.1, length-take (c.keekaboor_cover-covered.result.marks * mark_record) c.keekaboor_cover-covered.new.mark_room)

pub returns-in-Err : goal.returns-in-Err
returns-in-Err c = let a = c.args in
    let fit = rooms-hold (length a.flash_room.now) (length a.mark_room.now) c.rooms_fit.ensures c.if-not-rooms_fit.false in
    let tells = told a.width a.height a.allowance a.raster.now a.flash_room.now a.mark_room.now _ _ fit.0 fit.1 (omega arith) (omega arith) c.keekaboor_cover-covered.ensures in
    let qs = flashes_in c.keekaboor_cover-covered.result.flashes c.keekaboor_cover-covered.new.flash_room in
    let checked = c.file_checked.ensures.value ∙ (λ i. first_refusal (file_checks a.version a.pitch (to_z-of_z c.ranges.x i) (to_z-of_z c.ranges.y i) qs (length a.file_room.now))) in
    (λ i. record { outcome = c.from.ensures i; flashes_after = a.flash_room.now; marks_after = a.mark_room.now; file_after = a.file_room.now })
    ∙ write_refused a.width a.height a.allowance a.raster.now a.version a.pitch a.x a.y a.flash_room.now a.mark_room.now a.file_room.now tells c.if-covered-ne-DONE.false
    (sym (ap answered c.in-Err.is) ∙ checked) (refuses c.in-Err.refusal)

pub returns-in-Ok : goal.returns-in-Ok
returns-in-Ok c = let a = c.args in
    let fit = rooms-hold (length a.flash_room.now) (length a.mark_room.now) c.rooms_fit.ensures c.if-not-rooms_fit.false in
    let tells = told a.width a.height a.allowance a.raster.now a.flash_room.now a.mark_room.now _ _ fit.0 fit.1 (omega arith) (omega arith) c.keekaboor_cover-covered.ensures in
    let qs = flashes_in c.keekaboor_cover-covered.result.flashes c.keekaboor_cover-covered.new.flash_room in
    let checked = c.file_checked.ensures.value ∙ (λ i. first_refusal (file_checks a.version a.pitch (to_z-of_z c.ranges.x i) (to_z-of_z c.ranges.y i) qs (length a.file_room.now))) in
    let pass = ap (λ (z : Answer). z.number) (sym checked ∙ ap answered c.in-Ok.is) in
    let f = c.in-Ok.ensures.format in
    let same : gerber_file a.version (c.in-Ok.plane).pitch (c.in-Ok.plane).x (c.in-Ok.plane).y qs ≡ gerber_file a.version a.pitch a.x a.y qs =
    λ i. gerber_file a.version (f.1 i) ((f.2 ∙ to_z-of_z c.ranges.x) i) ((f.3 ∙ to_z-of_z c.ranges.y) i) qs in
    let long : c.put_file-length.result ≡ length (gerber_file a.version a.pitch a.x a.y qs) = omega (arith, c.put_file-length.ensures.past, ap length same) in
    let filed = c.put_file-length.ensures.left ∙ ap (written a.file_room.now 0) same in
    (λ i. record {
      outcome = (c.with_length-in-Ok.ensures ∙ ap (with_length c.keekaboor_cover-covered.result) long) i;
      flashes_after = c.put_bytes-in-Ok.ensures.left i;
      marks_after = c.put_bytes-in-Ok-2.ensures.left i;
      file_after = filed i;
    })
    ∙ write_done a.width a.height a.allowance a.raster.now a.version a.pitch a.x a.y a.flash_room.now a.mark_room.now a.file_room.now tells c.if-covered-ne-DONE.false refl pass
