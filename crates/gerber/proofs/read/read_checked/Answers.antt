-- Each exit by its law.
use Rattle.std.proofs.Common.{rules}
use mathlib.Core.Path.{◌≡◌, sym, ap, subst, ◌∙◌}
use Prim.Native.Nat.{ℕ, ◌*◌}
use mir.Facts.{to_z-of_z}
use lib.Dec.{leb}
use lib.ListN.{length, take}
use Rattle.std.specs.Prelude.{Ok, Err}
use Rattle.grid.specs.Limits.{flash_record, flash_room_size}
use Rattle.grid.specs.Answers.{answered, first_refusal}
use Rattle.grid.specs.Rooms.{written}
use Rattle.grid.specs.declared.answers.Answer.{Answer}
use Rattle.grid.specs.declared.answers.Refusal.TheVariants.{FlashRoomShort, BadFileLine}
use Rattle.grid.proofs.Chain.{Passes}
use Rattle.grid.proofs.Refusals.{refuses}
use Rattle.gerber.specs.File.{format_checks}
use Rattle.gerber.specs.Reading.{read_file}
use Rattle.gerber.specs.Parts.{ReadInto, ReadChecked}
use Rattle.gerber.proofs.ReadOutcomes.{check-refuses, check-passes, read_short, read_format, read-line, read_all, told-bad, told-flashes}
use Rattle.gerber.proofs.read.read_checked.Goals as goal

pub returns-in_err-check : goal.returns-in_err-check
returns-in_err-check c = let a = c.args in
    let f = check-refuses (leb flash_room_size (length a.flash_room.now)) FlashRoomShort (sym c.check.ensures ∙ c.in_err-check.was) in
    let told : c.from_residual.result ≡ Err FlashRoomShort = search rules in
    subst (λ r. ReadChecked a.version a.pitch a.x a.y a.text.now a.flash_room.now r a.flash_room.now) (sym told) (sym (read_short a.version a.pitch a.x a.y a.text.now a.flash_room.now f.0))

pub returns-in_err-plane : goal.returns-in_err-plane
returns-in_err-plane c = let a = c.args in
    let room = check-passes (leb flash_room_size (length a.flash_room.now)) FlashRoomShort (sym c.check.ensures ∙ c.in_ok-check.was) in
    let told : c.from_residual-in_err-plane.result ≡ Err c.in_err-plane.field-0.0 = search rules in
    let e = sym (ap answered c.in_err-plane.was) ∙ c.format_checked.ensures.value in
    subst (λ r. ReadChecked a.version a.pitch a.x a.y a.text.now a.flash_room.now r a.flash_room.now) (sym told)
    (sym (read_format a.version a.pitch a.x a.y a.text.now a.flash_room.now room e (refuses c.in_err-plane.field-0.0)))

pub returns-in_err-n : goal.returns-in_err-n
returns-in_err-n c = let a = c.args in
    let room = check-passes (leb flash_room_size (length a.flash_room.now)) FlashRoomShort (sym c.check.ensures ∙ c.in_ok-check.was) in
    let passed : Passes (first_refusal (format_checks a.version a.pitch)) = ap (λ (z : Answer). z.number) (sym c.format_checked.ensures.value ∙ ap answered c.in_ok-plane.was) in
    let told : c.from_residual-in_err-n.result ≡ Err (BadFileLine c.in_err-n.field-0.0.0) = search rules in
    let f = c.in_ok-plane.ensures.format in
    let into = subst (λ w. ReadInto w (Err c.in_err-n.field-0.0) c.read_file.new.room)
    (λ i. read_file (f.1 i) ((f.2 ∙ to_z-of_z c.ranges.x) i) ((f.3 ∙ to_z-of_z c.ranges.y) i) a.text.now) c.in_err-n.ensures in
    subst (λ r. ReadChecked a.version a.pitch a.x a.y a.text.now a.flash_room.now r a.flash_room.now) (sym told)
    (sym (read-line a.version a.pitch a.x a.y a.text.now a.flash_room.now room passed (told-bad (read_file a.pitch a.x a.y a.text.now) c.read_file.new.room into)))

pub returns : goal.returns
returns c = let a = c.args in
    let room = check-passes (leb flash_room_size (length a.flash_room.now)) FlashRoomShort (sym c.check.ensures ∙ c.in_ok-check.was) in
    let passed : Passes (first_refusal (format_checks a.version a.pitch)) = ap (λ (z : Answer). z.number) (sym c.format_checked.ensures.value ∙ ap answered c.in_ok-plane.was) in
    let f = c.in_ok-plane.ensures.format in
    let aside = c.read_file.new.room in
    let into = subst (λ w. ReadInto w (Ok c.in_ok-n.n) aside) (λ i. read_file (f.1 i) ((f.2 ∙ to_z-of_z c.ranges.x) i) ((f.3 ∙ to_z-of_z c.ranges.y) i) a.text.now) c.in_ok-n.ensures in
    let t = told-flashes (read_file a.pitch a.x a.y a.text.now) c.in_ok-n.n aside into in
    let room' = c.put_bytes.ensures.left ∙ ap (λ (n : ℕ). written a.flash_room.now 0 (take (n * flash_record) aside)) t.2 ∙ ap (written a.flash_room.now 0) t.4 in
    (λ i. record { outcome = record { answer = 0; place_x = 0; place_y = 0; flashes = t.2 i }; flashes_after = room' i })
    ∙ sym (read_all a.version a.pitch a.x a.y a.text.now a.flash_room.now room passed t.1)
