-- Each check behind those before it.
use Rattle.std.proofs.Common.{rules}
use mathlib.Core.Path.{◌≡◌, sym, ap, ◌∙◌}
use mir.Facts.{to_z-of_z}
use lib.Dec.{leb}
use Rattle.std.specs.Prelude.{Err}
use Rattle.grid.specs.Limits.{file_room_size}
use Rattle.grid.specs.Answers.{answered}
use Rattle.grid.specs.declared.answers.Refusal.TheVariants.{CentreOut, FileRoomShort}
use Rattle.cover.specs.Records.{flashes_in}
use Rattle.gerber.specs.File.{centres_fit}
use Rattle.gerber.proofs.FileChecks.{format-stops, centre-stops, room-stops, all-pass}
use Rattle.gerber.proofs.ReadOutcomes.{check-refuses, check-passes}
use Rattle.gerber.proofs.write.file_checked.Goals as goal

pub returns-in_err-version-clause-value : goal.returns-in_err-version-clause-value
returns-in_err-version-clause-value c = let a = c.args in
    let told : c.from_residual.result ≡ Err c.in_err-version.field-0.0 = search rules in
    ap answered told ∙ format-stops a.version a.pitch a.x a.y (flashes_in a.flashes.count a.flashes.records.now) a.file_room c.format_checked.ensures.value c.in_err-version.was

pub returns-in_err-check-clause-value : goal.returns-in_err-check-clause-value
returns-in_err-check-clause-value c = let a = c.args in
    let f = c.in_ok-version.ensures.format in
    let fit : c.centres_fit.result ≡ centres_fit a.pitch a.x a.y (flashes_in a.flashes.count a.flashes.records.now) =
    c.centres_fit.ensures ∙ (λ i. centres_fit (f.1 i) ((f.2 ∙ to_z-of_z c.ranges.x) i) ((f.3 ∙ to_z-of_z c.ranges.y) i) (flashes_in a.flashes.count a.flashes.records.now)) in
    let told : c.from_residual-in_err-check.result ≡ Err CentreOut = search rules in
    let g = check-refuses c.centres_fit.result CentreOut (sym c.check.ensures ∙ c.in_err-check.was) in
    ap answered told ∙ centre-stops a.version a.pitch a.x a.y (flashes_in a.flashes.count a.flashes.records.now) a.file_room c.format_checked.ensures.value c.in_ok-version.was (sym fit ∙ g.0)

pub returns-in_err-check-2-clause-value : goal.returns-in_err-check-2-clause-value
returns-in_err-check-2-clause-value c = let a = c.args in
    let f = c.in_ok-version.ensures.format in
    let fit : c.centres_fit.result ≡ centres_fit a.pitch a.x a.y (flashes_in a.flashes.count a.flashes.records.now) =
    c.centres_fit.ensures ∙ (λ i. centres_fit (f.1 i) ((f.2 ∙ to_z-of_z c.ranges.x) i) ((f.3 ∙ to_z-of_z c.ranges.y) i) (flashes_in a.flashes.count a.flashes.records.now)) in
    let told : c.from_residual-in_err-check-2.result ≡ Err FileRoomShort = search rules in
    let g = check-passes c.centres_fit.result CentreOut (sym c.check.ensures ∙ c.in_ok-check.was) in
    let h = check-refuses (leb file_room_size a.file_room) FileRoomShort (sym c.check-2.ensures ∙ c.in_err-check-2.was) in
    ap answered told ∙ room-stops a.version a.pitch a.x a.y (flashes_in a.flashes.count a.flashes.records.now) a.file_room c.format_checked.ensures.value c.in_ok-version.was (sym fit ∙ g) h.0

pub returns-clause-value : goal.returns-clause-value
returns-clause-value c = let a = c.args in
    let f = c.in_ok-version.ensures.format in
    let fit : c.centres_fit.result ≡ centres_fit a.pitch a.x a.y (flashes_in a.flashes.count a.flashes.records.now) =
    c.centres_fit.ensures ∙ (λ i. centres_fit (f.1 i) ((f.2 ∙ to_z-of_z c.ranges.x) i) ((f.3 ∙ to_z-of_z c.ranges.y) i) (flashes_in a.flashes.count a.flashes.records.now)) in
    let g = check-passes c.centres_fit.result CentreOut (sym c.check.ensures ∙ c.in_ok-check.was) in
    let h = check-passes (leb file_room_size a.file_room) FileRoomShort (sym c.check-2.ensures ∙ c.in_ok-check-2.was) in
    all-pass a.version a.pitch a.x a.y (flashes_in a.flashes.count a.flashes.records.now) a.file_room c.format_checked.ensures.value c.in_ok-version.was (sym fit ∙ g) h
