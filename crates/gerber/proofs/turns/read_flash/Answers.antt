-- Each exit by its law.
use Rattle.std.proofs.Common.{arith}
use mathlib.Core.Path.{sym, ◌∙◌}
use Rattle.gerber.specs.File.{bytes}
use Rattle.gerber.proofs.FlashRead.{square-read, square_bound, letter_missing, column-missing, row-missing, both-there}
use Rattle.gerber.proofs.turns.read_flash.Goals as goal

pub returns-in_err-across : goal.returns-in_err-across
returns-in_err-across c = let a = c.args in
    let p = a.plane in
    c.from_residual.ensures ∙ letter_missing p.pitch p.fits p.x p.y a.text.now a.size c.requires.some-wide c.requires.some-high a.spot (sym c.read_word.ensures ∙ c.in_err-across.was)

pub returns-in_err-column : goal.returns-in_err-column
returns-in_err-column c = let a = c.args in
    let p = a.plane in
    let letter = sym c.read_word.ensures ∙ c.in_ok-across.was in
    let column = square-read a.text.now _ a.size.wide (bytes "Y") c.across.ensures c.find_square.ensures c.in_err-column.was in
    c.from_residual-in_err-column.ensures ∙ column-missing p.pitch p.fits p.x p.y a.text.now a.size c.requires.some-wide c.requires.some-high a.spot letter column

pub returns-in_err-row : goal.returns-in_err-row
returns-in_err-row c = let a = c.args in
    let p = a.plane in
    let letter = sym c.read_word.ensures ∙ c.in_ok-across.was in
    let column = square-read a.text.now _ a.size.wide (bytes "Y") c.across.ensures c.find_square.ensures c.in_ok-column.was in
    let row = square-read a.text.now _ a.size.high (bytes "D03*\n") c.upward.ensures c.find_square-2.ensures c.in_err-row.was in
    c.from_residual-in_err-row.ensures ∙ row-missing p.pitch p.fits p.x p.y a.text.now a.size c.requires.some-wide c.requires.some-high a.spot letter column row

-- the last column and the last row
pub overflow_add-flash : goal.overflow_add-flash
overflow_add-flash c = let b = square_bound _ _ _ _ c.args.size.wide _ (sym c.find_square.ensures ∙ c.in_ok-column.was) in
    record { fits = omega (arith, b, c.requires.wide) }

pub overflow_add-flash-2 : goal.overflow_add-flash-2
overflow_add-flash-2 c = let b = square_bound _ _ _ _ c.args.size.high _ (sym c.find_square-2.ensures ∙ c.in_ok-row.was) in
    record { fits = omega (arith, b, c.requires.high) }

pub returns : goal.returns
returns c = let a = c.args in
    let p = a.plane in
    let letter = sym c.read_word.ensures ∙ c.in_ok-across.was in
    let column = square-read a.text.now _ a.size.wide (bytes "Y") c.across.ensures c.find_square.ensures c.in_ok-column.was in
    let row = square-read a.text.now _ a.size.high (bytes "D03*\n") c.upward.ensures c.find_square-2.ensures c.in_ok-row.was in
    both-there p.pitch p.fits p.x p.y a.text.now a.size c.requires.some-wide c.requires.some-high a.spot letter column row
