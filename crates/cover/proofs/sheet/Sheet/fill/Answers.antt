-- `Sheet::fill` meets its contract: what passes the checks has no broken column; where one refuses, it stays a sheet of no column.
use mathlib.Core.Path.{refl, sym, ap, subst}
use Rattle.grid.specs.Limits.{side}
use Rattle.grid.specs.Code.{area_in}
use Rattle.grid.specs.declared.answers.Answer.{Answer}
use Rattle.columns.specs.Columns.{Bare, Filled, bottom_at, end_at}
use Rattle.columns.proofs.Filling.{zeros-bare}
use Rattle.columns.proofs.Whole.{passed-unbroken}
use Rattle.cover.proofs.Sheeted.{made-sheet, made-area}
use Rattle.cover.proofs.sheet.Sheet.fill.Goals as goal

pub columns_checked-requires-clause-bare : goal.columns_checked-requires-clause-bare
columns_checked-requires-clause-bare c = let b = zeros-bare side _ c.args.raster.sized.narrow in
    (subst (Bare c.args.raster.size.width) (sym c.requires.bottoms) b, subst (Bare c.args.raster.size.width) (sym c.requires.ends) b)

pub invariant_of-self-2 : goal.invariant_of-self-2
invariant_of-self-2 c =
    let r = c.args.raster in
    let F = c.columns_checked.ensures in
    let a = area_in r.size r.bytes.now in
    let low = subst (λ z. Filled r.size.width (bottom_at a r.size.height) z c.columns_checked.new.bottoms) c.requires.bottoms F.filled in
    let high = subst (λ z. Filled r.size.width (end_at a r.size.height) z c.columns_checked.new.ends) c.requires.ends F.filled_2 in
    let unbroken = passed-unbroken _ _ _ (sym (ap (λ (a : Answer). a.number) c.in_ok-columns_checked.ensures.value)) in
    record { sheeted = made-sheet r.size r.bytes.now r.sized unbroken low high }

pub returns-clause-sheet : goal.returns-clause-sheet
returns-clause-sheet c =
    let r = c.args.raster in
    let F = c.columns_checked.ensures in
    let a = area_in r.size r.bytes.now in
    let low = subst (λ z. Filled r.size.width (bottom_at a r.size.height) z c.columns_checked.new.bottoms) c.requires.bottoms F.filled in
    let high = subst (λ z. Filled r.size.width (end_at a r.size.height) z c.columns_checked.new.ends) c.requires.ends F.filled_2 in
    let unbroken = passed-unbroken _ _ _ (sym (ap (λ (a : Answer). a.number) c.in_ok-columns_checked.ensures.value)) in
    record { size = refl; bottoms = low; ends = high; area = made-area r.size r.bytes.now r.sized unbroken low high }
