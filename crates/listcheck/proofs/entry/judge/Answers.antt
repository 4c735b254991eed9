-- `judge` meets its contract: the first bad flash, or failing that the first bare square, or failing that the list is weighed.
use mathlib.Core.Path.{refl}
use Rattle.grid.proofs.Areas.{area_in_grid}
use Rattle.listcheck.specs.Verdict.{bad_line, bare_square}
use Rattle.listcheck.proofs.Judged.{bad-told, good-told, bare-told, held-told, judged-bad, judged-bare, judged-sound, no_shorter}
use Rattle.listcheck.proofs.entry.judge.Goals as goal

pub returns-in-Some : goal.returns-in-Some
returns-in-Some c = judged-bad _ _ _ _ _ c.requires.count_value.0 (bad-told (bad_line _ _ _ _) c.bad_line.ensures c.in-Some.is) refl

pub returns-in-Some-bare_square : goal.returns-in-Some-bare_square
returns-in-Some-bare_square c = judged-bare _ _ _ _ _ c.requires.count_value.0 (good-told (bad_line _ _ _ _) c.bad_line.ensures c.in_default.is)
    (bare-told (bare_square _ _ _ _) c.bare_square.ensures c.in-Some-bare_square.is)
    refl

pub weigh-requires-clause-enough : goal.weigh-requires-clause-enough
weigh-requires-clause-enough c = let g = c.args in (
  no_shorter _ _ _ _ g.mark_room.now c.requires.count_value.0 (good-told (bad_line _ _ _ _) c.bad_line.ensures c.in_default.is)
      (area_in_grid g.raster.size.width g.raster.size.height g.raster.bytes.now)
      (held-told (bare_square _ _ _ _) c.bare_square.ensures c.in_default-bare_square.is),
  c.requires.count_value.1,
)

pub returns : goal.returns
returns c = judged-sound _ _ _ _ _ c.requires.count_value.0 (good-told (bad_line _ _ _ _) c.bad_line.ensures c.in_default.is)
    (held-told (bare_square _ _ _ _) c.bare_square.ensures c.in_default-bare_square.is)
    c.weigh.ensures
