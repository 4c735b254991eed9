-- `print_merged` is safe: what merges keeps the table's last line.
use mathlib.Core.Path.{refl, ◌∙◌}
use Rattle.finals.proofs.print_merged.Goals as goal

pub print-requires-2 : goal.print-requires-2
print-requires-2 g c =
    c.requires.keeps _ _ _ (record { shown = _; shows = refl; left = _; met = c.merge-reductions.ensures; leaves = refl }) ∙ c.requires.over
