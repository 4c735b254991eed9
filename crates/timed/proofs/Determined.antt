-- The benchmark's function has one outcome.
use mathlib.Core.Path.{refl, sym, ◌∙◌}
use mathlib.Core.Logic.{by_cases}
use native.Mathlib.Decide.{ℕ_discrete}
use Rattle.grid.proofs.Outcome.{Determined}
use Rattle.timed.specs.Timed.{refusal}
use Rattle.timed.proofs.timed_final_sets

pub timed_final_sets_determined : Determined timed_final_sets.Kinds.ps timed_final_sets.Kinds.r timed_final_sets.Reads.Pre timed_final_sets.Reads.Post
timed_final_sets_determined κs a pre x y v w p q =
    by_cases (ℕ_discrete (refusal a.0 a.1.0 a.1.1.0.now) 0)
    (λ e. (p.done e ∙ sym (q.done e), refl))
    (λ e. (p.refused e ∙ sym (q.refused e), refl))
