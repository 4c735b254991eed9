-- Demand 1 of a call that is refused: "A refusal has a number and a place, and it changes no lent buffer, save that the refusal for a short allowance
-- writes its marks." "On a refusal every count [and] the copper number .. are returned as 0 ..; answer 9 alone reports k + 1 marks."
use Rattle.std.specs.Prelude.{◌≡◌, List, ◌≢◌, ℕ}
use Rattle.grid.specs.Answers.{allowance_short}
use Rattle.cover.specs.Cover.{Given}

pub record Refused (f m : List ℕ) (g : Given) : Type 0 where
  pub flash_room : g.flashes_after ≡ f
  pub no-flashes : g.outcome.flashes ≡ 0
  pub no_copper : g.outcome.copper ≡ 0
  pub no-area : g.outcome.flashed ≡ 0
  pub mark_room : g.outcome.answer ≢ allowance_short → g.marks_after ≡ m
  pub no-marks : g.outcome.answer ≢ allowance_short → g.outcome.marks ≡ 0
