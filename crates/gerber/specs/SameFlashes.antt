-- "Reading our own file back, given its pitch and origin, gives the same flashes" (document 02, R-2), "under either version" (R-9), of a call that wrote with success and one that reads:
-- r is the writer's outcome and f' what its flash room holds afterwards; the reader's room held g before; o is its outcome, and g' what its room holds afterwards.
use Rattle.std.specs.Prelude.{◌≡◌, List, ℕ, ◌*◌, take, drop}
use Rattle.grid.specs.Limits.{flash_record}
use Rattle.gerber.specs.declared.write.WriteOutcome.{WriteOutcome}
use Rattle.gerber.specs.declared.read.ReadOutcome.{ReadOutcome}

-- no refusal, as many flashes, the same records byte for byte, and the room's other bytes as they were
pub record SameFlashes (r : WriteOutcome) (f' g : List ℕ) (o : ReadOutcome) (g' : List ℕ) : Type 0 where
  pub answered : o.answer ≡ 0
  pub many : o.flashes ≡ r.flashes
  pub records : take (r.flashes * flash_record) g' ≡ take (r.flashes * flash_record) f'
  pub rest : drop (r.flashes * flash_record) g' ≡ drop (r.flashes * flash_record) g
