-- What follows from the success of a reading that goes on with a leaf's answer: the leaf's success, and that of what goes on with it.
use Rattle.std.proofs.Common.{Option, Some}
use mathlib.Core.Path.{◌≡◌}
use Rattle.std.specs.Option.{option_and_then}
use Rattle.std.proofs.lemmas.Option.{option_and_then_some}

pub went : {A B : Type 0} (f : A → Option B) (o : Option A) {y : B} → option_and_then f o ≡ Some y → (x : A) × (o ≡ Some x) × (f x ≡ Some y)
went f o {y} e = option_and_then_some f o y e (λ x p q. (x, p, q))
