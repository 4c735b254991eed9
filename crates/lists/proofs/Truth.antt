-- Boolean tests in proofs: a case with its equation, two tests that agree, the parts of a conjunction.
-- Each by cases; every file of laws uses them.
use mathlib.Core.Path.{◌≡◌, refl, sym, ◌∙◌}
use mathlib.Core.Bool.{Bool, true, false, ◌&&◌, false≢true}
use mathlib.Core.Option.{Option, none, some, none-ne-some}

-- the two cases of a test, each with its equation
pub bcase {ℓ} : {C : Type ℓ} (b : Bool) → (b ≡ true → C) → (b ≡ false → C) → C
bcase true t f = t refl
bcase false t f = f refl

-- the same for what may be missing
pub ocase {ℓ κ} : {A : Type ℓ} {C : Type κ} (o : Option A) → (o ≡ none → C) → ((x : A) → o ≡ some x → C) → C
ocase none n s = n refl
ocase (some x) n s = s x refl

pub missing {ℓ} : {A : Type ℓ} {o : Option A} {x : A} → o ≡ none → o ≡ some x → ⊥
missing {x} n s = none-ne-some x (sym n ∙ s)

-- two tests that pass together are one
pub agree : (a b : Bool) → (a ≡ true → b ≡ true) → (b ≡ true → a ≡ true) → a ≡ b
agree true b f g = sym (f refl)
agree false true f g = g refl
agree false false f g = refl

pub never : {b : Bool} → b ≡ true → b ≡ false → ⊥
never {b = true} t f = false≢true (sym f)
never {b = false} t f = false≢true t

-- what cannot pass fails
pub fails : (b : Bool) → (b ≡ true → ⊥) → b ≡ false
fails true h = absurd (h refl)
fails false h = refl

pub and_left : (a b : Bool) → (a && b) ≡ true → a ≡ true
and_left true b h = refl
and_left false b h = absurd (false≢true h)

pub and_right : (a b : Bool) → (a && b) ≡ true → b ≡ true
and_right true b h = h
and_right false b h = absurd (false≢true h)

pub and_both : (a b : Bool) → a ≡ true → b ≡ true → (a && b) ≡ true
and_both true b s t = t
and_both false b s t = absurd (false≢true s)
