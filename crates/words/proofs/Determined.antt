-- Every public function's contract determines its outcome: no second outcome fits.
-- Each `ensures` is an equation of the result with a definition, or says of every bit whether it is on, and no two numbers have the same bits.
use mathlib.Core.Path.{refl, sym, ◌∙◌}
use Rattle.grid.proofs.Outcome.{Determined}
use Rattle.words.proofs.Words.{bits_determine}
use Rattle.words.proofs.is_on
use Rattle.words.proofs.with
use Rattle.words.proofs.without
use Rattle.words.proofs.below
use Rattle.words.proofs.next_on
use Rattle.words.proofs.last_on
use Rattle.words.proofs.flipped
use Rattle.words.proofs.differing
use Rattle.words.proofs.both
use Rattle.words.proofs.either
use Rattle.words.proofs.spread
use Rattle.words.proofs.next_off
use Rattle.words.proofs.last_off

pub is-on-determined : Determined is_on.Kinds.ps is_on.Kinds.r is_on.Reads.Pre is_on.Reads.Post
is-on-determined κs a pre x y v w p q = (p ∙ sym q, refl)

pub with-determined : Determined with.Kinds.ps with.Kinds.r with.Reads.Pre with.Reads.Post
with-determined κs a pre x y v w p q = (bits_determine x y p q, refl)

pub without-determined : Determined without.Kinds.ps without.Kinds.r without.Reads.Pre without.Reads.Post
without-determined κs a pre x y v w p q = (bits_determine x y p q, refl)

pub below-determined : Determined below.Kinds.ps below.Kinds.r below.Reads.Pre below.Reads.Post
below-determined κs a pre x y v w p q = (bits_determine x y p q, refl)

pub next-on-determined : Determined next_on.Kinds.ps next_on.Kinds.r next_on.Reads.Pre next_on.Reads.Post
next-on-determined κs a pre x y v w p q = (p ∙ sym q, refl)

pub last-on-determined : Determined last_on.Kinds.ps last_on.Kinds.r last_on.Reads.Pre last_on.Reads.Post
last-on-determined κs a pre x y v w p q = (p ∙ sym q, refl)

pub flipped_determined : Determined flipped.Kinds.ps flipped.Kinds.r flipped.Reads.Pre flipped.Reads.Post
flipped_determined κs a pre x y v w p q = (bits_determine x y p q, refl)

pub differing_determined : Determined differing.Kinds.ps differing.Kinds.r differing.Reads.Pre differing.Reads.Post
differing_determined κs a pre x y v w p q = (bits_determine x y p q, refl)

pub both-determined : Determined both.Kinds.ps both.Kinds.r both.Reads.Pre both.Reads.Post
both-determined κs a pre x y v w p q = (bits_determine x y p q, refl)

pub either-determined : Determined either.Kinds.ps either.Kinds.r either.Reads.Pre either.Reads.Post
either-determined κs a pre x y v w p q = (bits_determine x y p q, refl)

pub spread_determined : Determined spread.Kinds.ps spread.Kinds.r spread.Reads.Pre spread.Reads.Post
spread_determined κs a pre x y v w p q = (bits_determine x y p q, refl)

pub next-off-determined : Determined next_off.Kinds.ps next_off.Kinds.r next_off.Reads.Pre next_off.Reads.Post
next-off-determined κs a pre x y v w p q = (p ∙ sym q, refl)

pub last-off-determined : Determined last_off.Kinds.ps last_off.Kinds.r last_off.Reads.Pre last_off.Reads.Post
last-off-determined κs a pre x y v w p q = (p ∙ sym q, refl)
