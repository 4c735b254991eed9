-- Where the aperture of a size stands: the place of a size among the sizes used is that of the size itself, and tells how many have been used.
-- Reading a file back passes from a select's number to the size by this.
use mathlib.Core.Path.{◌≡◌, refl, sym, ap, ◌∙◌}
use mathlib.Core.Bool.{Bool, true, false, ◌||◌, false≢true}
use mathlib.Core.List.{List, [], ◌∷◌, ◌++◌}
use Prim.Native.Nat.{ℕ, suc, ◌+◌, ◌≤◌, ◌<◌, max}
use native.Mathlib.Omega.{arith}
use lib.Dec.{eqb}
use lib.ListN.{length, length-append}
use borrow.Author.Tests.{eqb-true}
use Rattle.lists.specs.Lists.{any}
use Rattle.lists.proofs.Truth.{bcase, and_left, and_right}
use Rattle.lists.proofs.Members.{any_append}
use Rattle.grid.specs.Squares.{Rectangle}
use Rattle.gerber.specs.File.{is_same_size, added, used, place_of}
use Rattle.gerber.specs.declared.sizes.Size.{Size}
use Rattle.gerber.specs.Reading.{size_at}
use Rattle.gerber.proofs.FirstUse.{same_self, either_way, added-there, used-behind, Once}

pub same_size : (s t : Size) → is_same_size s t ≡ true → s ≡ t
same_size s t u =
    let w = eqb-true s.wide t.wide (and_left (eqb s.wide t.wide) (eqb s.high t.high) u) in
    let h = eqb-true s.high t.high (and_right (eqb s.wide t.wide) (eqb s.high t.high) u) in
    (λ i. record { wide = w i; high = h i })

pub place_in : (z : Size) (ss : List Size) → any (is_same_size z) ss ≡ true → place_of z ss < length ss
unfolding place_of
place_in z [] a = absurd (false≢true a)
place_in z (s ∷ ss) a = bcase (is_same_size z s) (λ u. rw u (omega arith)) (λ u. rw u (omega (arith, place_in z ss (rw u at a))))

pub place_at : (z : Size) (ss : List Size) → any (is_same_size z) ss ≡ true → size_at ss (place_of z ss) ≡ z
unfolding place_of
place_at z [] a = absurd (false≢true a)
place_at z (s ∷ ss) a = bcase (is_same_size z s) (λ u. rw u (sym (same_size z s u))) (λ u. rw u (place_at z ss (rw u at a)))

place-front : (z : Size) (ss ts : List Size) → any (is_same_size z) ss ≡ true → place_of z (ss ++ ts) ≡ place_of z ss
unfolding place_of
place-front z [] ts a = absurd (false≢true a)
place-front z (s ∷ ss) ts a = bcase (is_same_size z s) (λ u. rw u) (λ u. rw u (ap suc (place-front z ss ts (rw u at a))))

place-last : (z : Size) (ss ts : List Size) → any (is_same_size z) ss ≡ false → place_of z (ss ++ (z ∷ ts)) ≡ length ss
unfolding place_of
place-last z [] ts a = rw (same_self z)
place-last z (s ∷ ss) ts a = bcase (is_same_size z s) (λ u. absurd (false≢true (sym (rw u at a)))) (λ u. rw u (ap suc (place-last z ss ts (rw u at a))))

-- the place of a size, once it is used
added-place : (known : List Size) (z : Size) → (place_of z (added known z) ≤ length known) × (max (length known) (place_of z (added known z) + 1) ≡ length (added known z))
unfolding added
added-place known z =
    bcase (any (is_same_size z) known)
    (λ u. let l = place_in z known u in rw u (omega arith, omega arith))
    (λ u.
    let e : place_of z (known ++ (z ∷ [])) ≡ length known = place-last z known [] u in
    let n : length (known ++ (z ∷ [])) ≡ length known + 1 = length-append known (z ∷ []) in
    rw u (omega arith, omega arith))

-- the sizes are those known, this one, and those of the flashes behind
pub record Known (sizes known : List Size) (z : Size) : Type 0 where
  pub here : any (is_same_size z) sizes ≡ true
  pub low : place_of z sizes ≤ length known
  pub more : max (length known) (place_of z sizes + 1) ≡ length (added known z)

pub in_known : (sizes known : List Size) (z : Size) (rs : List Rectangle) → sizes ≡ used (added known z) rs → Known sizes known z
in_known sizes known z rs e =
    let b = used-behind (added known z) rs in
    let f : sizes ≡ added known z ++ b.0 = e ∙ b.1 in
    let p : place_of z sizes ≡ place_of z (added known z) = ap (place_of z) f ∙ place-front z (added known z) b.0 (added-there known z) in
    let a = added-place known z in
    record {
      here = ap (any (is_same_size z)) f ∙ any_append (is_same_size z) (added known z) b.0 ∙ ap (λ (u : Bool). u || any (is_same_size z) b.0) (added-there known z);
      low = omega arith;
      more = ap (λ (k : ℕ). max (length known) (k + 1)) p ∙ a.1;
    }

-- no size is there twice: one that comes behind was not there before
pub not-before : (done : List Size) (z : Size) (ss : List Size) → Once (done ++ (z ∷ ss)) → any (is_same_size z) done ≡ false
not-before [] z ss o = refl
not-before (s ∷ done) z ss o =
    let a : (any (is_same_size s) done || (is_same_size s z || any (is_same_size s) ss)) ≡ false = sym (any_append (is_same_size s) done (z ∷ ss)) ∙ o.0 in
    let n : is_same_size z s ≡ false = either_way z s ∙ middle (any (is_same_size s) done) (is_same_size s z) (any (is_same_size s) ss) a in
    rw n (not-before done z ss o.1)
  where
    middle : (a b c : Bool) → (a || (b || c)) ≡ false → b ≡ false
    middle true b c e = absurd (false≢true (sym e))
    middle false true c e = absurd (false≢true (sym e))
    middle false false c e = refl
