-- The apertures are the distinct sizes in order of first use: each flash's size is one of them, no size is there twice,
-- and those of the flashes up to some flash come before those of the flashes behind it.
use mathlib.Core.Path.{◌≡◌, refl, sym, ap, ◌∙◌}
use mathlib.Core.Bool.{Bool, true, false, ◌||◌}
use mathlib.Core.List.{List, [], ◌∷◌, ◌++◌, append_assoc, append-nil}
use lib.Dec.{eqb}
use borrow.Author.Tests.{eq-eqb, eqb-true}
use Rattle.lists.specs.Lists.{any}
use Rattle.lists.proofs.Truth.{bcase, agree, never, and_left, and_right, and_both}
use Rattle.grid.specs.Squares.{Rectangle}
use Rattle.gerber.specs.File.{size_of, is_same_size, added, used, apertures}
use Rattle.gerber.specs.declared.sizes.Size.{Size}

pub same_self : (s : Size) → is_same_size s s ≡ true
same_self s = and_both (eqb s.wide s.wide) (eqb s.high s.high) (eq-eqb s.wide s.wide refl) (eq-eqb s.high s.high refl)

turned : (s t : Size) → is_same_size s t ≡ true → is_same_size t s ≡ true
turned s t u =
    let w = eqb-true s.wide t.wide (and_left (eqb s.wide t.wide) (eqb s.high t.high) u) in
    let h = eqb-true s.high t.high (and_right (eqb s.wide t.wide) (eqb s.high t.high) u) in
    and_both (eqb t.wide s.wide) (eqb t.high s.high) (eq-eqb t.wide s.wide (sym w)) (eq-eqb t.high s.high (sym h))

pub either_way : (s t : Size) → is_same_size s t ≡ is_same_size t s
either_way s t = agree (is_same_size s t) (is_same_size t s) (turned s t) (turned t s)

any-both : (s : Size) (ss ts : List Size) → any (is_same_size s) (ss ++ ts) ≡ (any (is_same_size s) ss || any (is_same_size s) ts)
any-both s [] ts = refl
any-both s (t ∷ ss) ts = bcase (is_same_size s t) (λ u. rw u) (λ u. rw u (any-both s ss ts))

-- what was added is there, at the end or before
pub added-there : (ss : List Size) (s : Size) → any (is_same_size s) (added ss s) ≡ true
unfolding added
added-there ss s =
    bcase (any (is_same_size s) ss)
    (λ u. rw u u)
    (λ u. rw u (any-both s ss (s ∷ []) ∙ (λ i. u i || (same_self s i || false))))

-- and the others before it
pub added-behind : (ss : List Size) (s : Size) → (ts : List Size) × (added ss s ≡ ss ++ ts)
unfolding added
added-behind ss s = bcase (any (is_same_size s) ss) (λ u. ([], rw u (sym (append-nil ss)))) (λ u. (s ∷ [], rw u))

-- "in order of first use": what was used before stands before
pub used-behind : (ss : List Size) (qs : List Rectangle) → (ts : List Size) × (used ss qs ≡ ss ++ ts)
unfolding used
used-behind ss [] = ([], sym (append-nil ss))
used-behind ss (q ∷ qs) =
    let a = added-behind ss (size_of q) in
    let b = used-behind (added ss (size_of q)) qs in
    (a.0 ++ b.0, b.1 ∙ ap (λ l. l ++ b.0) a.1 ∙ append_assoc ss a.0 b.0)

used-both : (ss : List Size) (qs rs : List Rectangle) → used ss (qs ++ rs) ≡ used (used ss qs) rs
unfolding used
used-both ss [] rs = refl
used-both ss (q ∷ qs) rs = used-both (added ss (size_of q)) qs rs

pub first_use : (qs rs : List Rectangle) → (ts : List Size) × (apertures (qs ++ rs) ≡ apertures qs ++ ts)
first_use qs rs = let b = used-behind (apertures qs) rs in (b.0, used-both [] qs rs ∙ b.1)

-- each flash has its aperture
pub has_aperture : (qs : List Rectangle) (q : Rectangle) (rs : List Rectangle) → any (is_same_size (size_of q)) (apertures (qs ++ (q ∷ rs))) ≡ true
unfolding used
has_aperture qs q rs =
    let s = size_of q in
    let b = used-behind (added (apertures qs) s) rs in
    ap (any (is_same_size s)) (used-both [] qs (q ∷ rs) ∙ b.1)
    ∙ any-both s (added (apertures qs) s) b.0
    ∙ ap (λ t. t || any (is_same_size s) b.0) (added-there (apertures qs) s)

-- "one .. aperture per distinct flash size": none is there twice
abbrev pub Once : List Size → Type 0
Once [] = Unit {0}
Once (s ∷ ss) = (any (is_same_size s) ss ≡ false) × Once ss

once_last : (ss : List Size) (s : Size) → Once ss → any (is_same_size s) ss ≡ false → Once (ss ++ (s ∷ []))
once_last [] s o u = (refl, tt)
once_last (t ∷ ss) s o u =
    bcase (is_same_size s t)
    (λ e. absurd (never e (head_false (is_same_size s t) (any (is_same_size s) ss) u)))
    (λ e. (
      any-both t ss (s ∷ []) ∙ (λ i. o.0 i || ((either_way t s ∙ e) i || false)),
      once_last ss s o.1 (rw e at u),
    ))
  where
    head_false : (a b : Bool) → (a || b) ≡ false → a ≡ false
    head_false true b u = u
    head_false false b u = refl

once-added : (ss : List Size) (s : Size) → Once ss → Once (added ss s)
unfolding added
once-added ss s o = bcase (any (is_same_size s) ss) (λ u. rw u o) (λ u. rw u (once_last ss s o u))

once-used : (ss : List Size) (qs : List Rectangle) → Once ss → Once (used ss qs)
unfolding used
once-used ss [] o = o
once-used ss (q ∷ qs) o = once-used (added ss (size_of q)) qs (once-added ss (size_of q) o)

pub each-once : (qs : List Rectangle) → Once (apertures qs)
each-once qs = once-used [] qs tt
