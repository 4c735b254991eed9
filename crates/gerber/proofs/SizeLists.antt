-- The code's searches through a list of sizes find what the definitions say: whether a size is one of them, and how many stand before it.
use mathlib.Core.Path.{◌≡◌, refl, sym, ap, ◌∙◌}
use mathlib.Core.Bool.{true, false, not, cond, ◌||◌, ◌&&◌, false≢true}
use mathlib.Core.List.{List, [], ◌∷◌}
use Prim.Native.Nat.{ℕ, suc, ◌+◌, ◌*◌, ◌^◌, ◌≤◌, ◌<◌}
use native.Mathlib.Omega.{arith}
use lib.Dec.{eqb, ltb}
use lib.ListN.{length}
use borrow.Author.Tests.{eq-eqb, eqb-true, ltb-false}
use Rattle.std.specs.List.{list_any, position, position_or_len}
use Rattle.std.specs.Prelude.{Option, Some, None}
use Rattle.std.specs.Option.{unwrap_or, option_eq}
use Rattle.std.proofs.lemmas.List.Recursion.{is_position_or_len}
use Rattle.lists.specs.Lists.{any}
use Rattle.lists.proofs.Truth.{bcase, agree, and_left, and_right, and_both}
use Rattle.gerber.specs.File.{is_same_size, place_of, changes}
use Rattle.gerber.specs.Parts.{before_of}
use Rattle.gerber.specs.declared.sizes.Size.{Size}

turned-round : (s t : Size) → is_same_size t s ≡ true → is_same_size s t ≡ true
turned-round s t u =
    let w = eqb-true t.wide s.wide (and_left (eqb t.wide s.wide) (eqb t.high s.high) u) in
    let h = eqb-true t.high s.high (and_right (eqb t.wide s.wide) (eqb t.high s.high) u) in
    and_both (eqb s.wide t.wide) (eqb s.high t.high) (eq-eqb s.wide t.wide (sym w)) (eq-eqb s.high t.high (sym h))

pub either-way : (s t : Size) → is_same_size t s ≡ is_same_size s t
either-way s t = agree (is_same_size t s) (is_same_size s t) (turned-round s t) (turned-round t s)

pub contains-any : (s : Size) (ss : List Size) → list_any (λ t. is_same_size t s) ss ≡ any (is_same_size s) ss
contains-any s [] = refl
contains-any s (t ∷ ss) = (λ i. either-way s t i || contains-any s ss i)

-- how many stand before it
place-counted : (s : Size) (ss : List Size) → place_of s ss ≡ position_or_len (is_same_size s) ss
unfolding place_of
place-counted s ss = is_position_or_len (place_of s) (is_same_size s) refl (λ t ts. let n : suc (place_of s ts) ≡ 1 + place_of s ts = omega arith in ap (cond (is_same_size s t) 0) n) ss

pub place-most : (s : Size) (ss : List Size) → place_of s ss ≤ length ss
unfolding place_of
place-most s [] = omega arith
place-most s (t ∷ ss) = bcase (is_same_size s t) (λ u. rw u (omega arith)) (λ u. rw u (omega (arith, place-most s ss)))

pub place-first : (s : Size) (ss : List Size) → unwrap_or (position (is_same_size s) ss) (length ss) ≡ place_of s ss
place-first s ss =
    let e = place-counted s ss in
    bcase (ltb (position_or_len (is_same_size s) ss) (length ss))
    (λ u. rw u (sym e))
    (λ u. rw u (omega (arith, e, place-most s ss, ltb-false (position_or_len (is_same_size s) ss) (length ss) u)))

-- no change where the size before is this one
pub unchanged : (before : Option Size) (s : Size) → option_eq is_same_size before (Some s) ≡ true → changes (before_of before) s ≡ false
unchanged None s e = absurd (false≢true e)
unchanged (Some t) s e = ap not e

-- two sizes as one number each
pub one_number : (a b c d : ℕ) → b < 2 ^ 64 → d < 2 ^ 64 → eqb (a * 2 ^ 64 + b) (c * 2 ^ 64 + d) ≡ (eqb a c && eqb b d)
one_number a b c d hb hd =
    agree (eqb (a * 2 ^ 64 + b) (c * 2 ^ 64 + d)) (eqb a c && eqb b d)
    (λ u. let e = eqb-true (a * 2 ^ 64 + b) (c * 2 ^ 64 + d) u in and_both (eqb a c) (eqb b d) (eq-eqb a c (omega (arith, e, hb, hd))) (eq-eqb b d (omega (arith, e, hb, hd))))
    (λ u.
    let e = eqb-true a c (and_left (eqb a c) (eqb b d) u) in
    let f = eqb-true b d (and_right (eqb a c) (eqb b d) u) in
    eq-eqb (a * 2 ^ 64 + b) (c * 2 ^ 64 + d) (ap (λ (i : ℕ). i * 2 ^ 64 + b) e ∙ ap (λ (i : ℕ). c * 2 ^ 64 + i) f))
