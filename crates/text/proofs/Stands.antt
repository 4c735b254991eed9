-- What it means that a word stands in a text at a spot: the text from the spot on is the word and then the rest.
-- Inductions on the word. Every reader of a line takes its line apart with these.
use Rattle.std.specs.Bool.{then_some}
use Rattle.std.proofs.Common.{None, nat_eq, length-take-le}
use Rattle.std.specs.List.{list_all, starts_with, range_with_len, slice_range}
use Rattle.std.proofs.lemmas.Slice.{between_from_start}
use mathlib.Core.Path.{◌≡◌, refl, sym, ap, ◌∙◌}
use mathlib.Core.Bool.{Bool, true, false, ◌&&◌, false≢true}
use mathlib.Core.List.{List, [], ◌∷◌, ◌++◌, map}
use mathlib.Core.Logic.{by_cases}
use Prim.Native.Nat.{ℕ, zero, suc, ◌+◌, ◌≤◌, ◌<◌}
use native.Mathlib.Omega.{arith}
use native.Mathlib.Decide.{ℕ_discrete}
use lib.Dec.{leb, eqb}
use lib.ListN.{length, take, drop, get_or, length-append, length-drop, drop_of_length-le}
use lib.Seq.{drop-drop, drop-cons}
use borrow.Author.Tests.{eq-eqb, eqb-true, le-leb, lt-leb, leb-true}
use Rattle.lists.specs.Lists.{all}
use Rattle.lists.proofs.Truth.{bcase, and_left, and_right, and_both}
use Rattle.grid.proofs.Writing.{drop-next}
use Rattle.text.specs.Words.{copper_glyph, none_glyph, begins, stands, found, word_at, glyph, square, is_square, body_at}

begins_self : (w q : List ℕ) → begins w (w ++ q) ≡ true
unfolding begins
begins_self [] q = refl
begins_self (b ∷ w) q = and_both (eqb b b) (begins w (w ++ q)) (eq-eqb b b refl) (begins_self w q)

begins-front : (w t : List ℕ) → begins w t ≡ true → t ≡ w ++ drop (length w) t
unfolding begins
begins-front [] t h = refl
begins-front (b ∷ w) [] h = absurd (false≢true h)
begins-front (b ∷ w) (c ∷ t) h =
    let e : b ≡ c = eqb-true b c (and_left (eqb b c) (begins w t) h) in
    ap (c ∷◌) (begins-front w t (and_right (eqb b c) (begins w t) h)) ∙ ap (λ (x : ℕ). x ∷ (w ++ drop (length w) t)) (sym e)

begins-append : (a b t : List ℕ) → begins (a ++ b) t ≡ (begins a t && begins b (drop (length a) t))
unfolding begins
begins-append [] b t = refl
begins-append (x ∷ a) b [] = refl
begins-append (x ∷ a) b (c ∷ t) = bcase (eqb x c) (λ u. rw u (begins-append a b t)) (λ u. rw u)

-- the word stands at the spot where the text from there on is the word and the rest
pub stands_at : (t : List ℕ) (i : ℕ) (w q : List ℕ) → drop i t ≡ w ++ q → stands t i w ≡ true
stands_at t i w q e = ap (begins w) e ∙ begins_self w q

pub stands-front : (t : List ℕ) (i : ℕ) (w : List ℕ) → stands t i w ≡ true → drop i t ≡ w ++ drop (i + length w) t
stands-front t i w h = begins-front w (drop i t) h ∙ ap (w ++◌) (drop-drop (length w) i t)

-- two words stand in a row where the first stands and the second stands past it
pub stands-append : (t : List ℕ) (i : ℕ) (a b : List ℕ) → stands t i (a ++ b) ≡ (stands t i a && stands t (i + length a) b)
stands-append t i a b = begins-append a b (drop i t) ∙ ap (λ (l : List ℕ). begins a (drop i t) && begins b l) (drop-drop (length a) i t)

-- a word that is not empty stands inside the text
pub stands-inside : (t : List ℕ) (i b : ℕ) (w : List ℕ) → stands t i (b ∷ w) ≡ true → i + length (b ∷ w) ≤ length t
stands-inside t i b w h =
    let e : length (drop i t) ≡ suc (length w + length (drop (i + suc (length w)) t)) = ap length (stands-front t i (b ∷ w) h) ∙ ap suc (length-append w (drop (i + suc (length w)) t)) in
    omega (arith, length-drop i t)

-- the tests that the code makes: of a word, that the text from the spot on starts with it; of a row's body, that each character is a square
begins-starts : (w t : List ℕ) → begins w t ≡ starts_with nat_eq t w
unfolding begins
begins-starts [] t = refl
begins-starts (b ∷ w) [] = refl
begins-starts (b ∷ w) (c ∷ t) = ap (λ (r : Bool). eqb b c && r) (begins-starts w t)

pub word-starts : (t : List ℕ) (i : ℕ) (w : List ℕ) {s : List ℕ} {r : Bool} → s ≡ drop i t → r ≡ starts_with nat_eq s w → word_at t i w ≡ found r (i + length w)
unfolding word_at
word-starts t i w d e = rw (begins-starts w (drop i t), ← d, ← e)

-- byte by byte: a text starts with a word where it has as many bytes, and each is the word's
begins-short : (w t : List ℕ) → length t < length w → begins w t ≡ false
unfolding begins
begins-short [] t h = absurd (omega arith)
begins-short (b ∷ w) [] h = refl
begins-short (b ∷ w) (c ∷ t) h = bcase (eqb b c) (λ u. rw u (begins-short w t (omega arith))) (λ u. rw u)

begins-take : (w t : List ℕ) → begins w (take (length w) t) ≡ begins w t
unfolding begins
begins-take [] t = refl
begins-take (b ∷ w) [] = refl
begins-take (b ∷ w) (c ∷ t) = ap (eqb b c &&◌) (begins-take w t)

module _ (w t : List ℕ) where
  abbrev pub same : ℕ → Bool
  same k = eqb (get_or w k 0) (get_or t k 0)

  begins-each : (n k : ℕ) → length w ≡ k + n → length w ≤ length t → begins (drop k w) (drop k t) ≡ list_all same (range_with_len k n)
  unfolding begins
  begins-each zero k e l = let h : length w ≤ k = omega arith in rw (drop_of_length-le w h)
  begins-each (suc n) k e l =
      let h : k < length w = omega arith in
      let j : k < length t = omega arith in
      rw (drop-next w k h, drop-next t k j) (ap (eqb (get_or w k 0) (get_or t k 0) &&◌) (begins-each n (k + 1) (omega arith) l))

module _ (t : List ℕ) (i : ℕ) (w : List ℕ) {s : List ℕ} (d : s ≡ drop i t) where
  pub word-short : length s < length w → word_at t i w ≡ None
  word-short h = word-starts t i w d (sym (begins-short w s h) ∙ begins-starts w s)

  pub word-each : {f : List ℕ} {r : Bool} → length w ≤ length s → f ≡ slice_range s 0 (length w) → r ≡ list_all (same w f) (range_with_len 0 (length w))
      → word_at t i w ≡ found r (i + length w)
  word-each l g e =
      let f = take (length w) s in
      let n : length f ≡ length w = length-take-le _ _ l in
      let h = sym (begins-each w f (length w) 0 (omega arith) (omega arith)) ∙ begins-take w s ∙ begins-starts w s in
      word-starts t i w d (e ∙ rw (g, between_from_start s (length w)) h)

-- of a word of one byte, that the byte at the spot is it
pub byte-off : (t : List ℕ) (i b : ℕ) → length t ≤ i → stands t i (b ∷ []) ≡ false
unfolding begins
byte-off t i b h = rw (drop_of_length-le t h)

pub byte-there : (t : List ℕ) (i b : ℕ) {c : ℕ} → i < length t → c ≡ get_or t i 0 → stands t i (b ∷ []) ≡ eqb b c
unfolding begins
byte-there t i b {c} h e = rw (drop-cons t i 0 h, ← e) (bcase (eqb b c) (λ u. rw u) (λ u. rw u))

pub byte-word : (t : List ℕ) (i b : ℕ) {r : Bool} → r ≡ stands t i (b ∷ []) → word_at t i (b ∷ []) ≡ found r (i + 1)
unfolding word_at
byte-word t i b e = ap (λ (r : Bool). found r (i + 1)) (sym e)

all-listed : (p : ℕ → Bool) (xs : List ℕ) → all p xs ≡ list_all p xs
all-listed p [] = refl
all-listed p (x ∷ xs) = ap (λ (r : Bool). p x && r) (all-listed p xs)

module _ (t : List ℕ) (i w : ℕ) {s : List ℕ} (d : s ≡ drop i t) where
  pub body-short : length s < w → body_at t i w ≡ None
  unfolding body_at
  body-short h = rw (← d, lt-leb w (length s) h)

  pub body-all : {r : Bool} → w ≤ length s → r ≡ list_all is_square (slice_range s 0 w) → body_at t i w ≡ found r (i + w)
  unfolding body_at
  body-all h e = rw (← d, le-leb w (length s) h, all-listed is_square (take w s), ← between_from_start s w, ← e)

-- `then_some`, of a spot
pub some-found : (r : Bool) (i : ℕ) → then_some r i ≡ found r i
some-found true i = refl
some-found false i = refl

-- characters that are squares, and squares as characters
pub glyph-square : (c : ℕ) → is_square c ≡ true → glyph (square c) ≡ c
glyph-square c s =
    bcase (eqb c copper_glyph)
    (λ u. let e = eqb-true c copper_glyph u in rw u (sym e))
    (λ u. let e = eqb-true c none_glyph (rw u at s) in rw u (sym e))

pub square-glyph : (b : ℕ) → b ≤ 1 → square (glyph b) ≡ b
square-glyph b h =
    by_cases (ℕ_discrete b 1)
    (λ e. rw e)
    (λ n. let e : b ≡ 0 = omega arith in rw e)

pub is-square : (b : ℕ) → is_square (glyph b) ≡ true
is-square b = bcase (eqb b 1) (λ u. rw u) (λ u. rw u)

pub glyphs_squares : (cs : List ℕ) → all is_square cs ≡ true → map glyph (map square cs) ≡ cs
glyphs_squares [] a = refl
glyphs_squares (c ∷ cs) a =
    ap (λ (x : ℕ). x ∷ map glyph (map square cs)) (glyph-square c (and_left (is_square c) (all is_square cs) a))
    ∙ ap (c ∷◌) (glyphs_squares cs (and_right (is_square c) (all is_square cs) a))

pub squares_glyphs : (bs : List ℕ) → all (λ b. leb b 1) bs ≡ true → map square (map glyph bs) ≡ bs
squares_glyphs [] a = refl
squares_glyphs (b ∷ bs) a =
    ap (λ (x : ℕ). x ∷ map square (map glyph bs)) (square-glyph b (leb-true b 1 (and_left (leb b 1) (all (λ b. leb b 1) bs) a)))
    ∙ ap (b ∷◌) (squares_glyphs bs (and_right (leb b 1) (all (λ b. leb b 1) bs) a))

pub all-squares : (bs : List ℕ) → all is_square (map glyph bs) ≡ true
all-squares [] = refl
all-squares (b ∷ bs) = and_both (is_square (glyph b)) (all is_square (map glyph bs)) (is-square b) (all-squares bs)
