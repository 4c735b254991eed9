-- A reader that passes over the bytes w, from a spot to the next: what each leaf's success says, and when it succeeds.
-- Two passes in a row are one over both words, so a line's reader is a chain of these; a number ends where no digit follows.
use Rattle.std.proofs.Common.{Some}
use Rattle.std.proofs.lemmas.Option.{none-some}
use Rattle.text.proofs.Steps.{went}
use mathlib.Core.Path.{◌≡◌, refl, sym, ap, ◌∙◌}
use mathlib.Core.Bool.{Bool, true, false, ◌&&◌}
use mathlib.Core.List.{List, [], ◌∷◌, ◌++◌, map, append_assoc}
use Prim.Native.Nat.{ℕ, ◌+◌, ◌≤◌}
use native.Mathlib.Omega.{arith}
use lib.Dec.{leb}
use lib.ListN.{length, take, drop, length-append, length-drop, take-append-drop}
use lib.Seq.{drop-drop, take_at, length-take-le, drop-append_seam}
use borrow.Author.Tests.{le-leb, leb-true}
use Rattle.lists.specs.Lists.{all}
use Rattle.lists.proofs.Truth.{and_left, and_right}
use Rattle.text.specs.Words.{tab, stands, found, word_at, glyph, square, is_square, body_at}
use Rattle.text.specs.Decimal.{is_digit_byte, decimal, run, number_at, field, field_at}
use Rattle.text.proofs.Stands.{stands_at, stands-front, glyphs_squares, all-squares}
use Rattle.text.proofs.Inverse.{read_stated, stated_read}
use Rattle.std.proofs.lemmas.List.{length-map}

pub record Passes (t : List ℕ) (i : ℕ) (w : List ℕ) (j : ℕ) : Type 0 where
  pub past : j ≡ i + length w
  pub there : drop i t ≡ w ++ drop j t

module _ (t : List ℕ) (i : ℕ) (w : List ℕ) where
  pub passes-stands : {j : ℕ} → Passes t i w j → stands t i w ≡ true
  passes-stands {j} p = stands_at t i w (drop j t) p.there

  pub stands-passes : stands t i w ≡ true → Passes t i w (i + length w)
  stands-passes s = record { past = refl; there = stands-front t i w s }

  -- a word that is not empty ends inside the text
  pub passes-inside : {j : ℕ} → 1 ≤ length w → Passes t i w j → j ≤ length t
  passes-inside {j} h p =
      let e : length (drop i t) ≡ length w + length (drop j t) = ap length p.there ∙ length-append w (drop j t) in
      omega (arith, length-drop i t, length-drop j t, p.past)

module _ (t : List ℕ) (i : ℕ) (a b : List ℕ) where
  pub passes-both : {j k : ℕ} → Passes t i a j → Passes t j b k → Passes t i (a ++ b) k
  passes-both {j} {k} p q =
      record {
        past = omega (arith, p.past, q.past, length-append a b);
        there = p.there ∙ ap (a ++◌) q.there ∙ sym (append_assoc a b (drop k t));
      }

  pub passes-first : {k : ℕ} → Passes t i (a ++ b) k → Passes t i a (i + length a)
  passes-first {k} p =
      let e : drop i t ≡ a ++ (b ++ drop k t) = p.there ∙ append_assoc a b (drop k t) in
      record { past = refl; there = e ∙ ap (a ++◌) (sym (sym (drop-drop (length a) i t) ∙ ap (drop (length a)) e ∙ drop-append_seam a (b ++ drop k t))) }

  pub passes-second : {k : ℕ} → Passes t i (a ++ b) k → Passes t (i + length a) b k
  passes-second {k} p =
      let e : drop i t ≡ a ++ (b ++ drop k t) = p.there ∙ append_assoc a b (drop k t) in
      record {
        past = omega (arith, p.past, length-append a b);
        there = sym (drop-drop (length a) i t) ∙ ap (drop (length a)) e ∙ drop-append_seam a (b ++ drop k t);
      }

-- a word
pub found-spot : (b : Bool) (n : ℕ) {j : ℕ} → found b n ≡ Some j → (b ≡ true) × (n ≡ j)
found-spot true n e = (refl, cc)
found-spot false n {j} e = absurd (none-some j e)

module _ (t : List ℕ) (i : ℕ) (w : List ℕ) {j : ℕ} where
  pub word_passes : word_at t i w ≡ Some j → Passes t i w j
  unfolding word_at
  word_passes e =
      let f = found-spot (stands t i w) (i + length w) e in
      record { past = sym f.1; there = stands-front t i w f.0 ∙ ap (λ (k : ℕ). w ++ drop k t) f.1 }

  pub passes_word : Passes t i w j → word_at t i w ≡ Some j
  unfolding word_at
  passes_word p = rw (passes-stands t i w p, ← p.past)

-- no digit follows where a byte follows that is none
pub ends : (t : List ℕ) (i b : ℕ) (w : List ℕ) {j : ℕ} → is_digit_byte b ≡ false → Passes t i (b ∷ w) j → run (drop i t) ≡ []
unfolding run
ends t i b w n p = ap run p.there ∙ rw n

-- a field
module _ (t : List ℕ) (i limit n : ℕ) {j : ℕ} where
  number-passes : number_at t i limit ≡ Some (n, j) → (n ≤ limit) × Passes t i (decimal n) j
  number-passes e = let s = read_stated t i limit n j e in (s.small, record { past = s.past; there = s.there })

  passes-number : n ≤ limit → Passes t i (decimal n) j → run (drop j t) ≡ [] → number_at t i limit ≡ Some (n, j)
  passes-number small p e = stated_read t i limit n j (record { small = small; past = p.past; there = p.there; ends = e })

module _ (t : List ℕ) (i limit n : ℕ) {j : ℕ} where
  pub field-passes : field_at t i limit ≡ Some (n, j) → (n ≤ limit) × Passes t i (field n) j
  unfolding field_at
  field-passes e =
      let f = went (λ at. number_at t at limit) (word_at t i (tab ∷ [])) e in
      let g = number-passes t f.0 limit n f.2 in
      (g.0, passes-both t i (tab ∷ []) (decimal n) (word_passes t i (tab ∷ []) f.1) g.1)

  pub passes-field : n ≤ limit → Passes t i (field n) j → run (drop j t) ≡ [] → field_at t i limit ≡ Some (n, j)
  unfolding field_at
  passes-field small p e =
      rw (passes_word t i (tab ∷ []) (passes-first t i (tab ∷ []) (decimal n) p))
      (passes-number t (i + 1) limit n small (passes-second t i (tab ∷ []) (decimal n) p) e)

-- a row's body
module _ (t : List ℕ) (i w : ℕ) {j : ℕ} where
  pub body-passes : body_at t i w ≡ Some j → (length (map square (take w (drop i t))) ≡ w) × Passes t i (map glyph (map square (take w (drop i t)))) j
  unfolding body_at
  body-passes e =
      let f = found-spot (leb w (length (drop i t)) && all is_square (take w (drop i t))) (i + w) e in
      let l : w ≤ length (drop i t) = leb-true w (length (drop i t)) (and_left (leb w (length (drop i t))) (all is_square (take w (drop i t))) f.0) in
      let s : all is_square (take w (drop i t)) ≡ true = and_right (leb w (length (drop i t))) (all is_square (take w (drop i t))) f.0 in
      let n : length (map square (take w (drop i t))) ≡ w = length-map (take w (drop i t)) square ∙ length-take-le w (drop i t) l in
      let m : length (map glyph (map square (take w (drop i t)))) ≡ w = length-map (map square (take w (drop i t))) glyph ∙ n in (
        n,
        record {
          past = omega (arith, f.1);
          there =
              sym (take-append-drop w (drop i t))
              ∙ ap (λ (l : List ℕ). l ++ drop w (drop i t)) (sym (glyphs_squares (take w (drop i t)) s))
              ∙ ap (map glyph (map square (take w (drop i t))) ++◌) (drop-drop w i t ∙ ap (λ (k : ℕ). drop k t) f.1);
        },
      )

  pub passes-body : (squares : List ℕ) → length squares ≡ w → Passes t i (map glyph squares) j → body_at t i w ≡ Some j
  unfolding body_at
  passes-body squares e p =
      let n : length (map glyph squares) ≡ w = length-map squares glyph ∙ e in
      let d : take w (drop i t) ≡ map glyph squares = ap (take w) p.there ∙ take_at (map glyph squares) (drop j t) w n in
      let l : leb w (length (drop i t)) ≡ true = le-leb w (length (drop i t)) (omega (arith, ap length p.there, length-append (map glyph squares) (drop j t))) in
      let s : all is_square (take w (drop i t)) ≡ true = ap (all is_square) d ∙ all-squares squares in
      let q : i + w ≡ j = omega (arith, p.past) in
      rw (l, s, q)
