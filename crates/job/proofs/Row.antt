-- The line of a row: the definition, which judges the line as a whole, and the reading step by step give the same answer.
-- Both succeed exactly where the text goes on with the row's line for some squares, as many as the width; the bytes behind the head fix them.
-- The proof of `read_row` and the round trips use it.
use Rattle.std.proofs.Common.{None, Option, Some}
use mathlib.Core.Path.{◌≡◌, refl, sym, ap, ◌∙◌}
use mathlib.Core.Bool.{Bool, true, cond}
use mathlib.Core.List.{List, [], ◌∷◌, ◌++◌, map}
use mathlib.Core.Logic.{◌↔◌}
use Prim.Native.Nat.{ℕ, ◌+◌, ◌≤◌}
use native.Mathlib.Omega.{arith}
use native.Mathlib.Nat.{le_refl}
use lib.Dec.{leb, eqb}
use lib.ListN.{length, take, drop, length-take, length-drop}
use lib.Seq.{take_at}
use borrow.Author.Tests.{eq-eqb, eqb-true}
use Rattle.lists.specs.Lists.{all}
use Rattle.lists.proofs.Truth.{bcase, and_both}
use Rattle.text.specs.Words.{tab, feed, stands, word_at, glyph, square, body_at}
use Rattle.text.specs.Decimal.{field, field_at}
use Rattle.text.proofs.Stands.{squares_glyphs}
use Rattle.std.proofs.lemmas.List.{length-map}
use Rattle.text.proofs.Passes.{Passes, passes-stands, stands-passes, passes-inside, passes-both, passes-first, passes-second, found-spot}
use Rattle.text.proofs.Passes.{word_passes, passes_word, ends, field-passes, passes-field, body-passes, passes-body}
use Rattle.job.specs.JobText.{row_word, row_head, row_line}
use Rattle.job.specs.Reading.{squares_at, row_at}
use Rattle.std.specs.Option.{option_and_then}
use Rattle.std.proofs.lemmas.Option.{none-some}
use Rattle.text.proofs.Steps.{went}

-- raster bytes are 0 or 1
abbrev pub squares? : List ℕ → Bool
squares? bytes = all (λ b. leb b 1) bytes

pub are_squares : (cs : List ℕ) → squares? (map square cs) ≡ true
are_squares [] = refl
are_squares (c ∷ cs) = and_both (leb (square c) 1) (squares? (map square cs)) (bcase (eqb c 35) (λ u. rw u) (λ u. rw u)) (are_squares cs)

-- the text goes on with the row's line for these squares
pub record Rowed (t : List ℕ) (s w r : ℕ) (squares : List ℕ) (j : ℕ) : Type 0 where
  pub wide : length squares ≡ w
  pub bytes : squares? squares ≡ true
  pub line : Passes t s (row_line r squares) j

-- what stands behind the head is the squares and the line feed
module _ (t : List ℕ) (s r : ℕ) (squares : List ℕ) {j : ℕ} (p : Passes t s (row_line r squares) j) where
  abbrev body : ℕ
  body = s + length (row_head r)

  pub head-passes : Passes t s (row_head r) body
  unfolding row_line
  head-passes = passes-first t s (row_head r) (map glyph squares ++ (feed ∷ [])) p

  tail-passes : Passes t body (map glyph squares ++ (feed ∷ [])) j
  unfolding row_line
  tail-passes = passes-second t s (row_head r) (map glyph squares ++ (feed ∷ [])) p

  pub body-there : Passes t body (map glyph squares) (body + length (map glyph squares))
  body-there = passes-first t body (map glyph squares) (feed ∷ []) tail-passes

  pub feed-there : Passes t (body + length (map glyph squares)) (feed ∷ []) j
  feed-there = passes-second t body (map glyph squares) (feed ∷ []) tail-passes

  -- so the squares are those that were looked for
  pub squares-found : squares? squares ≡ true → squares_at t body (length squares) ≡ squares
  squares-found h =
      ap (map square) (ap (take (length squares)) body-there.there ∙ take_at (map glyph squares) (drop (body + length (map glyph squares)) t) (length squares) (length-map squares glyph))
      ∙ squares_glyphs squares h

-- as a whole
pub whole_rowed : (t : List ℕ) (s w r : ℕ) {j : ℕ} → row_at t s w r ≡ Some j → Rowed t s w r (squares_at t (s + length (row_head r)) w) j
unfolding row_at
whole_rowed t s w r {j} e =
    let i : ℕ = s + length (row_head r) in
    let cs : List ℕ = take w (drop i t) in
    let squares : List ℕ = map square cs in
    let f = found-spot (stands t s (row_line r squares)) (s + length (row_line r squares)) e in
    let p : Passes t s (row_line r squares) j = rw f.1 at (stands-passes t s (row_line r squares) f.0) in
    let q = feed-there t s r squares p in
    let inside : j ≤ length t = passes-inside t (i + length (map glyph squares)) (feed ∷ []) (omega arith) q in
    record {
      wide = omega (arith, q.past, length-map cs square, length-map squares glyph, length-take w (drop i t), length-drop i t);
      bytes = are_squares cs;
      line = p;
    }

pub rowed_whole : (t : List ℕ) (s w r : ℕ) (squares : List ℕ) {j : ℕ} → Rowed t s w r squares j → row_at t s w r ≡ Some j
unfolding row_at
rowed_whole t s w r squares {j} p =
    let e : squares_at t (s + length (row_head r)) w ≡ squares =
    ap (squares_at t (s + length (row_head r))) (sym p.wide) ∙ squares-found t s r squares p.line p.bytes in
    rw (e, passes-stands t s (row_line r squares) p.line, ← p.line.past)

-- step by step: what follows the body, the tab, the number, the word
abbrev pub feed_step : List ℕ → ℕ → Option ℕ
feed_step t d = word_at t d (feed ∷ [])

abbrev pub body_step : List ℕ → ℕ → ℕ → Option ℕ
body_step t w c = option_and_then (feed_step t) (body_at t c w)

abbrev pub tab_step : List ℕ → ℕ → ℕ → Option ℕ
tab_step t w b = option_and_then (body_step t w) (word_at t b (tab ∷ []))

abbrev pub match_step : List ℕ → ℕ → ℕ → ℕ → ℕ → Option ℕ
match_step t w r n b = cond (eqb n r) (tab_step t w b) None

abbrev pub number_step : List ℕ → ℕ → ℕ → ℕ → Option ℕ
number_step t w r a = option_and_then (λ p. match_step t w r p.0 p.1) (field_at t a r)

abbrev pub row_steps : List ℕ → ℕ → ℕ → ℕ → Option ℕ
row_steps t s w r = option_and_then (number_step t w r) (word_at t s row_word)

matched : (t : List ℕ) (w r n b : ℕ) {j : ℕ} → match_step t w r n b ≡ Some j → (n ≡ r) × (tab_step t w b ≡ Some j)
matched t w r n b {j} e = bcase (eqb n r) (λ u. (eqb-true n r u, rw u at e)) (λ u. absurd (none-some j (rw u at e)))

module _ (t : List ℕ) (s w r : ℕ) where
  rowed_steps : (squares : List ℕ) {j : ℕ} → Rowed t s w r squares j → row_steps t s w r ≡ Some j
  unfolding row_head
  rowed_steps squares {j} p =
      let head = head-passes t s r squares p.line in
      let a : ℕ = s + length row_word in
      let rest = passes-second t s row_word (field r ++ (tab ∷ [])) head in
      let b : ℕ = a + length (field r) in
      let parted = passes-second t a (field r) (tab ∷ []) rest in
      let c : ℕ = s + length (row_head r) in
      let body = body-there t s r squares p.line in
      rw (
        passes_word t s row_word (passes-first t s row_word (field r ++ (tab ∷ [])) head),
        passes-field t a r r (le_refl r) (passes-first t a (field r) (tab ∷ []) rest) (ends t b tab [] refl parted),
        eq-eqb r r refl,
        passes_word t b (tab ∷ []) parted,
        passes-body t c w squares p.wide body,
      )
      (passes_word t (c + length (map glyph squares)) (feed ∷ []) (feed-there t s r squares p.line))

  steps_rowed : {j : ℕ} → row_steps t s w r ≡ Some j → (squares : List ℕ) × Rowed t s w r squares j
  unfolding row_line row_head
  steps_rowed {j} e =
      let a = went (number_step t w r) (word_at t s row_word) e in
      let b = went (λ (p : ℕ × ℕ). match_step t w r p.0 p.1) (field_at t a.0 r) a.2 in
      let second : ℕ = b.0.1 in
      let m = matched t w r b.0.0 second b.2 in
      let c = went (body_step t w) (word_at t second (tab ∷ [])) m.1 in
      let d = went (feed_step t) (body_at t c.0 w) c.2 in
      let x = body-passes t c.0 w d.1 in
      let number : Passes t a.0 (field r) second = rw m.0 at (field-passes t a.0 r b.0.0 b.1).1 in
      let cs : List ℕ = take w (drop c.0 t) in
      let squares : List ℕ = map square cs in (
        squares,
        record {
          wide = x.0;
          bytes = are_squares cs;
          line =
              passes-both t s (row_word ++ (field r ++ (tab ∷ []))) (map glyph squares ++ (feed ∷ []))
              (passes-both t s row_word (field r ++ (tab ∷ [])) (word_passes t s row_word a.1)
              (passes-both t a.0 (field r) (tab ∷ []) number (word_passes t second (tab ∷ []) c.1)))
              (passes-both t c.0 (map glyph squares) (feed ∷ []) x.1 (word_passes t d.0 (feed ∷ []) d.2));
        },
      )

  -- so both are the same
  pub row-steps : row_at t s w r ≡ row_steps t s w r
  row-steps = go (row_at t s w r) (row_steps t s w r) refl refl
    where
      go : (x y : Option ℕ) → row_at t s w r ≡ x → row_steps t s w r ≡ y → row_at t s w r ≡ row_steps t s w r
      go (Some j) y a b = a ∙ sym (rowed_steps (squares_at t (s + length (row_head r)) w) (whole_rowed t s w r a))
      go None (Some j) a b = let u = steps_rowed b in rowed_whole t s w r u.0 u.1 ∙ sym b
      go None None a b = a ∙ sym b

-- The line of row r is as ruled exactly where the text goes on with it for some squares, as many as the width.
pub row-ruled : (t : List ℕ) (s w r j : ℕ) → (row_at t s w r ≡ Some j) ↔ ((squares : List ℕ) × Rowed t s w r squares j)
row-ruled t s w r j = (λ e. (squares_at t (s + length (row_head r)) w, whole_rowed t s w r e), λ p. rowed_whole t s w r p.0 p.1)
