-- Line 1 is as ruled, with these numbers, exactly where the text goes on with the line of these numbers, each at most 9999.
-- It is a line of three numbers, and those are said of every such line. The proof of `read_shape` and the round trips use it.
use Rattle.std.proofs.Common.{None, Option, Some}
use Rattle.std.proofs.lemmas.Option.{none-some}
use Rattle.job.specs.declared.lines.Shape.{Shape}
use mathlib.Core.Path.{◌≡◌, refl, sym, ap, ◌∙◌}
use mathlib.Core.List.{List, [], ◌∷◌}
use mathlib.Core.Bool.{true}
use Prim.Native.Nat.{ℕ, ◌+◌, ◌≤◌}
use native.Mathlib.Omega.{arith}
use lib.ListN.{length, get_or, replicate}
use borrow.Author.Tests.{le-leb}
use Rattle.text.specs.Line.{within, line_numbers, line_at, numbers_left, ReadLine}
use Rattle.text.proofs.Lines.{Ruled, whole-ruled, ruled-whole, ruled-numbers, length-numbers}
use Rattle.job.specs.JobText.{number_limit, shape_word}
use Rattle.job.specs.Reading.{shape_from, shape_at}

-- line 1 with these numbers, and the spot past it
abbrev pub line1 : ℕ → ℕ → ℕ → ℕ → Option (Shape × ℕ)
line1 w h k next = Some (record { width = w; height = h; allowance = k }, next)

-- the text goes on with the line of these numbers
abbrev pub Shaped : List ℕ → ℕ → ℕ → ℕ → ℕ → ℕ → Type 0
Shaped t s w h k n = Ruled t s shape_word number_limit (w ∷ h ∷ k ∷ []) n

pub within-three : (w h k : ℕ) → w ≤ number_limit → h ≤ number_limit → k ≤ number_limit → within number_limit (w ∷ h ∷ k ∷ []) ≡ true
within-three w h k a b c = rw (le-leb w number_limit a, le-leb h number_limit b, le-leb k number_limit c)

three : (ns : List ℕ) → length ns ≡ 3 → ns ≡ get_or ns 0 0 ∷ get_or ns 1 0 ∷ get_or ns 2 0 ∷ []
three [] e = absurd (omega arith)
three (a ∷ []) e = absurd (omega arith)
three (a ∷ b ∷ []) e = absurd (omega arith)
three (a ∷ b ∷ c ∷ []) e = refl
three (a ∷ b ∷ c ∷ d ∷ ns) e = absurd (omega arith)

module _ (t : List ℕ) (s w h k n : ℕ) where
  pub whole_shaped : shape_at t s ≡ line1 w h k n → Shaped t s w h k n
  unfolding shape_at
  whole_shaped e = go (line_at t s shape_word number_limit 3) refl e
    where
      go : (x : Option ℕ) → line_at t s shape_word number_limit 3 ≡ x → shape_from x (line_numbers t s shape_word 3) ≡ line1 w h k n → Shaped t s w h k n
      go (Some next) a e =
          let ns : List ℕ = line_numbers t s shape_word 3 in
          let both : ◌≡◌ {A = Shape × ℕ} (record { width = get_or ns 0 0; height = get_or ns 1 0; allowance = get_or ns 2 0 }, next) (record { width = w; height = h; allowance = k }, n) = cc in
          let ew : get_or ns 0 0 ≡ w = ap (λ (p : Shape × ℕ). p.0.width) both in
          let eh : get_or ns 1 0 ≡ h = ap (λ (p : Shape × ℕ). p.0.height) both in
          let ek : get_or ns 2 0 ≡ k = ap (λ (p : Shape × ℕ). p.0.allowance) both in
          let en : next ≡ n = ap (λ (p : Shape × ℕ). p.1) both in
          let all : ns ≡ w ∷ h ∷ k ∷ [] = three ns (length-numbers t (s + length shape_word) 3) ∙ rw (ew, eh, ek) in
          rw (all, en) at (whole-ruled t s shape_word number_limit 3 a)
      go None a e = absurd (none-some (record { width = w; height = h; allowance = k }, n) e)

  pub shaped_whole : Shaped t s w h k n → shape_at t s ≡ line1 w h k n
  unfolding shape_at
  shaped_whole r = rw (ruled-whole t s shape_word number_limit (w ∷ h ∷ k ∷ []) r, ruled-numbers t s shape_word number_limit (w ∷ h ∷ k ∷ []) r)

-- what `read_line` leaves of three numbers says line 1
module _ {t : List ℕ} {s : ℕ} {x : Option ℕ} {after : List ℕ} (r : ReadLine t s shape_word number_limit (replicate 3 0) x after) where
  shape_left : shape_from x after ≡ shape_at t s
  unfolding shape_at
  shape_left =
      ap (shape_from x) r.left
      ∙ ap (λ (y : Option ℕ). shape_from y (numbers_left (line_at t s shape_word number_limit 3) (line_numbers t s shape_word 3))) r.past
      ∙ same (line_at t s shape_word number_limit 3) (line_numbers t s shape_word 3)
    where
      same : (y : Option ℕ) (ns : List ℕ) → shape_from y (numbers_left y ns) ≡ shape_from y ns
      same (Some n) ns = refl
      same None ns = refl

  pub shape_read : {n : ℕ} → x ≡ Some n → line1 (get_or after 0 0) (get_or after 1 0) (get_or after 2 0) n ≡ shape_at t s
  shape_read e = ap (λ (y : Option ℕ). shape_from y after) (sym e) ∙ shape_left

  pub shape_none : x ≡ None → None ≡ shape_at t s
  shape_none e = ap (λ (y : Option ℕ). shape_from y after) (sym e) ∙ shape_left
