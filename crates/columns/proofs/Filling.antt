-- A room filled from its front, one byte more at a time, or once more by another rule; and it is the only such room.
-- By cases on the byte's place. The loops over a row's columns use it.
use mathlib.Core.Path.{◌≡◌, sym, ap, ◌∙◌}
use mathlib.Core.Bool.{cond}
use mathlib.Core.List.{List}
use mathlib.Core.Logic.{by_cases}
use Prim.Native.Nat.{ℕ, ◌+◌, ◌≤◌, ◌<◌}
use native.Mathlib.Decide.{dec_lt, ℕ_discrete}
use native.Mathlib.Omega.{arith}
use lib.ListN.{length, get_or, set, length-set, replicate, get_or-replicate}
use lib.Seq.{get_or-set_same, get_or-set_other, ext_get_or}
use borrow.Author.Tests.{lt-ltb, le-ltb}
use Rattle.grid.specs.Squares.{Area}
use Rattle.columns.specs.Columns.{Bare, Filled, bottom_at, end_at, Reached}

module _ {w : ℕ} {rule : ℕ → ℕ} {before after : List ℕ} (F : Filled w rule before after) where
  pub filled_in : (c : ℕ) → c < w → get_or after c 0 ≡ rule c
  filled_in c l = F.each c ∙ ap (λ b. cond b (rule c) (get_or before c 0)) (lt-ltb c w l)

  pub filled_out : (c : ℕ) → w ≤ c → get_or after c 0 ≡ get_or before c 0
  filled_out c l = F.each c ∙ ap (λ b. cond b (rule c) (get_or before c 0)) (le-ltb c w l)

filled_by : (w : ℕ) (rule : ℕ → ℕ) (before after : List ℕ) → ((c : ℕ) → c < w → get_or after c 0 ≡ rule c) → ((c : ℕ) → w ≤ c → get_or after c 0 ≡ get_or before c 0)
    → length after ≡ length before → Filled w rule before after
filled_by w rule before after i o n = record {
  each = λ c. by_cases (dec_lt c w) (λ l. rw (lt-ltb c w l) (i c l)) (λ l. rw (le-ltb c w (omega arith)) (o c (omega arith)));
  as_long = n;
}

pub filled_none : (rule : ℕ → ℕ) (xs : List ℕ) (w : ℕ) → w ≡ 0 → Filled w rule xs xs
filled_none rule xs w e = filled_by w rule xs xs (λ c l. absurd (omega arith)) (λ c l. λ z. get_or xs c 0) (λ z. length xs)

-- one byte more
pub filled_next : (w : ℕ) (rule : ℕ → ℕ) (before after : List ℕ) (v : ℕ) → w < length after → v ≡ rule w → Filled w rule before after
    → Filled (w + 1) rule before (set after w v)
filled_next w rule before after v l e F =
    filled_by (w + 1) rule before (set after w v)
    (λ c u.
    by_cases (ℕ_discrete c w)
    (λ q. ap (λ z. get_or (set after w v) z 0) q ∙ get_or-set_same after w v 0 l ∙ e ∙ sym (ap rule q))
    (λ d. get_or-set_other after w c v 0 d ∙ filled_in F c (omega arith)))
    (λ c u. get_or-set_other after w c v 0 (λ q. omega arith) ∙ filled_out F c (omega arith))
    (length-set after w v ∙ F.as_long)

-- a later filling of the same bytes is the one that stands
pub filled-again : (w : ℕ) (rule later : ℕ → ℕ) {before middle after : List ℕ} → Filled w rule before middle → Filled w later middle after → Filled w later before after
filled-again w rule later {before} {middle} {after} F G =
    filled_by w later before after (filled_in G) (λ c l. filled_out G c l ∙ filled_out F c l) (G.as_long ∙ F.as_long)

-- rules that agree on the bytes
pub filled_as : (w : ℕ) (rule other : ℕ → ℕ) {before after : List ℕ} → ((c : ℕ) → c < w → rule c ≡ other c) → Filled w rule before after → Filled w other before after
filled_as w rule other {before} {after} h F = filled_by w other before after (λ c l. filled_in F c l ∙ h c l) (filled_out F) F.as_long

-- no two rooms are filled by the same rule
pub filled-one : (w : ℕ) (rule : ℕ → ℕ) {before x y : List ℕ} → Filled w rule before x → Filled w rule before y → x ≡ y
filled-one w rule {before} {x} {y} F G = ext_get_or 0 x y (F.as_long ∙ sym G.as_long) (λ i l. F.each i ∙ sym (G.each i))

-- a room of zeros is bare
pub zeros-bare : (n w : ℕ) → w ≤ n → Bare w (replicate n 0)
zeros-bare n w l c u = get_or-replicate {A = ℕ} n c 0 0 (omega arith)

-- bottoms and ends filled in are the columns'
pub filled-reached : (a : Area) (w h : ℕ) {before before' bottoms ends : List ℕ} → w ≤ length before → w ≤ length before'
    → Filled w (bottom_at a h) before bottoms → Filled w (end_at a h) before' ends → Reached a w h bottoms ends
filled-reached a w h l m F G = record {
  low = filled_in F;
  high = filled_in G;
  low-long = omega (arith, F.as_long);
  high-long = omega (arith, G.as_long);
}
