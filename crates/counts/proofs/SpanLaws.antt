-- Lists in a room: none, one more in front, one more behind, and what a moved record leaves. One step of a pass that strikes a column.
-- By the list of numbers that are left, whose head is the next; what goes over a bag uses it.
use mathlib.Core.Path.{◌≡◌, refl, sym, ap, ap₂, ◌∙◌}
use mathlib.Core.Bool.{true, false}
use mathlib.Core.List.{List, [], ◌∷◌, ◌++◌, map, append_assoc, append-nil}
use Prim.Native.Nat.{ℕ, suc, ◌+◌, ◌-◌, ◌*◌, ◌≤◌, ◌<◌}
use native.Mathlib.Omega.{arith}
use Rattle.std.proofs.lemmas.Grind.{common_steps}
use lib.ListN.{length, set, length-set}
use Rattle.lists.specs.Lists.{keep, from, up_to}
use Rattle.lists.proofs.Maps.{map_same}
use Rattle.lists.proofs.Ranges.{from_in, from-append, map-append}
use Rattle.method.specs.Intervals.{Interval as Span, span, holds}
use Rattle.method.specs.Strike.{strike}
use Rattle.grid.specs.Limits.{bracket_record}
use Rattle.grid.specs.Rooms.{written}
use Rattle.grid.proofs.Writing.{written_next, written-set}
use Rattle.intervals.specs.Finished.{bracket_bytes}
use Rattle.counts.specs.Spans.{span_in, spans_in, Moved}

module _ (room : List ℕ) where
  pub spans_none : (k n : ℕ) → n ≤ k → spans_in room k n ≡ []
  unfolding spans_in
  spans_none k n h = let e : n - k ≡ 0 = omega arith in rw e

  pub spans_next : (k n : ℕ) → k < n → spans_in room k n ≡ span_in room k ∷ spans_in room (k + 1) n
  unfolding spans_in
  spans_next k n h =
      let e : n - k ≡ suc (n - (k + 1)) = omega arith in
      let f : suc k ≡ k + 1 = omega arith in
      rw e (ap (λ z. span_in room k ∷ map (span_in room) (from z (n - (k + 1)))) f)

  pub spans_last : (n : ℕ) → spans_in room 0 (n + 1) ≡ spans_in room 0 n ++ (span_in room n ∷ [])
  unfolding spans_in
  spans_last n =
      let e : (n + 1) - 0 ≡ n + 1 = omega arith in
      let f : n - 0 ≡ n = omega arith in
      let g : 0 + n ≡ n = omega arith in
      rw (e, f) (ap (map (span_in room)) (from-append 0 n 1) ∙ map-append (span_in room) (up_to n) (from (0 + n) 1) ∙ ap (λ z. map (span_in room) (up_to n) ++ (span_in room z ∷ [])) g)

  pub spans_split : (k n : ℕ) → k ≤ n → spans_in room 0 n ≡ spans_in room 0 k ++ spans_in room k n
  unfolding spans_in
  spans_split k n h =
      let e : n - 0 ≡ (k - 0) + (n - k) = omega arith in
      let f : 0 + (k - 0) ≡ k = omega arith in
      ap (λ m. map (span_in room) (from 0 m)) e
      ∙ ap (map (span_in room)) (from-append 0 (k - 0) (n - k))
      ∙ map-append (span_in room) (from 0 (k - 0)) (from (0 + (k - 0)) (n - k))
      ∙ ap (λ m. map (span_in room) (from 0 (k - 0)) ++ map (span_in room) (from m (n - k))) f

-- the records from k to n are the same in another room
pub spans_same : (room room' : List ℕ) (k n : ℕ) → ((x : ℕ) → k ≤ x → x < n → span_in room' x ≡ span_in room x) → spans_in room' k n ≡ spans_in room k n
unfolding spans_in
spans_same room room' k n h = map_same (span_in room') (span_in room) (from k (n - k)) (λ x m. let b = from_in k (n - k) m in h x b.0 (omega arith))

-- record k, which is kept as the j-th
module _ {room room' : List ℕ} {k j : ℕ} (M : Moved room k j room') (early : j ≤ k) where
  pub moved-kept : spans_in room' 0 (j + 1) ≡ spans_in room 0 j ++ (span_in room k ∷ [])
  moved-kept =
      spans_last room' j
      ∙ ap₂ (λ (is : List Span) (i : Span). is ++ (i ∷ []))
      (spans_same room room' 0 j (λ x l u. M.elsewhere x (λ e. omega arith)))
      M.there

  pub moved-left : (n : ℕ) → spans_in room' (k + 1) n ≡ spans_in room (k + 1) n
  moved-left n = spans_same room room' (k + 1) n (λ x l u. M.elsewhere x (λ e. omega arith))

-- a pass over a list: the next interval holds the column, or does not
module _ (c : ℕ) (i : Span) (is : List Span) where
  pub strike-hit : holds c i ≡ true → strike c (i ∷ is) ≡ strike c is
  unfolding strike
  strike-hit t = rw t

  pub strike_miss : holds c i ≡ false → strike c (i ∷ is) ≡ i ∷ strike c is
  unfolding strike
  strike_miss t = rw t

  pub keep-hit : holds c i ≡ true → keep (holds c) (i ∷ is) ≡ i ∷ keep (holds c) is
  keep-hit t = rw t

  pub keep_miss : holds c i ≡ false → keep (holds c) (i ∷ is) ≡ keep (holds c) is
  keep_miss t = rw t

pub strike-none : (c : ℕ) → strike c [] ≡ []
unfolding strike
strike-none c = refl

-- what is kept, with the next one behind it
pub behind : (xs : List Span) (i : Span) (ys : List Span) → xs ++ (i ∷ ys) ≡ (xs ++ (i ∷ [])) ++ ys
behind xs i ys = sym (append_assoc xs (i ∷ []) ys)

-- a pass that strikes column c from n intervals, when it has read k of them and kept j
pub record Passed (c n : ℕ) (room : List ℕ) (k j : ℕ) (room' : List ℕ) : Type 0 where
  pub ordered : j ≤ k
  pub as_long : length room' ≡ length room
  pub kept : strike c (spans_in room 0 n) ≡ spans_in room' 0 j ++ strike c (spans_in room' k n)

pub pass_start : (c n : ℕ) (room : List ℕ) → Passed c n room 0 0 room
pass_start c n room =
    record {
      ordered = omega arith;
      as_long = refl;
      kept = ap (λ (z : List Span). z ++ strike c (spans_in room 0 n)) (sym (spans_none room 0 0 (omega arith)));
    }

module _ {c n k j : ℕ} {room room₁ : List ℕ} (P : Passed c n room k j room₁) where
  module _ (i : Span) (left : k < n) (here : i ≡ span_in room₁ k) where
    next-is : spans_in room₁ k n ≡ i ∷ spans_in room₁ (k + 1) n
    next-is = spans_next room₁ k n left ∙ ap (λ z. z ∷ spans_in room₁ (k + 1) n) (sym here)

    pub pass_hit : holds c i ≡ true
        → Passed c n room (k + 1) j room₁ × (keep (holds c) (spans_in room₁ k n) ≡ i ∷ keep (holds c) (spans_in room₁ (k + 1) n))
    pass_hit t = (
      record {
        ordered = omega (arith, P.ordered);
        as_long = P.as_long;
        kept =
            P.kept
            ∙ ap (λ (z : List Span). spans_in room₁ 0 j ++ strike c z) next-is
            ∙ ap (λ (z : List Span). spans_in room₁ 0 j ++ z) (strike-hit c i (spans_in room₁ (k + 1) n) t);
      },
      ap (keep (holds c)) next-is ∙ keep-hit c i (spans_in room₁ (k + 1) n) t,
    )

    pub pass_miss : holds c i ≡ false → {room₂ : List ℕ} → Moved room₁ k j room₂
        → Passed c n room (k + 1) (j + 1) room₂ × (keep (holds c) (spans_in room₁ k n) ≡ keep (holds c) (spans_in room₂ (k + 1) n))
    pass_miss t {room₂} M =
        let early = P.ordered in
        let rest = moved-left M early n in (
          record {
            ordered = omega arith;
            as_long = M.as_long ∙ P.as_long;
            kept =
                P.kept
                ∙ ap (λ (z : List Span). spans_in room₁ 0 j ++ strike c z) next-is
                ∙ ap (λ (z : List Span). spans_in room₁ 0 j ++ z) (strike_miss c i (spans_in room₁ (k + 1) n) t)
                ∙ behind (spans_in room₁ 0 j) i (strike c (spans_in room₁ (k + 1) n))
                ∙ ap₂ (λ (x : Span) (y : List Span). (spans_in room₁ 0 j ++ (x ∷ [])) ++ strike c y) here (sym rest)
                ∙ ap (λ (z : List Span). z ++ strike c (spans_in room₂ (k + 1) n)) (sym (moved-kept M early));
          },
          ap (keep (holds c)) next-is ∙ keep_miss c i (spans_in room₁ (k + 1) n) t ∙ ap (keep (holds c)) (sym rest),
        )

  -- all are read
  pub pass_over : n ≤ k → (spans_in room₁ 0 j ≡ strike c (spans_in room 0 n)) × (keep (holds c) (spans_in room₁ k n) ≡ [])
  pass_over h = (
    sym
        (P.kept
        ∙ ap (λ (z : List Span). spans_in room₁ 0 j ++ strike c z) (spans_none room₁ k n h)
        ∙ ap (λ (z : List Span). spans_in room₁ 0 j ++ z) (strike-none c)
        ∙ append-nil (spans_in room₁ 0 j)),
    ap (keep (holds c)) (spans_none room₁ k n h),
  )

-- a record written anew, and the others
module _ (room : List ℕ) (c : ℕ) (i : Span) (fits : c * bracket_record + bracket_record ≤ length room) where
  two_bytes : written room (c * bracket_record) (bracket_bytes i) ≡ set (set room (c * bracket_record) i.left) (c * bracket_record + 1) i.right
  two_bytes =
      let long = length-set room (c * bracket_record) i.left in
      written_next room (c * bracket_record) i.left (i.right ∷ []) (omega arith)
      ∙ sym (written-set (set room (c * bracket_record) i.left) (c * bracket_record + 1) i.right (omega arith))

  pub written-here : span_in (written room (c * bracket_record) (bracket_bytes i)) c ≡ i
  written-here =
      let long = length-set room (c * bracket_record) i.left in
      rw two_bytes (ap₂ span (grind (arith, common_steps)) (grind (arith, common_steps)))

  pub written_elsewhere : (x : ℕ) → (x ≡ c → ⊥) → span_in (written room (c * bracket_record) (bracket_bytes i)) x ≡ span_in room x
  written_elsewhere x d = rw two_bytes (ap₂ span (grind (arith, common_steps)) (grind (arith, common_steps)))
