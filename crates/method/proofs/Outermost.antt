-- The outermost intervals inside a bracket of a listed set are the (p, e (p + 1)) at the jumps of its staircase, in order; neighbours meet in (p, e p).
-- A longer one in an earlier row would show in the staircase, and what attains the staircase contains what ends below it. RuleFour rests on this.
use mathlib.Core.Path.{◌≡◌, ap, ◌∙◌, fun_ext}
use mathlib.Core.Logic.{by_cases}
use mathlib.Core.Bool.{Bool, true, not, ◌&&◌}
use mathlib.Core.List.{List}
use Prim.Native.Nat.{ℕ, suc, ◌≤◌, ◌<◌}
use native.Mathlib.Omega.{arith}
use native.Mathlib.Decide.{dec_lt}
use lib.Dec.{eqb}
use borrow.Author.Tests.{ltb-true, eqb-true, lt-ltb, eq-eqb, not-true}
use Rattle.lists.specs.Lists.{keep, any, gather, up_to}
use Rattle.lists.proofs.Truth.{never, fails, agree, and_left, and_right, and_both}
use Rattle.lists.proofs.Members.{any_of, any_found}
use Rattle.lists.proofs.Keep.{keep-keep, kept, keeps}
use Rattle.method.specs.Intervals.{Interval, span, inside, same, select, member}
use Rattle.method.specs.Reduce.{outermost, meets}
use Rattle.method.specs.Runs.{Listed}
use Rattle.method.proofs.Sets.{Set, has, e}
use Rattle.method.proofs.Staircase.{top_le, top-greatest, e-low, e-step, e_mono, e-within, e-jump, e_attained}
use Rattle.method.proofs.Lines.{inside-lines, lines-inside, same_path, path_same, interval_path, interval_discrete}
use Rattle.method.proofs.Listed.{member_in, in_member, listed-lines, keep-select}
use Rattle.method.proofs.Jumps.{jump, drops, drop_at, add_at, meets_jumps, select_jumps}

-- the staircase is not below a member of its rows
pub e-member : (S : Set) (a b l r p : ℕ) → S l r ≡ true → a ≤ l → l < p → r ≤ b → r ≤ e S a b p
e-member S a b l r p m u v w = omega (arith, e-step S a b l u, top-greatest (S l) b r m w, e_mono S a b (suc l) p v)

module _ (n : ℕ) (s : List Interval) (listed : Listed n s) (a b : ℕ) where
  -- the bracket's staircase
  abbrev E : ℕ → ℕ
  E = e (has s) a b

  -- a jump lies inside the bracket, and is a member
  pub jump-here : (p : ℕ) → E p < E (suc p)
      → (a ≤ p) × (p < E (suc p)) × (E (suc p) ≤ b) × (E (suc p) ≤ n) × (has s p (E (suc p)) ≡ true)
  jump-here p h =
      let j = e-jump (has s) a b p h in
      let m = listed-lines n s listed (span p (E (suc p))) j.1 in
      (j.0, m.0, omega (arith, e-step (has s) a b p j.0, top_le (has s p) b), m.1, j.1)

  -- j properly contains i; nothing inside the bracket does so
  abbrev contains : Interval → Interval → Bool
  contains i j = inside j i && not (same j i)

  abbrev outer : Interval → Bool
  outer i = not (any (contains i) (keep (inside (span a b)) s))

  -- an outermost interval is a jump
  outer-jump : (i : Interval) → member i s ≡ true → inside (span a b) i ≡ true → outer i ≡ true
      → (E i.left < E (suc i.left)) × (i.right ≡ E (suc i.left))
  outer-jump i m h o =
      let range = listed-lines n s listed i m in
      let d = inside-lines (span a b) i h in
      let up = e-member (has s) a b i.left i.right (suc i.left) m d.0 (omega arith) d.1 in
      let mono = e_mono (has s) a b i.left (suc i.left) (omega arith) in
      let f = e_attained (has s) a b (suc i.left) (omega arith) in
      let z = alone (span f.0 (E (suc i.left))) f.3 f.1 (e-within (has s) a b (omega arith) (suc i.left)) (omega arith) up in (
        by_cases (dec_lt (E i.left) (E (suc i.left))) (λ k. k)
            (λ k. let g = e_attained (has s) a b i.left (omega arith) in
            let y = alone (span g.0 (E i.left)) g.3 g.1 (e-within (has s) a b (omega arith) i.left) (omega arith) (omega arith) in
            absurd (omega (arith, ap (λ j. j.left) y))),
        omega (arith, ap (λ j. j.right) z),
      )
    where
      alone : (j : Interval) → member j s ≡ true → a ≤ j.left → j.right ≤ b → j.left ≤ i.left → i.right ≤ j.right → j ≡ i
      alone j k u v x y =
          by_cases (interval_discrete j i) (λ q. q)
          (λ q. absurd (never
          (any_of (contains i) (keeps (inside (span a b)) (member_in j s k) (lines-inside (span a b) j u v))
          (and_both (inside j i) (not (same j i)) (lines-inside j i x y) (ap not (fails (same j i) (λ z. q (same_path j i z))))))
          (not-true (any (contains i) (keep (inside (span a b)) s)) o)))

  -- and a jump is an outermost interval
  jump-outer : (i : Interval) → E i.left < E (suc i.left) → i.right ≡ E (suc i.left) → outer i ≡ true
  jump-outer i h q = ap not (fails (any (contains i) (keep (inside (span a b)) s)) refuse)
    where
      refuse : any (contains i) (keep (inside (span a b)) s) ≡ true → ⊥
      refuse t =
          let f = any_found (contains i) (keep (inside (span a b)) s) t in
          let k = f.0 in
          let g = kept (inside (span a b)) s f.1 in
          let d = inside-lines (span a b) k g.1 in
          let m = in_member g.0 in
          let v = inside-lines k i (and_left (inside k i) (not (same k i)) f.2) in
          let x = e-member (has s) a b k.left k.right (suc i.left) m d.0 (omega arith) d.1 in
          let y : k.left ≡ i.left =
          by_cases (dec_lt k.left i.left)
          (λ z. absurd (omega (arith, e-member (has s) a b k.left k.right i.left m d.0 z d.1)))
          (λ z. omega arith) in
          never (path_same k i (interval_path k i y (omega arith))) (not-true (same k i) (and_right (inside k i) (not (same k i)) f.2))

  -- the tests for the two agree, so the two lists do
  outer-test : (i : Interval)
      → (member i s && (inside (span a b) i && outer i)) ≡ drops E i
  outer-test i =
      agree (member i s && (inside (span a b) i && outer i)) (drops E i)
      (λ t.
      let u = and_right (member i s) (inside (span a b) i && outer i) t in
      let j =
      outer-jump i (and_left (member i s) (inside (span a b) i && outer i) t)
      (and_left (inside (span a b) i) (outer i) u) (and_right (inside (span a b) i) (outer i) u) in
      and_both (jump E i.left) (eqb i.right (E (suc i.left)))
      (lt-ltb (E i.left) (E (suc i.left)) j.0) (eq-eqb i.right (E (suc i.left)) j.1))
      (λ t.
      let h = ltb-true (E i.left) (E (suc i.left)) (and_left (jump E i.left) (eqb i.right (E (suc i.left))) t) in
      let q = eqb-true i.right (E (suc i.left)) (and_right (jump E i.left) (eqb i.right (E (suc i.left))) t) in
      let j = jump-here i.left h in
      and_both (member i s) (inside (span a b) i && outer i) (ap (has s i.left) q ∙ j.4)
      (and_both (inside (span a b) i) (outer i) (lines-inside (span a b) i j.0 (omega arith)) (jump-outer i h q)))

  pub outermost-select : outermost s (span a b) ≡ select n (drops E)
  unfolding outermost
  outermost-select =
      keep-keep (inside (span a b)) outer s ∙ keep-select n s listed (λ i. inside (span a b) i && outer i) ∙ ap (select n) (fun_ext outer-test)

  -- the outermost intervals inside the bracket, in order
  pub outermost_jumps : outermost s (span a b) ≡ gather (drop_at E) (up_to n)
  outermost_jumps = outermost-select ∙ select_jumps E n (λ p h. let j = jump-here p h in (j.1, j.3))

  -- and the meets of neighbours
  pub meets-outermost : meets (outermost s (span a b)) ≡ gather (add_at E) (up_to n)
  meets-outermost =
      ap meets outermost_jumps
      ∙ meets_jumps E (λ p. e_mono (has s) a b p (suc p) (omega arith)) a (λ p h. (jump-here p h).0) n 0 (e-low (has s) a b 0 (omega arith))
