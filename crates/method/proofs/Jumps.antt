-- The list of a staircase's jumps, (p, e (p + 1)) for each line p with e p < e (p + 1), and the meets of its neighbours, (p, e p).
-- For any e that never falls: the next jump p begins right of the last one and reaches farther, so their meet is (p, e p). RuleFour puts a bracket's staircase in.
use mathlib.Core.Path.{◌≡◌, refl, ap, ◌∙◌, fun_ext}
use mathlib.Core.Bool.{Bool, true, false, cond, ◌&&◌}
use mathlib.Core.List.Memᴰ
use mathlib.Core.List.{List, [], ◌∷◌, ◌++◌, map}
use Prim.Native.Nat.{ℕ, zero, suc, ◌-◌, ◌≤◌, ◌<◌}
use native.Mathlib.Omega.{arith}
use lib.Dec.{ltb, eqb}
use borrow.Author.Tests.{ltb-true, ltb-false, le-ltb, lt-ltb}
use Rattle.lists.specs.Lists.{keep, gather, from, up_to}
use Rattle.lists.proofs.Truth.{bcase}
use Rattle.lists.proofs.Members.{In}
use Rattle.lists.proofs.Keep.{keep-none, kept, keeps}
use Rattle.lists.proofs.Ranges.{in_from, keep-map, keep-gather, in_gather, gather_in}
use Rattle.lists.proofs.Counting.{keep_one}
use Rattle.method.specs.Intervals.{Interval, span, proper, meet, beginning_at, select, member}
use Rattle.method.specs.Reduce.{meets}
use Rattle.method.proofs.Lines.{proper-lines, lines-proper, interval_path}
use Rattle.method.proofs.Listed.{member_in, in_member}

pub meets-none : meets [] ≡ []
unfolding meets
meets-none = refl

pub meets-one : (i : Interval) → meets (i ∷ []) ≡ []
unfolding meets
meets-one i = refl

pub meets-two : (i j : Interval) (rest : List Interval) → meets (i ∷ j ∷ rest) ≡ keep proper (meet i j ∷ []) ++ meets (j ∷ rest)
unfolding meets
meets-two i j rest = refl

module _ (e : ℕ → ℕ) where
  -- line p is a jump
  abbrev pub jump : ℕ → Bool
  jump p = ltb (e p) (e (suc p))

  -- i is what the jump at its left line drops
  abbrev pub drops : Interval → Bool
  drops i = jump i.left && eqb i.right (e (suc i.left))

  -- what a line drops, and what it adds
  abbrev pub drop_at : ℕ → List Interval
  drop_at p = cond (jump p) (span p (e (suc p)) ∷ []) []

  abbrev pub add_at : ℕ → List Interval
  add_at p = cond (jump p) (keep proper (span p (e p) ∷ [])) []

module _ (e : ℕ → ℕ) (mono : (p : ℕ) → e p ≤ e (suc p)) where
  -- behind an interval that reaches as far as the staircase
  meets-after : (n x p : ℕ) → x < p → meets (span x (e p) ∷ gather (drop_at e) (from p n)) ≡ gather (add_at e) (from p n)
  meets-after zero x p u = meets-one (span x (e p))
  meets-after (suc n) x p u =
      let rest = gather (drop_at e) (from (suc p) n) in
      bcase (jump e p)
      (λ j. let o = ltb-true (e p) (e (suc p)) j in
      rw j
      (meets-two (span x (e p)) (span p (e (suc p))) rest
      ∙ ap (λ i. keep proper (i ∷ []) ++ meets (span p (e (suc p)) ∷ rest))
      (interval_path (meet (span x (e p)) (span p (e (suc p)))) (span p (e p)) (omega arith) (omega arith))
      ∙ ap (λ z. keep proper (span p (e p) ∷ []) ++ z) (meets-after n p (suc p) (omega arith))))
      (λ j. let o : e p ≡ e (suc p) = omega (arith, ltb-false (e p) (e (suc p)) j, mono p) in
      rw j (ap (λ z. meets (span x z ∷ rest)) o ∙ meets-after n x (suc p) (omega arith)))

  -- from the foot of the staircase: the first jump has nothing to meet, and adds nothing
  pub meets_jumps : (a : ℕ) → ((p : ℕ) → e p < e (suc p) → a ≤ p) → (n p : ℕ) → e p ≡ a
      → meets (gather (drop_at e) (from p n)) ≡ gather (add_at e) (from p n)
  meets_jumps a low zero p foot = meets-none
  meets_jumps a low (suc n) p foot =
      bcase (jump e p)
      (λ j. let o = ltb-true (e p) (e (suc p)) j in
      rw (j, le-ltb p (e p) (omega (arith, low p o))) (meets-after n p (suc p) (omega arith)))
      (λ j. let o : e (suc p) ≡ a = omega (arith, ltb-false (e p) (e (suc p)) j, mono p) in rw j (meets_jumps a low n (suc p) o))

-- the jumps of a staircase over n lines, as a set selected by a test
pub select_jumps : (e : ℕ → ℕ) (n : ℕ) → ((p : ℕ) → e p < e (suc p) → (p < e (suc p)) × (e (suc p) ≤ n))
    → select n (drops e) ≡ gather (drop_at e) (up_to n)
select_jumps e n high = keep-gather (drops e) (beginning_at n) (up_to n) ∙ ap (λ f. gather f (up_to n)) (fun_ext each)
  where
    each : (l : ℕ) → keep (drops e) (beginning_at n l) ≡ drop_at e l
    each l =
        keep-map (λ r. span l r) (drops e) (from (suc l) (n - l))
        ∙ bcase (jump e l)
        (λ j. let h = high l (ltb-true (e l) (e (suc l)) j) in
        rw j (ap (map (λ r. span l r)) (keep_one (e (suc l)) (suc l) (n - l) (omega arith) (omega arith))))
        (λ j. rw j (ap (map (λ r. span l r)) (keep-none (λ r. false) (from (suc l) (n - l)) (λ r m. refl))))

-- what is added, one by one
pub added-jump : (e : ℕ → ℕ) (n l r : ℕ) → member (span l r) (gather (add_at e) (up_to n)) ≡ true → (e l < e (suc l)) × (r ≡ e l) × (l < r)
added-jump e n l r m =
    let f = gather_in (add_at e) (up_to n) (member_in (span l r) (gather (add_at e) (up_to n)) m) in
    at f.0 f.2
  where
    at : (p : ℕ) → In (span l r) (add_at e p) → (e l < e (suc l)) × (r ≡ e l) × (l < r)
    at p h =
        bcase (jump e p)
        (λ j.
        let k = kept proper (span p (e p) ∷ []) (rw j at h) in
        let q = Memᴰ.eq_of_singleton k.0 in
        let x = ap (λ i. i.left) q in
        let o = proper-lines (span l r) k.1 in
        omega (arith, ltb-true (e p) (e (suc p)) j, ap (λ i. i.right) q, ap e x, ap (λ k. e (suc k)) x))
        (λ j. absurd (Memᴰ.not-nil (rw j at h)))

pub jump-added : (e : ℕ → ℕ) (n l : ℕ) → e l < e (suc l) → l < e l → l < n → member (span l (e l)) (gather (add_at e) (up_to n)) ≡ true
jump-added e n l j o u =
    in_member
    (in_gather (add_at e) (in_from 0 n l (omega arith) (omega arith))
    (rw (lt-ltb (e l) (e (suc l)) j) (keeps proper (Memᴰ.head {xs = []} refl) (lines-proper (span l (e l)) o))))
