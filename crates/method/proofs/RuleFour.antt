-- Rule 4 as written is rule 4 row by row, for every bracket of a listed set, proper or not.
-- Everything that the theory proves of `red` thereby holds of `reduce`.
use mathlib.Core.Path.{◌≡◌, refl, sym, ap, ◌∙◌, fun_ext}
use mathlib.Core.Bool.{Bool, true, not, ◌&&◌, ◌||◌, and-true, and-false, or-true, or-false}
use mathlib.Core.List.{List}
use Prim.Native.Nat.{ℕ, suc, ◌≤◌, ◌<◌}
use native.Mathlib.Omega.{arith}
use lib.Dec.{leb, eqb}
use borrow.Author.Tests.{ltb-true, eqb-true, lt-ltb, eq-eqb}
use Rattle.lists.proofs.Truth.{bcase, never, fails, agree, and_left, and_right, and_both}
use Rattle.lists.proofs.Keep.{keeps}
use Rattle.method.specs.Intervals.{Interval, span, proper, select, member}
use Rattle.method.specs.Reduce.{outermost, meets, reduce}
use Rattle.method.specs.Runs.{Listed}
use Rattle.method.proofs.Sets.{has, e, red}
use Rattle.method.proofs.Star.{Place, drop, add, keep, place}
use Rattle.method.proofs.Listed.{in_member, lines-every, member-select, listed-lines}
use Rattle.method.proofs.Jumps.{jump, drops, added-jump, jump-added}
use Rattle.method.proofs.Outermost.{jump-here, outermost-select, meets-outermost}

-- what a selection holds passes the test, and what passes the test and lies within the lines is held
pub selected : (n : ℕ) (p : Interval → Bool) (i : Interval) → member i (select n p) ≡ true → p i ≡ true
selected n p i m = and_right (proper i && leb i.right n) (p i) (sym (member-select n p i) ∙ m)

pub selects : (n : ℕ) (p : Interval → Bool) (i : Interval) → i.left < i.right → i.right ≤ n → p i ≡ true → member i (select n p) ≡ true
selects n p i l r t = in_member (keeps p (lines-every n i l r) t)

module _ (n : ℕ) (s : List Interval) (listed : Listed n s) (a b : ℕ) where
  -- the bracket's staircase
  abbrev E : ℕ → ℕ
  E = e (has s) a b

  -- at a jump, and there only, an interval is dropped and a meet added
  dropped_jump : (l r : ℕ) → member (span l r) (outermost s (span a b)) ≡ true → (E l < E (suc l)) × (r ≡ E (suc l))
  dropped_jump l r m =
      let t = selected n (drops E) (span l r) (sym (ap (member (span l r)) (outermost-select n s listed a b)) ∙ m) in (
        ltb-true (E l) (E (suc l)) (and_left (jump E l) (eqb r (E (suc l))) t),
        eqb-true r (E (suc l)) (and_right (jump E l) (eqb r (E (suc l))) t),
      )

  jump_dropped : (l r : ℕ) → E l < E (suc l) → r ≡ E (suc l) → member (span l r) (outermost s (span a b)) ≡ true
  jump_dropped l r h q =
      let j = jump-here n s listed a b l h in
      ap (member (span l r)) (outermost-select n s listed a b)
      ∙ selects n (drops E) (span l r) (omega arith) (omega arith)
      (and_both (jump E l) (eqb r (E (suc l))) (lt-ltb (E l) (E (suc l)) h) (eq-eqb r (E (suc l)) q))

  added-meet : (l r : ℕ) → member (span l r) (meets (outermost s (span a b))) ≡ true → (E l < E (suc l)) × (r ≡ E l) × (l < r)
  added-meet l r m = added-jump E n l r (sym (ap (member (span l r)) (meets-outermost n s listed a b)) ∙ m)

  meet-added : (l r : ℕ) → E l < E (suc l) → r ≡ E l → l < r → member (span l r) (meets (outermost s (span a b))) ≡ true
  meet-added l r h q u =
      let j = jump-here n s listed a b l h in
      ap (λ z. member (span l z) (meets (outermost s (span a b)))) q
      ∙ ap (member (span l (E l))) (meets-outermost n s listed a b)
      ∙ jump-added E n l h (omega arith) (omega arith)

  -- the test of the definition, which holds within the lines only
  abbrev stays : Interval → Bool
  stays i = member i s && not (member i (outermost s (span a b))) || member i (meets (outermost s (span a b)))

  stays_lines : (l r : ℕ) → stays (span l r) ≡ true → (l < r) × (r ≤ n)
  stays_lines l r t =
      bcase (member (span l r) (meets (outermost s (span a b))))
      (λ m. let w = added-meet l r m in let j = jump-here n s listed a b l w.0 in omega arith)
      (λ m. bcase (has s l r) (listed-lines n s listed (span l r)) (λ h. absurd (never (rw (m, h) at t) refl)))

  reduce-test : (l r : ℕ) → member (span l r) (reduce n s (span a b)) ≡ stays (span l r)
  unfolding reduce
  reduce-test l r =
      agree (member (span l r) (reduce n s (span a b))) (stays (span l r)) (selected n stays (span l r))
      (λ t. let w = stays_lines l r t in selects n stays (span l r) w.0 w.1 t)

  pub rule_four : (l r : ℕ) → has (reduce n s (span a b)) l r ≡ red (has s) a b l r
  rule_four l r = reduce-test l r ∙ go (place (has s) a b l r)
    where
      go : Place (has s) a b l r (red (has s) a b l r) → stays (span l r) ≡ red (has s) a b l r
      go (drop j q z) =
          let y = fails (member (span l r) (meets (outermost s (span a b)))) (λ m. let w = added-meet l r m in omega arith) in
          rw (jump_dropped l r j.rise q, y, z) (simp and-false)
      go (add j q w z) = rw (meet-added l r j.rise q w, z) (or-true (has s l r && not (member (span l r) (outermost s (span a b)))))
      go (keep f z) =
          let x =
          fails (member (span l r) (outermost s (span a b)))
          (λ m.
          let w = dropped_jump l r m in
          let j = jump-here n s listed a b l w.0 in
          (f (record { from = j.0; upto = omega arith; rise = w.0 })).0 w.1) in
          let y =
          fails (member (span l r) (meets (outermost s (span a b))))
          (λ m.
          let w = added-meet l r m in
          let j = jump-here n s listed a b l w.0 in
          omega (arith, (f (record { from = j.0; upto = omega arith; rise = w.0 })).1 w.1)) in
          rw (x, y, z) (simp (and-true, or-false))

  -- the same for all places at once
  pub has-reduce : has (reduce n s (span a b)) ≡ red (has s) a b
  has-reduce = fun_ext (λ l. fun_ext (λ r. rule_four l r))
