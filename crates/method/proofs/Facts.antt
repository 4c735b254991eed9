-- What a reduction of a minimal bracket does to a listed set: all that the runs, the final set and the marks rest on.
-- Each is the theory's fact about `red`, carried over by rule 4 row by row and the counts of boxes.
use mathlib.Core.Path.{◌≡◌, refl, sym, ap, ◌∙◌, subst}
use mathlib.Core.Logic.{by_cases, ⊎_elim}
use mathlib.Core.Bool.{true, not, ◌&&◌, ◌||◌}
use mathlib.Core.List.Memᴰ
use mathlib.Core.List.{List, [], ◌∷◌}
use Prim.Native.Nat.{ℕ, suc, ◌+◌, ◌≤◌}
use native.Mathlib.Omega.{arith}
use native.Mathlib.Decide.{dec_le, dec_lt}
use lib.ListN.{length}
use Rattle.lists.specs.Lists.{count, keep}
use Rattle.lists.proofs.Truth.{bcase, never}
use Rattle.lists.proofs.Members.{In}
use Rattle.lists.proofs.Keep.{kept}
use Rattle.method.specs.Intervals.{Interval, span, proper, holds, inside, meet, member}
use Rattle.method.specs.Dependent.{dependent, minimal}
use Rattle.method.specs.Reduce.{outermost, meets, reduce}
use Rattle.method.specs.Runs.{Listed}
use Rattle.method.proofs.Sets.{has, bit, K, N, Dep, Prefix, Minimal, red}
use Rattle.method.proofs.Boxes.{K-find}
use Rattle.method.proofs.Size.{red_size, red-column, red-column-before, red-column-after}
use Rattle.method.proofs.Generate.{red_generates}
use Rattle.method.proofs.NoNew.{red_no_new}
use Rattle.method.proofs.Disturb.{minimal_prefix, red-keeps-minimal}
use Rattle.method.proofs.Commute.{red_commute}
use Rattle.method.proofs.Lines.{holds-lines, lines_hold, lines-inside, interval_path, inside_self}
use Rattle.method.proofs.Listed.{member_in, in_member, select-listed, listed_equal}
use Rattle.method.proofs.Minimal.{minimal-dependent, dependent-within}
use Rattle.method.proofs.Counts.{length-box, holds-box}
use Rattle.method.proofs.Dependence.{dependent_by_counts, dependent_by_test, minimal_by_counts, minimal_by_test}
use Rattle.method.proofs.Jumps.{meets-none, meets-one, meets-two}
use Rattle.method.proofs.RuleFour.{selected, rule_four, has-reduce}

-- a by_rows set is listed, whatever the bracket
pub reduce-listed : (n : ℕ) (s : List Interval) (d : Interval) → Listed n (reduce n s d)
unfolding reduce
reduce-listed n s d = select-listed n _

module _ (n : ℕ) (s : List Interval) (d : Interval) (listed : Listed n s) (least : minimal s d ≡ true) where
  by_rows : has (reduce n s d) ≡ red (has s) d.left d.right
  by_rows = has-reduce n s listed d.left d.right

  minimal-here : Minimal (has s) d.left d.right
  minimal-here = minimal_by_counts n s listed d least

  prefix_here : Prefix (has s) d.left d.right
  prefix_here = minimal_prefix minimal-here

  fits : d.right ≤ n
  fits = dependent-within n s d listed (minimal-dependent s d least)

  -- it takes exactly one from the size
  pub reduce_size : suc (length (reduce n s d)) ≡ length s
  reduce_size =
      omega (arith, length-box n s listed, length-box n (reduce n s d) (reduce-listed n s d), ap (λ S. K S 0 n 0 n) by_rows, red_size prefix_here n fits)

  -- it takes exactly one from the count of each column of the bracket, and none elsewhere
  pub reduce-count : (c : ℕ) → count (holds c) (reduce n s d) + bit (holds c d) ≡ count (holds c) s
  reduce-count c =
      let e = ap (λ S. N S c 0 n) by_rows in
      let x = holds-box n s listed c in
      let y = holds-box n (reduce n s d) (reduce-listed n s d) c in
      bcase (holds c d)
      (λ h. let t = holds-lines c d h in omega (arith, ap bit h, red-column prefix_here n fits c t.0 t.1))
      (λ h. by_cases (dec_lt c d.left) (λ u. omega (arith, ap bit h, red-column-before (has s) d.left d.right n c u))
      (λ u. by_cases (dec_le d.right c) (λ v. omega (arith, ap bit h, red-column-after (has s) d.left d.right n c v))
      (λ v. absurd (never (lines_hold c d (omega arith) (omega arith)) h))))

  -- each interval of s is made up, column by column, of intervals of the by_rows set that lie inside it
  pub reduce_generates : (i : Interval) (c : ℕ) → member i s ≡ true → holds c i ≡ true
      → (j : Interval) × (member j (reduce n s d) ≡ true) × (holds c j ≡ true) × (inside i j ≡ true)
  reduce_generates i c m h =
      let t = holds-lines c i h in
      let g = red_generates prefix_here i.left i.right c m t.0 t.1 in
      let f = K-find (red (has s) d.left d.right) i.left (suc c) c i.right g in
      let j = span f.0 f.1 in
      (j, rule_four n s listed d.left d.right f.0 f.1 ∙ f.2, lines_hold c j (omega arith) (omega arith), lines-inside i j (omega arith) (omega arith))

  -- no new dependence (000, lemma 4.1)
  pub reduce_no_new : (e : Interval) → dependent (reduce n s d) e ≡ true → dependent s e ≡ true
  reduce_no_new e h =
      dependent_by_test n s listed e
      (red_no_new prefix_here e.left e.right
      (subst (λ S. Dep S e.left e.right) by_rows (dependent_by_counts n (reduce n s d) (reduce-listed n s d) e h)))

  -- a different minimal bracket stays minimal (000, lemma 4.2)
  pub reduce-keeps : (e : Interval) → minimal s e ≡ true → (d ≡ e → ⊥) → minimal (reduce n s d) e ≡ true
  reduce-keeps e m h =
      minimal_by_test n (reduce n s d) (reduce-listed n s d) e
      (subst (λ S. Minimal S e.left e.right) (sym by_rows)
      (red-keeps-minimal minimal-here (minimal_by_counts n s listed e m) (λ q. h (interval_path d e q.0 q.1))))

  -- two minimal brackets commute (000, lemma 4.3)
  pub reduce_commute : (e : Interval) → minimal s e ≡ true → (d ≡ e → ⊥) → reduce n (reduce n s d) e ≡ reduce n (reduce n s e) d
  reduce_commute e m h =
      listed_equal n (reduce n (reduce n s d) e) (reduce n (reduce n s e) d) (reduce-listed n (reduce n s d) e) (reduce-listed n (reduce n s e) d)
      (λ i.
      rule_four n (reduce n s d) (reduce-listed n s d) e.left e.right i.left i.right
      ∙ ap (λ S. red S e.left e.right i.left i.right) by_rows
      ∙ red_commute minimal-here (minimal_by_counts n s listed e m) (λ q. h (interval_path d e q.0 q.1)) i.left i.right
      ∙ sym (ap (λ S. red S d.left d.right i.left i.right) (has-reduce n s listed e.left e.right))
      ∙ sym (rule_four n (reduce n s e) (reduce-listed n s e) d.left d.right i.left i.right))

-- a meet of neighbours lies inside the first of them
meets-within : (s : List Interval) (i : Interval) → In i (meets s) → (j : Interval) × In j s × (inside j i ≡ true)
meets-within [] i m = absurd (Memᴰ.not-nil (rw meets-none at m))
meets-within (x ∷ []) i m = absurd (Memᴰ.not-nil (rw (meets-one x) at m))
meets-within (x ∷ y ∷ rest) i m =
    ⊎_elim
    (λ k.
    let q = Memᴰ.eq_of_singleton (kept proper (meet x y ∷ []) k).0 in
    (x, Memᴰ.head refl, lines-inside x i (omega (arith, ap (λ j. j.left) q)) (omega (arith, ap (λ j. j.right) q))))
    (λ k. let f = meets-within (y ∷ rest) i k in (f.0, Memᴰ.tail f.1, f.2))
    (Memᴰ.append_cases (keep proper (meet x y ∷ [])) (rw (meets-two x y rest) at m))

-- every interval of a by_rows set lies inside one of the set
pub reduce-within : (n : ℕ) (s : List Interval) (d : Interval) (i : Interval) → member i (reduce n s d) ≡ true
    → (j : Interval) × (member j s ≡ true) × (inside j i ≡ true)
unfolding reduce outermost
reduce-within n s d i h =
    let t = selected n (λ i. member i s && not (member i (outermost s d)) || member i (meets (outermost s d))) i h in
    bcase (member i (meets (outermost s d)))
    (λ m.
    let f = meets-within (outermost s d) i (member_in i (meets (outermost s d)) m) in
    (f.0, in_member (kept (inside d) s (kept _ (keep (inside d) s) f.1).0).0, f.2))
    (λ m. bcase (member i s) (λ k. (i, k, inside_self i)) (λ k. absurd (never (rw (m, k) at t) refl)))
