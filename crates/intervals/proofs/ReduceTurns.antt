-- A reduction's pass over the rows of a bracket, turn by turn: the rows before line l are as rule 4 leaves them, and the interval that is carried reaches
-- as far as the staircase. A row without a jump stays; at a jump its greatest interval gives way to the meet. `reduce` goes by it.
use mathlib.Core.Path.{◌≡◌, sym, ap, ap₂, ◌∙◌, subst⁻¹}
use mathlib.Core.Bool.{true, false}
use mathlib.Core.List.{List}
use Prim.Native.Nat.{ℕ, suc, ◌+◌, ◌≤◌, ◌<◌}
use native.Mathlib.Omega.{arith}
use native.Mathlib.Numerals.{add-one}
use Rattle.method.specs.Intervals.{Interval as Span, span, meet}
use Rattle.method.specs.Reduce.{reduce}
use Rattle.method.proofs.Sets.{has, e}
use Rattle.method.proofs.Staircase.{e-low, e_mono}
use Rattle.method.proofs.Lines.{interval_path}
use Rattle.intervals.specs.Table.{set_of, table_of, Tabled, changed, with, without}
use Rattle.intervals.specs.Reach.{reach}
use Rattle.intervals.proofs.TableLaws.{set-listed, left_as, changed-listed}
use Rattle.intervals.proofs.ReduceRows.{Half, half-start, half-reach, half-level, half-jump, half-end}

-- the table t before row l of the reduction of (a, b) in the table u, with the interval o carried
pub record Turn (n a b : ℕ) (u : List ℕ) (l : ℕ) (t : List ℕ) (o : Span) : Type 0 where
  pub low : a ≤ l
  pub table : Tabled n t
  pub reached : o.right ≡ e (has (set_of n u)) a b l
  pub begun : o.left ≤ l
  pub half : Half n a b (set_of n u) l (set_of n t)

pub start : (n a b : ℕ) (u : List ℕ) → Tabled n u → Turn n a b u a u (span a a)
start n a b u T =
    record {
      low = omega arith;
      table = T;
      reached = sym (e-low (has (set_of n u)) a b a (omega arith));
      begun = omega arith;
      half = half-start n (set-listed n u) a b;
    }

module _ {n a b : ℕ} {u : List ℕ} {l : ℕ} {t : List ℕ} {o : Span} (T : Turn n a b u l t o) (q : ℕ) (e-q : q ≡ reach (set_of n t) l o.right b) where
  -- the row reaches as far as the staircase's next step
  next-reach : q ≡ e (has (set_of n u)) a b (suc l)
  next-reach = e-q ∙ ap (λ z. reach (set_of n t) l z b) T.reached ∙ half-reach n (set-listed n u) a b T.half T.low

  more : e (has (set_of n u)) a b (suc l) ≡ e (has (set_of n u)) a b (l + 1)
  more = ap (e (has (set_of n u)) a b) (sym (add-one l))

  pub level : q ≤ o.right → Turn n a b u (l + 1) t o
  level h =
      let r = next-reach in
      let s = T.reached in
      record {
        low = omega (arith, T.low);
        table = T.table;
        reached = omega (arith, more, e_mono (has (set_of n u)) a b l (suc l) (omega arith));
        begun = omega (arith, T.begun);
        half = half-level n (set-listed n u) a b T.half (omega arith);
      }

  pub jump : l < b → o.right < q → (t1 t2 : List ℕ) → t1 ≡ table_of (without n (span l q) (set_of n t))
      → t2 ≡ table_of (with n (meet o (span l q)) (set_of n t1)) → Turn n a b u (l + 1) t2 (span l q)
  jump below h t1 t2 e1 e2 =
      let fits = T.table.fits in
      let r = next-reach in
      let s = T.reached in
      let one = left_as n (without n (span l q) (set_of n t)) fits (changed-listed n (span l q) false (set_of n t)) e1 in
      let two = left_as n (with n (meet o (span l q)) (set_of n t1)) fits (changed-listed n (meet o (span l q)) true (set_of n t1)) e2 in
      let m : meet o (span l q) ≡ span l (e (has (set_of n u)) a b l) = interval_path (meet o (span l q)) (span l (e (has (set_of n u)) a b l)) (omega (arith, T.begun)) (omega arith) in
      record {
        low = omega (arith, T.low);
        table = two.0;
        reached = r ∙ more;
        begun = omega arith;
        half =
            subst⁻¹ (Half n a b (set_of n u) (l + 1)) (two.1 ∙ ap₂ (λ i s. changed n i true s) m (one.1 ∙ ap (λ z. without n (span l z) (set_of n t)) r))
            (half-jump n (set-listed n u) a b T.half (record { from = T.low; upto = below; rise = omega arith }));
      }

pub finish : {n a b : ℕ} {u : List ℕ} {l : ℕ} {t : List ℕ} {o : Span} → Turn n a b u l t o → b ≤ l → t ≡ table_of (reduce n (set_of n u) (span a b))
finish {n} {a} {b} {u} T h = T.table.whole ∙ ap table_of (half-end n (set-listed n u) a b T.half h)
