-- The search for a broken column as `find_map` over the columns runs it: where each column that it passed has no gap, and the one at which it stopped has one.
-- Each is an induction on the columns that the range gave. `broken` uses them.
use mathlib.Core.Path.{◌≡◌, refl, sym, subst, ap, ap₂, ◌∙◌}
use mathlib.Core.Bool.{true}
use mathlib.Core.List.{List, [], ◌∷◌}
use mathlib.Core.Option.{Option as Found, none, some}
use Prim.Native.Nat.{ℕ, zero, suc, ◌+◌, ◌-◌, ◌<◌}
use native.Mathlib.Omega.{arith}
use Rattle.std.specs.Prelude.{Option, Some, None, MatchOption, IsSomeAnd, IfSome}
use Rattle.std.specs.declared.ops.Range.{Range}
use Rattle.std.specs.Iterator.{Yields}
use Rattle.std.specs.Iterator.Runs.{Run, SomeRun, YieldsRun, CallKeepsClosure, AllItemsGive, IsFirstToGive}
use Rattle.std.specs.Fn.{Called}
use denote.Param.Members.{Mut}
use Rattle.std.specs.List.{slice_get}
use Rattle.lists.specs.Lists.{from}
use Rattle.grid.specs.Lines.{column, row}
use Rattle.grid.specs.Squares.{Area}
use Rattle.grid.specs.Raster.{gap, in_column, broken_from, broken_square}
use Rattle.grid.specs.Code.{place_of, level_of}
use Rattle.grid.specs.declared.lines.Column.{Column}
use Rattle.grid.specs.declared.lines.Row.{Row}
use Rattle.grid.proofs.Leftmost.{broken_start, broken_here, broken_on, broken_end}

-- one call of a range's `next`
abbrev pub steps : Range ℕ → Option ℕ → Range ℕ → Type 0
steps s r t = (t.end ≡ s.end) × MatchOption r ((s.end - s.start ≡ 0) × (t.start ≡ s.start)) (λ x. (0 < s.end - s.start) × (x ≡ s.start) × (t.start ≡ s.start + 1))

-- a column's lowest gap, mapped to its square
pub told : (o : Found ℕ) (c : ℕ) (out : Option (Column × Row)) → MatchOption (level_of o) (out ≡ None) (λ y. IsSomeAnd out (λ v. v ≡ (column c, y))) → out ≡ place_of (in_column c o none)
told none c out m = m
told (some r) c None m = absurd m
told (some r) c (Some v) m = ap Some m

module _ (a : Area) (h : ℕ) where
  -- what is asked of a column
  abbrev pub Tells : ℕ → Option (Column × Row) → Type 0
  Tells c out = out ≡ place_of (in_column c (gap a h c) none)

  here : (o : Found ℕ) (c : ℕ) (v : Column × Row) → Some v ≡ place_of (in_column c o none) → (r : ℕ) × (o ≡ some r) × (v ≡ (column c, row r))
  here none c v e = absurd (cc)
  here (some r) c v e = (r, refl, cc)

  bare : (o : Found ℕ) (c : ℕ) → None ≡ place_of (in_column c o none) → o ≡ none
  bare none c e = refl
  bare (some r) c e = absurd (cc)

  next : (s j : Range ℕ) → (j.end ≡ s.end) → (j.start ≡ s.start + 1) → broken_from a h (from (s.start + 1) (s.end - (s.start + 1))) ≡ broken_from a h (from j.start (j.end - j.start))
  next s j e f = ap₂ (λ (m n : ℕ). broken_from a h (from m (n - m))) (sym f) (sym e)

  over : (xs : List ℕ) (s t u : Range ℕ) → Yields steps s xs t → steps t None u → ((k : ℕ) → IfSome (slice_get xs k) (λ x. Tells x None))
      → broken_from a h (from s.start (s.end - s.start)) ≡ none
  over [] s t u y p all = broken_end a h s.end s.start (omega (arith, p.1.0, ap (λ (k : Range ℕ). k.start) y, ap (λ (k : Range ℕ). k.end) y))
  over (x ∷ xs) s t u y p all =
      broken_on a h s.end s.start (omega (arith, y.1.1.0)) (ap (gap a h) (sym y.1.1.1) ∙ bare (gap a h x) x (all 0))
      ∙ next s y.0 y.1.0 y.1.1.2
      ∙ over xs y.0 t u y.2 p (λ k. all (suc k))

  stopped : (xs : List ℕ) (s t : Range ℕ) (i : ℕ) (v : Column × Row) → Yields steps s xs t → IsSomeAnd (slice_get xs i) (λ x. Tells x (Some v))
      → ((k : ℕ) → k < i → IsSomeAnd (slice_get xs k) (λ x. Tells x None)) → Some v ≡ place_of (broken_from a h (from s.start (s.end - s.start)))
  stopped [] s t i v y hit below = absurd hit
  stopped (x ∷ xs) s t zero v y hit below =
      let r = here (gap a h x) x v hit in
      ap Some r.2
      ∙ ap (λ (c : ℕ). Some (column c, row r.0)) y.1.1.1
      ∙ sym (ap place_of (broken_here a h s.end s.start (omega (arith, y.1.1.0)) (ap (gap a h) (sym y.1.1.1) ∙ r.1)))
  stopped (x ∷ xs) s t (suc i) v y hit below =
      stopped xs y.0 t i v y.2 hit (λ k l. below (suc k) (omega (arith, l)))
      ∙ sym (ap place_of (broken_on a h s.end s.start (omega (arith, y.1.1.0)) (ap (gap a h) (sym y.1.1.1) ∙ bare (gap a h x) x (below 0 (omega arith))) ∙ next s y.0 y.1.0 y.1.1.2))

  start : (w : ℕ) (p : Run steps) → p.from ≡ record { start = 0; end = w } → broken_square a w h ≡ broken_from a h (from p.from.start (p.from.end - p.from.start))
  start w p f = broken_start a h w ∙ ap (λ (s : Range ℕ). broken_from a h (from s.start (s.end - s.start))) (sym f)

  -- what `find_map` tells of its run over the columns, where each call says what is asked of its column and leaves the closure as it was
  module _ {F : Type 0} (g : Mut F (ℕ × Unit {0}) (Option (Column × Row))) (f : F) (turn : (x : ℕ) (r : Option (Column × Row)) (q : F) → Called g f (x, tt) r q → (q ≡ f) × Tells x r) where
    each : (o : Option ℕ) → IfSome o (λ x. Called g f (x, tt) None f) → IfSome o (λ x. Tells x None)
    each None k = tt
    each (Some x) k = (turn x None f k).1

    one : (o : Option ℕ) (r : Option (Column × Row)) → IsSomeAnd o (λ x. Called g f (x, tt) r f) → IsSomeAnd o (λ x. Tells x r)
    one None r k = absurd k
    one (Some x) r k = (turn x r f k).1

    keeps : CallKeepsClosure g f
    keeps x r q k = (turn x.0 r q k).0

    pub broken-found : (w : ℕ) (out : Option (Column × Row)) → SomeRun steps (record { start = 0; end = w })
        (λ p. MatchOption out ((p.whole ≡ true) × AllItemsGive p g f None) (λ y. (i : ℕ) × (i < p.len) × (p.len ≡ i + 1) × IsFirstToGive p g f (Some y) None i))
        → out ≡ place_of (broken_square a w h)
    unfolding YieldsRun
    broken-found w None m =
        let p = m.0 in
        let d = p.gave in
        let u = d.0.2 m.2.0 in
        sym (ap place_of (start w p m.1 ∙ over p.items p.from d.0.0 u.0 d.0.1 u.1 (λ k. subst (λ o. IfSome o (λ x. Tells x None)) (d.1 k) (each (p.at k) (m.2.1 keeps k)))))
    broken-found w (Some v) m =
        let p = m.0 in
        let d = p.gave in
        let i = m.2.0 in
        let n = m.2.3 keeps in
        stopped p.items p.from d.0.0 i v d.0.1 (subst (λ o. IsSomeAnd o (λ x. Tells x (Some v))) (d.1 i) (one (p.at i) (Some v) n.0))
        (λ k l. subst (λ o. IsSomeAnd o (λ x. Tells x None)) (d.1 k) (one (p.at k) None (n.1 k l)))
        ∙ sym (ap place_of (start w p m.1))
