-- The two greatest right lines of several rows: a row's first line beyond the lesser one comes in, and its next where the first lies beyond both.
-- Which lines a row reaches is known by its box beyond each line. `with_row` takes a row in so, the sweep asks for one row's own two, and counts are read off them.
use mathlib.Core.Path.{◌≡◌, sym, ap, ◌∙◌}
use mathlib.Core.Bool.{Bool, true, false, ◌&&◌}
use mathlib.Core.List.{List}
use mathlib.Core.Logic.{by_cases}
use Prim.Native.Nat.{ℕ, suc, ◌-◌, ◌≤◌, ◌<◌, max}
use native.Mathlib.Omega.{arith}
use native.Mathlib.Decide.{dec_lt, dec_le}
use lib.Dec.{leb, ltb, eqb}
use borrow.Author.Tests.{eqb-true, leb-true, ltb-true, eq-eqb, le-leb, lt-ltb}
use Rattle.lists.proofs.Truth.{and_left, and_right, and_both}
use Rattle.method.specs.Intervals.{Interval as Span, span}
use Rattle.method.specs.Runs.{Listed}
use Rattle.method.proofs.Sets.{Set, has, bit, row, K, top}
use Rattle.method.proofs.Sums.{sum_one}
use Rattle.method.proofs.Boxes.{K-lines, K-has, K-find}
use Rattle.method.proofs.Counts.{count-box}
use Rattle.method.proofs.Staircase.{top_le, top-passes, top-greatest}
use Rattle.grid.specs.Lines.{line}
use Rattle.grid.specs.declared.lines.Line.{Line}
use Rattle.intervals.specs.declared.dependent.Tops.{Tops}
use Rattle.intervals.specs.Reach.{reach}
use Rattle.intervals.specs.Tops.{tops, ends_beyond, Greatest, WithRow}
use Rattle.intervals.proofs.ReduceRows.{reach-top}

abbrev ends_test : ℕ → ℕ → ℕ → Span → Bool
ends_test l b x i = eqb i.left l && ltb x i.right && leb i.right b

ends-lines : (l b x : ℕ) (i : Span) → ends_test l b x i ≡ true → (i.left ≡ l) × (x < i.right) × (i.right ≤ b)
ends-lines l b x i t =
    let u = and_left (eqb i.left l && ltb x i.right) (leb i.right b) t in (
      eqb-true i.left l (and_left (eqb i.left l) (ltb x i.right) u),
      ltb-true x i.right (and_right (eqb i.left l) (ltb x i.right) u),
      leb-true i.right b (and_right (eqb i.left l && ltb x i.right) (leb i.right b) t),
    )

lines_end : (l b x : ℕ) (i : Span) → i.left ≡ l → x < i.right → i.right ≤ b → ends_test l b x i ≡ true
lines_end l b x i e u v =
    and_both (eqb i.left l && ltb x i.right) (leb i.right b)
    (and_both (eqb i.left l) (ltb x i.right) (eq-eqb i.left l e) (lt-ltb x i.right u))
    (le-leb i.right b v)

bit-small : (b : Bool) → bit b ≤ 1
bit-small true = omega arith
bit-small false = omega arith

-- the box of one place
pub one_place : (S : Set) (l c : ℕ) → K S l (suc l) c (suc c) ≡ bit (S l (suc c))
unfolding K row
one_place S l c = sum_one (λ k. row S k c (suc c)) l ∙ sum_one (λ r. bit (S l r)) (suc c)

-- a row's lines beyond line x are its box
pub ends-box : (n : ℕ) {s : List Span} → Listed n s → (l b x : ℕ) → ends_beyond s l b x ≡ K (has s) l (suc l) x b
unfolding ends_beyond
ends-box n {s} listed l b x =
    count-box n s listed (ends_test l b x) l (suc l) x b
    (λ k r m t. let w = ends-lines l b x (span k r) t in omega arith)
    (λ k r m u v y z. lines_end l b x (span k r) (omega arith) y z)

module _ (S : Set) (l b : ℕ) where
  abbrev T : ℕ
  T = top (S l) b

  abbrev U : ℕ
  U = top (S l) (T - 1)

  -- the greatest line of a row
  one-beyond : (x : ℕ) → x < T → 1 ≤ K S l (suc l) x b
  one-beyond x h = K-has S l T l (suc l) x b (top-passes (S l) b (omega arith)) (omega (arith, top_le (S l) b))

  none-beyond : (x : ℕ) → T ≤ x → K S l (suc l) x b ≡ 0
  none-beyond x h =
      by_cases (dec_lt 0 (K S l (suc l) x b))
      (λ z.
      let m = K-find S l (suc l) x b z in
      let e : m.0 ≡ l = omega arith in
      absurd (omega (arith, top-greatest (S l) b m.1 (sym (ap (λ k. S k m.1) e) ∙ m.2) (omega arith))))
      (λ z. omega arith)

-- its two greatest: the second is the greatest up to the line before the first
module _ (S : Set) (l b : ℕ) where
  two-beyond : (x : ℕ) → x < U S l b → 2 ≤ K S l (suc l) x b
  two-beyond x h =
      let t = top_le (S l) b in
      let u = top_le (S l) (T S l b - 1) in
      omega (
        arith,
        K-lines S l (suc l) x (T S l b - 1) b (omega arith) (omega arith),
        one-beyond S l (T S l b - 1) x h,
        one-beyond S l b (T S l b - 1) (omega arith),
      )

  at_most_one : (x : ℕ) → U S l b ≤ x → K S l (suc l) x b ≤ 1
  at_most_one x h =
      by_cases (dec_le (T S l b) x) (λ z. omega (arith, none-beyond S l b x z))
      (λ z.
      let t = top_le (S l) b in
      let c = T S l b - 1 in
      let e : suc c ≡ T S l b = omega arith in
      omega (
        arith,
        K-lines S l (suc l) x c b (omega arith) (omega arith),
        none-beyond S l c x h,
        K-lines S l (suc l) c (suc c) b (omega arith) (omega arith),
        none-beyond S l b (suc c) (omega arith),
        one_place S l c,
        bit-small (S l (suc c)),
      ))

-- no lines: none lies beyond any
pub no_lines : (a : ℕ) (f : ℕ → ℕ) → ((x : ℕ) → f x ≡ 0) → Greatest a f (tops a a)
no_lines a f e =
    record {
      low = omega arith;
      ordered = omega arith;
      one = λ x u h. absurd (omega arith);
      none = λ x h. e x;
      two = λ x u h. absurd (omega arith);
      single = λ x h. omega (arith, e x);
    }

pub greatest-same : (a : ℕ) (f g : ℕ → ℕ) (t : Tops) → ((x : ℕ) → f x ≡ g x) → Greatest a f t → Greatest a g t
greatest-same a f g t e G =
    record {
      low = G.low;
      ordered = G.ordered;
      one = λ x u h. omega (arith, e x, G.one x u h);
      none = λ x h. omega (arith, e x, G.none x h);
      two = λ x u h. omega (arith, e x, G.two x u h);
      single = λ x h. omega (arith, e x, G.single x h);
    }

reached : (s : List Span) (l m b q : ℕ) → line q ≡ line (reach s l m b) → q ≡ max m (top (has s l) b)
reached s l m b q e = ap (λ (z : Line). z.0) e ∙ reach-top s l m b

-- the two greatest of one row
pub two-greatest : (n : ℕ) {s : List Span} → Listed n s → (l b q p : ℕ) → line q ≡ line (reach s l 0 b) → line p ≡ line (reach s l 0 (q - 1))
    → Greatest 0 (ends_beyond s l b) (tops q p)
two-greatest n {s} listed l b q p e f =
    let r = reached s l 0 b q e in
    let here : q ≡ top (has s l) b = omega arith in
    let next = reached s l 0 (q - 1) p f ∙ ap (λ z. max 0 (top (has s l) (z - 1))) here in
    let below = top_le (has s l) (top (has s l) b - 1) in
    record {
      low = omega arith;
      ordered = omega arith;
      one = λ x o u. omega (arith, ends-box n listed l b x, one-beyond (has s) l b x (omega arith));
      none = λ x u. omega (arith, ends-box n listed l b x, none-beyond (has s) l b x (omega arith));
      two = λ x o u. omega (arith, ends-box n listed l b x, two-beyond (has s) l b x (omega arith));
      single = λ x u. omega (arith, ends-box n listed l b x, at_most_one (has s) l b x (omega arith));
    }

-- a row beside others
module _ (n : ℕ) {s : List Span} (listed : Listed n s) (l b g m q : ℕ) (e : line q ≡ line (reach s l m b)) where
  abbrev S : Set
  S = has s

  -- the row's greatest line does not lie beyond the greater one
  pub row_lesser : q ≤ g → WithRow s l b (tops g m) (tops g q)
  row_lesser h a f G =
      let r = reached s l m b q e in
      record {
        low = omega (arith, G.low);
        ordered = h;
        one = λ x o u. omega (arith, G.one x o u);
        none = λ x u. omega (arith, G.none x u, ends-box n listed l b x, none-beyond S l b x (omega arith));
        two = λ x o u.
            by_cases (dec_lt x m) (λ v. omega (arith, G.two x o v))
            (λ v. omega (arith, G.one x o (omega arith), ends-box n listed l b x, one-beyond S l b x (omega arith)));
        single = λ x u. omega (arith, G.single x (omega arith), ends-box n listed l b x, none-beyond S l b x (omega arith));
      }

  -- it does: the next one is looked for too
  pub row-greater : (p : ℕ) → line p ≡ line (reach s l g (q - 1)) → g < q → WithRow s l b (tops g m) (tops q p)
  row-greater p e2 h a f G =
      let o = G.ordered in
      let r = reached s l m b q e in
      let here : q ≡ top (S l) b = omega arith in
      let next : p ≡ max g (top (S l) (top (S l) b - 1)) = reached s l g (q - 1) p e2 ∙ ap (λ z. max g (top (S l) (z - 1))) here in
      let below = top_le (S l) (top (S l) b - 1) in
      record {
        low = omega (arith, G.low);
        ordered = omega arith;
        one = λ x v u. omega (arith, ends-box n listed l b x, one-beyond S l b x (omega arith));
        none = λ x u. omega (arith, G.none x (omega arith), ends-box n listed l b x, none-beyond S l b x (omega arith));
        two = λ x o u.
            by_cases (dec_lt x g)
            (λ v. omega (arith, G.one x o v, ends-box n listed l b x, one-beyond S l b x (omega arith)))
            (λ v. omega (arith, ends-box n listed l b x, two-beyond S l b x (omega arith)));
        single = λ x u. omega (arith, G.none x (omega arith), ends-box n listed l b x, at_most_one S l b x (omega arith));
      }
