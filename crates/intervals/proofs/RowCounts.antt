-- A set's intervals counted row by row: of one row those that end beyond a line, one end after the other, and the rows before a line together.
use mathlib.Core.Path.{◌≡◌, refl, sym, ap, ◌∙◌}
use mathlib.Core.Bool.{Bool, true, false, ◌&&◌}
use mathlib.Core.List.Memᴰ
use mathlib.Core.List.{List, [], ◌∷◌}
use mathlib.Core.Logic.{by_cases}
use mathlib.Core.Option.{Option, none, some}
use Prim.Native.Nat.{ℕ, zero, suc, ◌+◌, ◌≤◌, ◌<◌}
use native.Mathlib.Omega.{arith}
use native.Mathlib.Numerals.{add-one}
use native.Mathlib.Decide.{dec_lt, ℕ_discrete}
use lib.Dec.{leb, ltb, eqb}
use lib.ListN.{length}
use borrow.Author.Tests.{eq-eqb, ne_eqb, le-leb, lt-ltb, le-ltb}
use Rattle.lists.specs.Lists.{count}
use Rattle.lists.proofs.Truth.{bcase}
use Rattle.lists.proofs.Keep.{count_same, count-zero, count-at-most}
use Rattle.lists.proofs.Members.{In, none_any}
use Rattle.method.specs.Intervals.{Interval as Span}
use Rattle.method.specs.Runs.{Listed}
use Rattle.method.proofs.Sets.{has, bit}
use Rattle.method.proofs.Boxes.{K-lines, K-no-lines}
use Rattle.method.proofs.Listed.{in_member, listed-lines}
use Rattle.intervals.specs.Table.{next_end}
use Rattle.intervals.specs.Tops.{ends_beyond}
use Rattle.intervals.proofs.TableRows.{next_here, next-on, next-over, and_false}
use Rattle.intervals.proofs.TopLines.{one_place, ends-box}

-- the ends that are left, by the next one
abbrev ends_from : ℕ → List Span → ℕ → Option ℕ → ℕ
ends_from n s l none = 0
ends_from n s l (some e) = suc (ends_beyond s l n e)

module _ (n : ℕ) {s : List Span} (listed : Listed n s) (l : ℕ) where
  -- one line further
  ends-step : (p : ℕ) → p < n → ends_beyond s l n p ≡ bit (has s l (suc p)) + ends_beyond s l n (suc p)
  ends-step p h =
      omega (
        arith,
        ends-box n listed l n p,
        ends-box n listed l n (suc p),
        K-lines (has s) l (suc l) p (suc p) n (omega arith) h,
        one_place (has s) l p,
      )

  ends-none : (p : ℕ) → n ≤ p → ends_beyond s l n p ≡ ends_from n s l (next_end n s l p)
  ends-none p h = ends-box n listed l n p ∙ K-no-lines (has s) l (suc l) p n h ∙ ap (ends_from n s l) (sym (next-over n s l p h))

  -- those beyond line p are the next one and those beyond it
  ends-left : (k p : ℕ) → n ≤ p + k → ends_beyond s l n p ≡ ends_from n s l (next_end n s l p)
  ends-left zero p h = ends-none p (omega arith)
  ends-left (suc k) p h =
      by_cases (dec_lt p n)
      (λ u.
      bcase (has s l (suc p))
      (λ t.
      let e = next_here n s l p u (rw (add-one p) t) ∙ ap some (add-one p) in
      rw e (omega (arith, ends-step p u, ap bit t)))
      (λ f.
      let e = next-on n s l p u (rw (add-one p) f) ∙ ap (next_end n s l) (add-one p) in
      rw e (omega (arith, ends-step p u, ap bit f, ends-left k (suc p) (omega arith)))))
      (λ u. ends-none p (omega arith))

  pub ends_one : (p e : ℕ) → next_end n s l p ≡ some e → ends_beyond s l n p ≡ suc (ends_beyond s l n e)
  ends_one p e q = ends-left n p (omega arith) ∙ ap (ends_from n s l) q

  pub ends_over : (p : ℕ) → next_end n s l p ≡ none → ends_beyond s l n p ≡ 0
  ends_over p q = ends-left n p (omega arith) ∙ ap (ends_from n s l) q

pub ends_bound : (s : List Span) (l n p : ℕ) → ends_beyond s l n p ≤ length s
unfolding ends_beyond
ends_bound s l n p = count-at-most (λ i. eqb i.left l && ltb p i.right && leb i.right n) s

count_add {ℓ} : {A : Type ℓ} (p q r : A → Bool) (xs : List A) → ((x : A) → In x xs → bit (p x) ≡ bit (q x) + bit (r x)) → count p xs ≡ count q xs + count r xs
count_add p q r [] h = refl
count_add p q r (x ∷ xs) h = omega (arith, h x (Memᴰ.head refl), count_add p q r xs (λ y m. h y (Memᴰ.tail m)))

-- how many intervals of s that begin before line l pass a test
abbrev pub before : List Span → (Span → Bool) → ℕ → ℕ
before s q l = count (λ i. ltb i.left l && q i) s

module _ (s : List Span) (q : Span → Bool) where
  pub before_bound : (l : ℕ) → before s q l ≤ length s
  before_bound l = count-at-most (λ i. ltb i.left l && q i) s

  pub before-none : before s q 0 ≡ 0
  before-none =
      count-zero (λ i. ltb i.left 0 && q i) s
      (none_any (λ i. ltb i.left 0 && q i) s (λ i m. rw (le-ltb i.left 0 (omega arith))))

  -- where all that pass begin before line l
  pub before-all : (l : ℕ) → ((i : Span) → In i s → q i ≡ true → i.left < l) → before s q l ≡ count q s
  before-all l h =
      count_same (λ i. ltb i.left l && q i) q s
      (λ i m. bcase (q i) (λ t. rw (t, lt-ltb i.left l (h i m t))) (λ f. rw f (and_false (ltb i.left l))))

  -- row l adds those that end beyond line x, where these are the ones that pass
  pub before-next : (n : ℕ) → Listed n s → (l x : ℕ) → ((i : Span) → In i s → i.left ≡ l → q i ≡ ltb x i.right)
      → before s q (l + 1) ≡ before s q l + ends_beyond s l n x
  unfolding ends_beyond
  before-next n listed l x h =
      count_add (λ i. ltb i.left (l + 1) && q i) (λ i. ltb i.left l && q i) (λ i. eqb i.left l && ltb x i.right && leb i.right n) s each
    where
      each : (i : Span) → In i s
          → bit (ltb i.left (l + 1) && q i) ≡ bit (ltb i.left l && q i) + bit (eqb i.left l && ltb x i.right && leb i.right n)
      each i m =
          by_cases (ℕ_discrete i.left l)
          (λ e.
          rw (
            lt-ltb i.left (l + 1) (omega arith),
            le-ltb i.left l (omega arith),
            eq-eqb i.left l e,
            h i m e,
            le-leb i.right n (listed-lines n s listed i (in_member m)).1,
          )
          (kept (ltb x i.right)))
          (λ e. rw (ne_eqb i.left l e, same i.left e) (omega arith))
        where
          kept : (b : Bool) → bit b ≡ 0 + bit (b && true)
          kept true = refl
          kept false = refl

          same : (a : ℕ) → (a ≡ l → ⊥) → ltb a (l + 1) ≡ ltb a l
          same a e =
              by_cases (dec_lt a l) (λ u. lt-ltb a (l + 1) (omega arith) ∙ sym (lt-ltb a l u)) (λ u. le-ltb a (l + 1) (omega arith) ∙ sym (le-ltb a l (omega arith)))
