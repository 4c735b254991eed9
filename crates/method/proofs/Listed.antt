-- Listed sets: a set is known by its members, and what is selected or kept is listed.
-- A listed set is a `keep` over all intervals in order, so each law is one of `keep`. Everything above uses it.
use mathlib.Core.Path.{◌≡◌, refl, sym, ap, ap₂, ◌∙◌, fun_ext}
use mathlib.Core.Bool.{Bool, true, not, ◌&&◌}
use mathlib.Core.List.Memᴰ
use mathlib.Core.List.{List, [], ◌∷◌, ◌++◌, map, append-nil}
use Prim.Native.Nat.{ℕ, zero, suc, ◌+◌, ◌-◌, ◌≤◌, ◌<◌}
use native.Mathlib.Omega.{arith}
use lib.Dec.{leb}
use borrow.Author.Tests.{leb-true, le-leb, lt-leb}
use Rattle.lists.specs.Lists.{keep, gather, from, up_to}
use Rattle.lists.proofs.Truth.{agree, and_left, and_right, and_both}
use Rattle.lists.proofs.Members.{In, any_of, any_found}
use Rattle.lists.proofs.Keep.{keep_same, keep-keep, keep-none, kept, keeps}
use Rattle.lists.proofs.Ranges.{from_in, in_from, from-append, in_map, map_in, keep-map, in_gather, gather_in, gather_append, gather-same, gather_none, keep-gather}
use Rattle.method.specs.Intervals.{Interval, span, proper, holds, same, beginning_at, every, select, member}
use Rattle.method.specs.Strike.{strike}
use Rattle.method.specs.Runs.{Listed}
use Rattle.method.proofs.Lines.{proper-lines, lines-proper, same_path, path_same}

-- the Boolean `member` and the place in the list
pub member_in : (i : Interval) (s : List Interval) → member i s ≡ true → In i s
member_in i s t = let r = any_found (same i) s t in Memᴰ.cast (same_path i r.0 r.2) r.1

pub in_member : {i : Interval} {s : List Interval} → In i s → member i s ≡ true
in_member {i} m = any_of (same i) m (path_same i i refl)

pub member-keep : (i : Interval) (p : Interval → Bool) (s : List Interval) → member i (keep p s) ≡ (member i s && p i)
member-keep i p s =
    agree (member i (keep p s)) (member i s && p i)
    (λ t. let r = kept p s (member_in i (keep p s) t) in and_both (member i s) (p i) (in_member r.0) r.1)
    (λ t. in_member (keeps p (member_in i s (and_left (member i s) (p i) t)) (and_right (member i s) (p i) t)))

-- every interval over the lines 0 to n is there, and no other
pub every-lines : (n : ℕ) (i : Interval) → In i (every n) → (i.left < i.right) × (i.right ≤ n)
every-lines n i m =
    let a = gather_in (beginning_at n) (up_to n) m in
    let l = from_in 0 n a.1 in
    let b = map_in (λ r. span a.0 r) (from (suc a.0) (n - a.0)) a.2 in
    let r = from_in (suc a.0) (n - a.0) b.1 in
    omega (arith, ap (λ (k : Interval). k.left) b.2, ap (λ (k : Interval). k.right) b.2)

pub lines-every : (n : ℕ) (i : Interval) → i.left < i.right → i.right ≤ n → In i (every n)
lines-every n i l r =
    in_gather (beginning_at n)
    (in_from 0 n i.left (omega arith) (omega arith))
    (in_map (λ r. span i.left r) (in_from (suc i.left) (n - i.left) i.right (omega arith) (omega arith)))

pub member-every : (n : ℕ) (i : Interval) → member i (every n) ≡ (proper i && leb i.right n)
member-every n i =
    agree (member i (every n)) (proper i && leb i.right n)
    (λ t.
    let b = every-lines n i (member_in i (every n) t) in
    and_both (proper i) (leb i.right n) (lines-proper i b.0) (le-leb i.right n b.1))
    (λ t.
    in_member
    (lines-every n i
    (proper-lines i (and_left (proper i) (leb i.right n) t))
    (leb-true i.right n (and_right (proper i) (leb i.right n) t))))

pub member-select : (n : ℕ) (p : Interval → Bool) (i : Interval) → member i (select n p) ≡ (proper i && leb i.right n && p i)
member-select n p i = member-keep i p (every n) ∙ ap (λ b. b && p i) (member-every n i)

pub select-same : (n : ℕ) (p q : Interval → Bool) → ((i : Interval) → i.left < i.right → i.right ≤ n → p i ≡ q i) → select n p ≡ select n q
select-same n p q h = keep_same p q (every n) (λ i m. let b = every-lines n i m in h i b.0 b.1)

pub select-listed : (n : ℕ) (p : Interval → Bool) → Listed n (select n p)
select-listed n p =
    keep_same p (λ i. member i (select n p)) (every n)
    (λ i m. sym (member-keep i p (every n) ∙ ap (λ b. b && p i) (in_member m)))

-- a set over n lines is known by its members
pub listed_equal : (n : ℕ) (s t : List Interval) → Listed n s → Listed n t → ((i : Interval) → member i s ≡ member i t) → s ≡ t
listed_equal n s t ls lt h = ls ∙ ap (select n) (fun_ext h) ∙ sym lt

module _ (n : ℕ) (s : List Interval) (listed : Listed n s) where
  pub listed-lines : (i : Interval) → member i s ≡ true → (i.left < i.right) × (i.right ≤ n)
  listed-lines i t = every-lines n i (kept (λ j. member j s) (every n) (member_in i (select n (λ j. member j s)) (sym (ap (member i) listed) ∙ t))).0

  pub keep-select : (p : Interval → Bool) → keep p s ≡ select n (λ i. member i s && p i)
  keep-select p = ap (keep p) listed ∙ keep-keep (λ i. member i s) p (every n)

  pub keep-listed : (p : Interval → Bool) → Listed n (keep p s)
  keep-listed p = rw (keep-select p) (select-listed n (λ i. member i s && p i))

  pub strike-listed : (c : ℕ) → Listed n (strike c s)
  unfolding strike
  strike-listed c = keep-listed (λ i. not (holds c i))

-- of the lines from a on, those up to n
pub keep-from : (n a j k : ℕ) → a + j ≡ suc n → j ≤ k → keep (λ r. leb r n) (from a k) ≡ from a j
keep-from n a zero k e h = keep-none (λ r. leb r n) (from a k) (λ r m. let b = from_in a k m in lt-leb r n (omega arith))
keep-from n a (suc j) zero e h = absurd (omega arith)
keep-from n a (suc j) (suc k) e h = rw (le-leb a n (omega arith)) (ap (a ∷◌) (keep-from n (suc a) j k (omega arith) (omega arith)))

-- the intervals within n lines, among those of more lines
module _ (n m : ℕ) (more : n ≤ m) where
  abbrev pub narrow : Interval → Bool
  narrow i = leb i.right n

  pub row-narrow : (l : ℕ) → l ≤ n → keep narrow (beginning_at m l) ≡ beginning_at n l
  row-narrow l h =
      keep-map (λ r. span l r) narrow (from (suc l) (m - l))
      ∙ ap (map (λ r. span l r)) (keep-from n (suc l) (n - l) (m - l) (omega arith) (omega arith))

  pub row-beyond : (l : ℕ) → n ≤ l → keep narrow (beginning_at m l) ≡ []
  row-beyond l h =
      keep-none narrow (beginning_at m l)
      (λ i k.
      let a = map_in (λ r. span l r) (from (suc l) (m - l)) k in
      let b = from_in (suc l) (m - l) a.1 in
      lt-leb i.right n (omega (arith, ap (λ (j : Interval). j.right) a.2)))

  pub every-narrow : keep narrow (every m) ≡ every n
  every-narrow =
      let e : m ≡ n + (m - n) = omega arith in
      let g : ℕ → List Interval = λ l. keep narrow (beginning_at m l) in
      keep-gather narrow (beginning_at m) (up_to m)
      ∙ ap (gather g) (ap (from 0) e ∙ from-append 0 n (m - n))
      ∙ gather_append g (from 0 n) (from (0 + n) (m - n))
      ∙ ap₂ ◌++◌
      (gather-same g (beginning_at n) (from 0 n) (λ l k. let b = from_in 0 n k in row-narrow l (omega arith)))
      (gather_none g (from (0 + n) (m - n)) (λ l k. let b = from_in (0 + n) (m - n) k in row-beyond l (omega arith)))
      ∙ append-nil (every n)

-- a selection that stays within n lines is the same over more lines
pub select-wider : (n m : ℕ) (p : Interval → Bool) → n ≤ m → ((i : Interval) → member i (select m p) ≡ true → i.right ≤ n) → select m p ≡ select n p
select-wider n m p h w =
    keep_same p (λ i. leb i.right n && p i) (every m)
    (λ i k.
    agree (p i) (leb i.right n && p i)
    (λ t. and_both (leb i.right n) (p i) (le-leb i.right n (w i (in_member (keeps p k t)))) t)
    (λ t. and_right (leb i.right n) (p i) t))
    ∙ sym (keep-keep (λ i. leb i.right n) p (every m))
    ∙ ap (keep p) (every-narrow n m h)

pub listed-wider : (n m : ℕ) (s : List Interval) → n ≤ m → Listed n s → Listed m s
listed-wider n m s h listed =
    listed
    ∙ sym
    (select-wider n m (λ i. member i s) h
    (λ i t. (listed-lines n s listed i (and_right (member i (every m)) (member i s) (sym (member-keep i (λ j. member j s) (every m)) ∙ t))).1))
