-- A list laid out by key: for each number from a on, the elements whose key it is. No element is lost, and the keys rise where none comes twice.
-- By induction on the numbers; what has the first key goes first, the rest is laid out as if the others had never been there. Marks listed by column use it.
use mathlib.Core.Path.{◌≡◌, refl, sym, ap, ◌∙◌}
use mathlib.Core.Bool.{not, ◌&&◌}
use mathlib.Core.List.Memᴰ
use mathlib.Core.List.{List, [], ◌∷◌}
use mathlib.Core.Logic.{◌≢◌}
use Prim.Native.Nat.{ℕ, zero, suc, ◌+◌, ◌≤◌, ◌<◌}
use native.Mathlib.Omega.{arith}
use lib.Dec.{eqb}
use lib.ListN.{length, length-append}
use borrow.Author.Tests.{eqb-true, eqb-false, ne_eqb, not-true}
use Rattle.lists.specs.Lists.{keep, gather, from}
use Rattle.lists.proofs.Truth.{agree, and_both, and_right}
use Rattle.lists.proofs.Members.{In}
use Rattle.lists.proofs.Keep.{kept, keep-keep, keep_same, count-length, count-rest}
use Rattle.lists.proofs.Ranges.{from_in, gather_in, gather-same}
use Rattle.lists.proofs.Pairs.{Pairs}
use Rattle.lists.proofs.Related.{pairs_keep, pairs_append, pairs_weaken}

module _ {ℓ} {A : Type ℓ} (key : A → ℕ) where
  -- those with key c
  abbrev with-key : List A → ℕ → List A
  with-key xs c = keep (λ x. eqb (key x) c) xs

  has_key : (xs : List A) (c : ℕ) {x : A} → In x (with-key xs c) → key x ≡ c
  has_key xs c {x} m = eqb-true (key x) c (kept (λ y. eqb (key y) c) xs m).1

  -- what is laid out was there, with a key in the range
  pub keyed_in : (xs : List A) (a n : ℕ) {x : A} → In x (gather (λ c. keep (λ y. eqb (key y) c) xs) (from a n)) → (a ≤ key x) × (key x < a + n) × In x xs
  keyed_in xs a n {x} m =
      let r = gather_in (with-key xs) (from a n) m in
      let e = has_key xs r.0 r.2 in
      let b = from_in a n r.1 in
      (omega arith, omega arith, (kept (λ y. eqb (key y) r.0) xs r.2).0)

  -- those with another key
  abbrev without-key : List A → ℕ → List A
  without-key xs c = keep (λ x. not (eqb (key x) c)) xs

  -- a later key is not touched by those with an earlier one
  later-key : (x : A) (a c : ℕ) → a < c → eqb (key x) c ≡ (not (eqb (key x) a) && eqb (key x) c)
  later-key x a c h =
      agree (eqb (key x) c) (not (eqb (key x) a) && eqb (key x) c)
      (λ t. and_both (not (eqb (key x) a)) (eqb (key x) c) (ap not (ne_eqb (key x) a (λ e. omega (arith, eqb-true (key x) c t)))) t)
      (λ t. and_right (not (eqb (key x) a)) (eqb (key x) c) t)

  with-later : (xs : List A) (a c : ℕ) → a < c → with-key xs c ≡ with-key (without-key xs a) c
  with-later xs a c h =
      keep_same (λ x. eqb (key x) c) (λ x. not (eqb (key x) a) && eqb (key x) c) xs (λ x m. later-key x a c h)
      ∙ sym (keep-keep (λ x. not (eqb (key x) a)) (λ x. eqb (key x) c) xs)

  rest_keys : (xs : List A) (a n : ℕ) → ((x : A) → In x xs → (a ≤ key x) × (key x < a + suc n))
      → (x : A) → In x (without-key xs a) → (suc a ≤ key x) × (key x < suc a + n)
  rest_keys xs a n h x m =
      let k = kept (λ y. not (eqb (key y) a)) xs m in
      let b = h x k.0 in
      let e : key x ≢ a = eqb-false (key x) a (not-true (eqb (key x) a) k.1) in
      omega arith

  pub keyed_length : (xs : List A) (a n : ℕ) → ((x : A) → In x xs → (a ≤ key x) × (key x < a + n))
      → length (gather (λ c. keep (λ y. eqb (key y) c) xs) (from a n)) ≡ length xs
  keyed_length [] a zero h = refl
  keyed_length (x ∷ xs) a zero h = let r = h x (Memᴰ.head refl) in absurd (omega arith)
  keyed_length xs a (suc n) h =
      let rest = without-key xs a in
      let same = gather-same (with-key xs) (with-key rest) (from (suc a) n) (λ c m. let b = from_in (suc a) n m in with-later xs a c (omega arith)) in
      let again = keyed_length rest (suc a) n (rest_keys xs a n h) in
      length-append (with-key xs a) (gather (with-key xs) (from (suc a) n))
      ∙ omega (arith, ap length same, again, count-length (λ x. eqb (key x) a) xs, count-rest (λ x. eqb (key x) a) xs)

  -- no key twice: they rise
  with-once : (xs : List A) → Pairs (λ x y. key x ≡ key y → ⊥) xs → (a : ℕ) → Pairs (λ x y. key x < key y) (with-key xs a)
  with-once xs once a =
      pairs_weaken (λ x y. key x ≡ key y → ⊥) (λ x y. key x < key y) (with-key xs a)
      (λ x y k l apart. absurd (apart (has_key xs a k ∙ sym (has_key xs a l))))
      (pairs_keep (λ x y. key x ≡ key y → ⊥) (λ x. eqb (key x) a) xs once)

  pub keyed_rise : (xs : List A) → Pairs (λ x y. key x ≡ key y → ⊥) xs → (a n : ℕ) → Pairs (λ x y. key x < key y) (gather (λ c. keep (λ y. eqb (key y) c) xs) (from a n))
  keyed_rise xs once a zero = tt
  keyed_rise xs once a (suc n) =
      pairs_append (λ x y. key x < key y) (with-key xs a) (gather (with-key xs) (from (suc a) n)) (with-once xs once a) (keyed_rise xs once (suc a) n)
      (λ x y k l. omega (arith, has_key xs a k, keyed_in xs (suc a) n l))
