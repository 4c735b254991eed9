-- The rows' words with what changes in them: a column is flipped in the row of its bottom and in the row of its end, twice in one row is nothing.
-- By cases on the column and the row. `flip` and `changes` use it.
use mathlib.Core.Path.{◌≡◌, refl, sym, ap, ◌∙◌}
use mathlib.Core.Bool.{Bool, true, false, not, cond, ◌&&◌}
use mathlib.Core.List.{List}
use mathlib.Core.Logic.{by_cases}
use Prim.Native.Nat.{ℕ, ◌+◌, ◌≤◌, ◌<◌}
use native.Mathlib.Omega.{arith}
use native.Mathlib.Decide.{dec_lt, ℕ_discrete}
use lib.Dec.{ltb, eqb}
use lib.ListN.{length, get_or, set, take, replicate, length-set, length-take, length-replicate, get_or-replicate}
use Rattle.std.proofs.Common.{get_or-take}
use lib.Seq.{get_or-set_same, get_or-set_other}
use borrow.Author.Tests.{lt-ltb, le-ltb, eq-eqb, ne_eqb}
use Rattle.words.specs.Words.{on, Bits}
use Rattle.words.proofs.Words.{on-zero}
use Rattle.cover.specs.Code.{Within, Rowed, differ, flipped_at, changing}

same-side : (k c : ℕ) → (k ≡ c → ⊥) → ltb k c ≡ ltb k (c + 1)
same-side k c d = by_cases (dec_lt k c) (λ h. lt-ltb k c h ∙ sym (lt-ltb k (c + 1) (omega arith))) (λ h. le-ltb k c (omega arith) ∙ sym (le-ltb k (c + 1) (omega arith)))

-- rows in which columns are flipped, each where its place says: none yet, and one column more
module _ (places start : List ℕ) where
  pub none_flipped : Rowed (flipped_at places 0 start) start
  none_flipped y l k = rw (le-ltb k 0 (omega arith))

  pub next_flipped : (c v : ℕ) (rows : List ℕ) → get_or places c 0 < length rows → Rowed (flipped_at places c start) rows
      → Bits v (λ j. cond (eqb j c) (not (on (get_or rows (get_or places c 0) 0) j)) (on (get_or rows (get_or places c 0) 0) j))
      → Rowed (flipped_at places (c + 1) start) (set rows (get_or places c 0) v)
  next_flipped c v rows u R told y l k =
      let p = get_or places c 0 in
      let here : y < length rows = omega (arith, length-set rows p v) in
      by_cases (ℕ_discrete p y)
      (λ e.
      ap (λ x. on (get_or (set rows p v) x 0) k) (sym e)
      ∙ ap (λ x. on x k) (get_or-set_same rows p v 0 u)
      ∙ told k
      ∙ by_cases (ℕ_discrete k c)
      (λ q.
      let was = R p u c in
      rw (q, eq-eqb c c refl, lt-ltb c (c + 1) (omega arith), eq-eqb p y e)
      (ap not (was ∙ rw (le-ltb c c (omega arith))) ∙ ap (λ x. not (on (get_or start x 0) c)) e))
      (λ d.
      rw (ne_eqb k c d)
      (R p u k
      ∙ ap (λ x. differ (ltb k c && eqb (get_or places k 0) x) (on (get_or start x 0) k)) e
      ∙ ap (λ x. differ (x && eqb (get_or places k 0) y) (on (get_or start y 0) k)) (same-side k c d))))
      (λ f.
      ap (λ x. on x k) (get_or-set_other rows p y v 0 (λ e. f (sym e)))
      ∙ R y here k
      ∙ by_cases (ℕ_discrete k c)
      (λ q. rw (q, le-ltb c c (omega arith), lt-ltb c (c + 1) (omega arith), ne_eqb p y f))
      (λ d. ap (λ x. differ (x && eqb (get_or places k 0) y) (on (get_or start y 0) k)) (same-side k c d)))

-- rows of nothing
pub clear-rows : (n : ℕ) → Rowed (λ y c. false) (replicate n 0)
clear-rows n y l c = ap (λ v. on v c) (get_or-replicate n y 0 0 (omega (arith, length-replicate {A = ℕ} n 0))) ∙ on-zero c

-- the first w numbers lie where all of them do
pub taken-within : (w n : ℕ) (numbers : List ℕ) → ((c : ℕ) → c < w → get_or numbers c 0 < n) → Within n (take w numbers)
taken-within w n numbers low k u =
    let v : k < w = omega (arith, length-take w numbers) in
    rw (get_or-take w numbers k 0 v) (low k v)

differ-turned : (x z : Bool) → differ z (differ x false) ≡ differ x z
differ-turned true true = refl
differ-turned true false = refl
differ-turned false true = refl
differ-turned false false = refl

-- flipped where each column's copper begins, and then where it ends
pub both_flipped : (w : ℕ) (bottoms ends rows rows' rows'' : List ℕ) → w ≤ length bottoms → w ≤ length ends
    → Rowed (λ y c. false) rows → length rows ≡ length rows' → length rows' ≡ length rows''
    → Rowed (flipped_at (take w bottoms) (length (take w bottoms)) rows) rows' → Rowed (flipped_at (take w ends) (length (take w ends)) rows') rows'' → Rowed (changing w bottoms ends) rows''
both_flipped w bottoms ends rows rows' rows'' low high clear n m F G y l k =
    let b : length (take w bottoms) ≡ w = omega (arith, length-take w bottoms) in
    let e : length (take w ends) ≡ w = omega (arith, length-take w ends) in
    rw (G y l k, F y (omega arith) k, clear y (omega arith) k, b, e)
    (by_cases (dec_lt k w)
    (λ u. rw (lt-ltb k w u, get_or-take w bottoms k 0 u, get_or-take w ends k 0 u) (differ-turned (eqb (get_or bottoms k 0) y) (eqb (get_or ends k 0) y)))
    (λ u. rw (le-ltb k w (omega arith))))

-- one of the first rows
pub row-taken : (rule : ℕ → ℕ → Bool) (rows : List ℕ) → Rowed rule rows → (n y : ℕ) → y < length (take n rows) → Bits (get_or (take n rows) y 0) (rule y)
row-taken rule rows R n y u k = ap (λ v. on v k) (get_or-take n rows y 0 (omega (arith, length-take n rows))) ∙ R y (omega (arith, length-take n rows)) k
