-- A table and the set that it holds: each bit is one membership, and a table of a set holds that set.
-- A word is known by its bits (crate words). Every function over a table crosses here.
use mathlib.Core.Path.{◌≡◌, refl, sym, ap, ◌∙◌, subst⁻¹, fun_ext}
use mathlib.Core.Bool.{Bool, true, false, cond, ◌&&◌}
use mathlib.Core.List.{List, []}
use mathlib.Core.Logic.{by_cases}
use Prim.Native.Nat.{ℕ, ◌+◌, ◌-◌, ◌^◌, ◌≤◌, ◌<◌}
use native.Mathlib.Omega.{arith}
use native.Mathlib.Decide.{dec_lt, ℕ_discrete}
use lib.Dec.{leb, eqb}
use borrow.Author.Tests.{leb-true, le-leb, eq-eqb, ne_eqb}
use lib.ListN.{length, get_or, set, replicate, length-set, length-replicate, get_or-replicate}
use lib.Seq.{get_or-set_same, get_or-set_other}
use Rattle.lists.proofs.Truth.{agree, never, fails, and_left, and_right, and_both}
use Rattle.lists.proofs.Keep.{keep-none}
use Rattle.lists.proofs.Maps.{length-up_to, at-up_to, is-up_to}
use Rattle.method.specs.Intervals.{Interval as Span, span, proper, same, every, member}
use Rattle.method.specs.Runs.{Listed}
use Rattle.method.proofs.Lines.{same_path, path_same, proper-lines, lines-proper}
use Rattle.method.proofs.Listed.{member-select, select-same, select-listed, listed-lines}
use Rattle.grid.specs.Limits.{side}
use Rattle.words.specs.Words.{bits, on, word_of}
use Rattle.words.proofs.Words.{on-zero, on-high, on_word, word_lt, word_bits}
use Rattle.intervals.specs.Table.{row_of, set_of, table_of, Tabled, changed}

-- a word has a bit for each right line
pub right_lines : side ≤ bits
right_lines = omega arith

-- the table of a set, word by word
module _ (s : List Span) where
  pub table-length : length (table_of s) ≡ side
  unfolding table_of
  table-length = length-up_to (row_of s) side

  pub table-row : (l : ℕ) → l < side → get_or (table_of s) l 0 ≡ row_of s l
  unfolding table_of
  table-row l h = at-up_to (row_of s) side l h

  pub is-table : (t : List ℕ) → length t ≡ side → ((l : ℕ) → l < side → get_or t l 0 ≡ row_of s l) → t ≡ table_of s
  unfolding table_of
  is-table t e h = is-up_to (row_of s) side t e h

-- the set of a table
module _ (n : ℕ) (t : List ℕ) where
  pub set-listed : Listed n (set_of n t)
  unfolding set_of
  set-listed = select-listed n (λ i. on (get_or t i.left 0) (i.right - 1))

  pub member-set : (i : Span) → member i (set_of n t) ≡ (proper i && leb i.right n && on (get_or t i.left 0) (i.right - 1))
  unfolding set_of
  member-set i = member-select n (λ i. on (get_or t i.left 0) (i.right - 1)) i

-- each bit of a line's word is one membership, and there are no others
pub row_on : (n : ℕ) {s : List Span} → n ≤ side → Listed n s → (l k : ℕ) → on (row_of s l) k ≡ member (span l (k + 1)) s
row_on n {s} fits listed l k =
    let p : ℕ → Bool = λ k. member (span l (k + 1)) s in
    by_cases (dec_lt k bits) (λ u. on_word p k u)
    (λ u. on-high (row_of s l) k (word_lt p) (omega arith) ∙ sym (fails (p k) (λ m. omega (arith, right_lines, listed-lines n s listed (span l (k + 1)) m))))

pub row-end : (n : ℕ) {s : List Span} → n ≤ side → Listed n s → (l r : ℕ) → 0 < r → on (row_of s l) (r - 1) ≡ member (span l r) s
row-end n {s} fits listed l r h =
    let e : r - 1 + 1 ≡ r = omega arith in
    row_on n fits listed l (r - 1) ∙ ap (λ z. member (span l z) s) e

-- a set over lines within the limit is what its table holds
module _ (n : ℕ) (s : List Span) (fits : n ≤ side) (listed : Listed n s) where
  pub set-table : set_of n (table_of s) ≡ s
  unfolding set_of
  set-table =
      select-same n (λ i. on (get_or (table_of s) i.left 0) (i.right - 1)) (λ i. member i s)
      (λ i l r.
      ap (λ w. on w (i.right - 1)) (table-row s i.left (omega arith)) ∙ row-end n fits listed i.left i.right (omega arith))
      ∙ sym listed

  pub tabled : Tabled n (table_of s)
  tabled = record { fits = fits; whole = ap table_of (sym set-table) }

  -- what a function leaves as the table of a set: it is one, and holds that set
  pub left_as : {t : List ℕ} → t ≡ table_of s → Tabled n t × (set_of n t ≡ s)
  left_as e = (subst⁻¹ (Tabled n) e tabled, ap (set_of n) e ∙ set-table)

  -- the same by a last line that is this one
  pub left_to : {t : List ℕ} {m : ℕ} → m ≡ n → t ≡ table_of s → set_of m t ≡ s
  left_to p e = (λ i. set_of (p i) (e i)) ∙ set-table

module _ {n : ℕ} {t : List ℕ} (T : Tabled n t) where
  pub tabled-length : length t ≡ side
  tabled-length = ap length T.whole ∙ table-length (set_of n t)

  pub tabled-row : (l : ℕ) → l < side → get_or t l 0 ≡ row_of (set_of n t) l
  tabled-row l h = ap (λ u. get_or u l 0) T.whole ∙ table-row (set_of n t) l h

  pub tabled-on : (l k : ℕ) → l < side → on (get_or t l 0) k ≡ member (span l (k + 1)) (set_of n t)
  tabled-on l k h = ap (λ w. on w k) (tabled-row l h) ∙ row_on n T.fits (set-listed n t) l k

  -- a line at which no interval begins
  pub row-none : (l : ℕ) → n ≤ l → 0 ≡ row_of (set_of n t) l
  row-none l h =
      word_bits (omega arith)
      (λ k u. on-zero k ∙ sym (fails (member (span l (k + 1)) (set_of n t)) (λ m. omega (arith, listed-lines n (set_of n t) (set-listed n t) (span l (k + 1)) m))))

-- the test for an interval over the lines 0 to n
pub within-lines : (n : ℕ) (i : Span) → (proper i && leb i.right n) ≡ true → (i.left < i.right) × (i.right ≤ n)
within-lines n i t =
    (proper-lines i (and_left (proper i) (leb i.right n) t), leb-true i.right n (and_right (proper i) (leb i.right n) t))

pub within_none : (n : ℕ) (i : Span) → (proper i && leb i.right n) ≡ false → (i.left < i.right) × (i.right ≤ n) → ⊥
within_none n i f w = never (and_both (proper i) (leb i.right n) (lines-proper i w.0) (le-leb i.right n w.1)) f

-- membership by that test and the bit
pub has-bit : (n : ℕ) (t : List ℕ) (i : Span) → (proper i && leb i.right n) ≡ true → on (get_or t i.left 0) (i.right - 1) ≡ member i (set_of n t)
has-bit n t i w = sym (member-set n t i ∙ rw w)

pub has-none : (n : ℕ) (t : List ℕ) (i : Span) → (proper i && leb i.right n) ≡ false → false ≡ member i (set_of n t)
has-none n t i w = sym (member-set n t i ∙ rw w)

-- what is no interval over the lines is none of them
apart : {n : ℕ} {i : Span} → ((i.left < i.right) × (i.right ≤ n) → ⊥) → (j : Span) → j.left < j.right → j.right ≤ n → same i j ≡ false
apart {n} {i} h j l r =
    fails (same i j)
    (λ q.
    let e = same_path i j q in
    h (omega (arith, ap (λ (k : Span). k.left) e, ap (λ (k : Span). k.right) e)))

-- a set with one interval changed: there it is as it was told, and elsewhere as it was
module _ (n : ℕ) (i : Span) (b : Bool) (s : List Span) where
  pub changed-listed : Listed n (changed n i b s)
  unfolding changed
  changed-listed = select-listed n (λ j. cond (same i j) b (member j s))

  pub changed-here : i.left < i.right → i.right ≤ n → member i (changed n i b s) ≡ b
  unfolding changed
  changed-here l r =
      member-select n (λ j. cond (same i j) b (member j s)) i ∙ rw (lines-proper i l, le-leb i.right n r, path_same i i refl)

  pub changed-other : Listed n s → (j : Span) → (i ≡ j → ⊥) → member j (changed n i b s) ≡ member j s
  unfolding changed
  changed-other listed j h =
      let e = fails (same i j) (λ q. h (same_path i j q)) in
      agree (member j (changed n i b s)) (member j s)
      (λ t. rw e at (and_right (proper j && leb j.right n) (cond (same i j) b (member j s)) (sym (member-select n (λ j. cond (same i j) b (member j s)) j) ∙ t)))
      (λ m.
      let w = listed-lines n s listed j m in
      member-select n (λ j. cond (same i j) b (member j s)) j ∙ rw (lines-proper j w.0, le-leb j.right n w.1, e) m)

  -- what is no interval over the lines changes nothing
  pub changed-none : Listed n s → ((i.left < i.right) × (i.right ≤ n) → ⊥) → s ≡ changed n i b s
  unfolding changed
  changed-none listed h =
      listed ∙ select-same n (λ j. member j s) (λ j. cond (same i j) b (member j s)) (λ j l r. rw (apart h j l r))

module _ {n : ℕ} {t : List ℕ} (T : Tabled n t) where
  -- one word written
  pub set-row : (l w : ℕ) (s : List Span) → l < side → w < 2 ^ bits → ((k : ℕ) → on w k ≡ member (span l (k + 1)) s)
      → ((j : Span) → (j.left ≡ l → ⊥) → member j s ≡ member j (set_of n t)) → set t l w ≡ table_of s
  set-row l w s h small here other =
      let size = tabled-length T in
      is-table s (set t l w) (length-set t l w ∙ size)
      (λ m u.
      by_cases (ℕ_discrete m l)
      (λ e. rw e (get_or-set_same t l w 0 (omega arith) ∙ word_bits small (λ k v. here k)))
      (λ e.
      get_or-set_other t l m w 0 e
      ∙ tabled-row T m u
      ∙ ap word_of (fun_ext (λ k. sym (other (span m (k + 1)) e)))))

  pub change_row : (i : Span) (b : Bool) (w : ℕ) → i.left < i.right → i.right ≤ n → w < 2 ^ bits
      → ((k : ℕ) → on w k ≡ cond (eqb k (i.right - 1)) b (on (get_or t i.left 0) k)) → set t i.left w ≡ table_of (changed n i b (set_of n t))
  change_row i b w l r small told =
      let fits = T.fits in
      set-row i.left w (changed n i b (set_of n t)) (omega arith) small
      (λ k. told k ∙ here k)
      (λ j d. changed-other n i b (set_of n t) (set-listed n t) j (λ e. d (sym (ap (λ (x : Span). x.left) e))))
    where
      here : (k : ℕ) → cond (eqb k (i.right - 1)) b (on (get_or t i.left 0) k) ≡ member (span i.left (k + 1)) (changed n i b (set_of n t))
      here k =
          let fits = T.fits in
          by_cases (ℕ_discrete k (i.right - 1))
          (λ e.
          let q : k + 1 ≡ i.right = omega arith in
          rw (eq-eqb k (i.right - 1) e) (sym (ap (λ r. member (span i.left r) (changed n i b (set_of n t))) q ∙ changed-here n i b (set_of n t) l r)))
          (λ e.
          rw (ne_eqb k (i.right - 1) e)
          (tabled-on T i.left k (omega arith)
          ∙ sym (changed-other n i b (set_of n t) (set-listed n t) (span i.left (k + 1)) (λ q. e (omega (arith, ap (λ (x : Span). x.right) q))))))

  pub change_none : (i : Span) (b : Bool) → ((i.left < i.right) × (i.right ≤ n) → ⊥) → t ≡ table_of (changed n i b (set_of n t))
  change_none i b h = T.whole ∙ ap table_of (changed-none n i b (set_of n t) (set-listed n t) h)

-- no interval is a set over any lines
pub empty-listed : (n : ℕ) → Listed n []
empty-listed n = sym (keep-none (λ i. false) (every n) (λ i m. refl))

-- the table of no interval
pub empty-table : (m : ℕ) → m ≡ side → replicate m 0 ≡ table_of []
empty-table m e =
    is-table [] (replicate m 0) (length-replicate m 0 ∙ e)
    (λ l h. get_or-replicate m l 0 0 (omega arith) ∙ word_bits (omega arith) (λ k u. on-zero k))
