-- A row's bytes taken one after the other, and the rows one after the other: each step's law.
-- By the laws of a room that is filled; the row's byte is the raster's. `take_row` and `take_rows` use it.
use mathlib.Core.Path.{◌≡◌, refl, sym, ap, ap₂, subst, ◌∙◌}
use mathlib.Core.Bool.{Bool, true, false, cond}
use mathlib.Core.List.{List}
use mathlib.Core.Logic.{by_cases}
use Prim.Native.Nat.{ℕ, ◌+◌, ◌-◌, ◌*◌, ◌≤◌, ◌<◌}
use native.Mathlib.Decide.{ℕ_discrete, dec_lt}
use native.Mathlib.Nat.{suc-mul, mul_comm, mul-le-mul_right}
use native.Mathlib.Numerals.{add-one}
use native.Mathlib.Omega.{arith}
use lib.Dec.{eqb, ltb}
use lib.ListN.{length, get_or, set, take, drop, length-drop}
use lib.Seq.{get_or-take, get_or-drop, length-take-le}
use borrow.Author.Tests.{lt-ltb, le-ltb}
use Rattle.grid.specs.Limits.{side}
use Rattle.grid.specs.Raster.{area_of, byte_at}
use Rattle.columns.specs.Columns.{Bare, Filled}
use Rattle.columns.specs.Code.{fits, bottom_after, end_after, RowTaken, end_to, bottom_to, RowsTaken}
use Rattle.columns.proofs.Filling.{filled_in, filled_none, filled_next, filled_as, filled-again, filled_out}

module _ (y : ℕ) (row bottoms ends : List ℕ) where
  -- before the row's first byte
  pub row-none : (n : ℕ) → n ≡ 0 → RowTaken y row n bottoms ends 0 bottoms ends
  row-none n e = record {
    few = omega arith;
    fit = λ z c l. absurd (omega arith);
    low = filled_none _ bottoms n e;
    high = filled_none _ ends n e;
  }

  zero_one : (b : Bool) {m s : ℕ} → s ≡ m + cond b 0 1 → s ≡ 0 → (m ≡ 0) × (b ≡ true)
  zero_one true e z = (omega arith, refl)
  zero_one false e z = absurd (omega arith)

  at_most_one : (b : Bool) → cond b 0 1 ≤ 1
  at_most_one true = omega arith
  at_most_one false = omega arith

  module _ {n m : ℕ} {bottoms' ends' : List ℕ} (R : RowTaken y row n bottoms ends m bottoms' ends') where
    -- the end and the bottom of the next column are still those of the row below
    pub end-still : get_or ends' n 0 ≡ get_or ends n 0
    end-still = filled_out R.high n (omega arith)

    pub bottom-still : get_or bottoms' n 0 ≡ get_or bottoms n 0
    bottom-still = filled_out R.low n (omega arith)

    -- one byte more
    pub row_next : (s u v : ℕ) → n < length bottoms' → n < length ends' → s ≡ m + cond (fits y (get_or row n 0) (get_or ends' n 0)) 0 1
        → u ≡ bottom_after y (get_or row n 0) (get_or ends' n 0) (get_or bottoms' n 0) → v ≡ end_after y (get_or row n 0) (get_or ends' n 0)
        → RowTaken y row (n + 1) bottoms ends s (set bottoms' n u) (set ends' n v)
    row_next s u v lb le es eu ev =
        let byte = get_or row n 0 in
        let f : s ≡ m + cond (fits y byte (get_or ends n 0)) 0 1 = es ∙ ap (λ z. m + cond (fits y byte z) 0 1) end-still in
        record {
          few = omega (arith, R.few, at_most_one (fits y byte (get_or ends n 0)));
          fit = λ z c l.
              let k = zero_one (fits y byte (get_or ends n 0)) f z in
              by_cases (ℕ_discrete c n) (λ q. ap (λ j. fits y (get_or row j 0) (get_or ends j 0)) q ∙ k.1) (λ d. R.fit k.0 c (omega arith));
          low =
              filled_next n (λ c. bottom_after y (get_or row c 0) (get_or ends c 0) (get_or bottoms c 0)) bottoms bottoms' u lb
              (eu ∙ ap₂ (bottom_after y byte) end-still bottom-still) R.low;
          high = filled_next n (λ c. end_after y (get_or row c 0) (get_or ends c 0)) ends ends' v le (ev ∙ ap (end_after y byte) end-still) R.high;
        }

pub row-all : {y n k m : ℕ} {row bottoms ends bottoms' ends' : List ℕ} → n ≡ k → RowTaken y row n bottoms ends m bottoms' ends'
    → RowTaken y row k bottoms ends m bottoms' ends'
row-all {y} {n} {k} {m} {row} {bottoms} {ends} {bottoms'} {ends'} e = subst (λ z. RowTaken y row z bottoms ends m bottoms' ends') e

-- row y of a raster
abbrev pub row_of : ℕ → ℕ → List ℕ → List ℕ
row_of w y bytes = take w (drop (y * w) bytes)

-- row y lies in the raster
pub row_inside : (w h y : ℕ) → y < h → y * w + w ≤ w * h
row_inside w h y l = omega (arith, suc-mul y w, mul-le-mul_right w l, mul_comm h w)

-- row y as the code takes it, from where it begins to where it ends
pub row-slice : (w y : ℕ) (bytes : List ℕ) → take (y * w + w - y * w) (drop (y * w) bytes) ≡ row_of w y bytes
row-slice w y bytes = let n : y * w + w - y * w ≡ w = omega arith in ap (λ k. take k (drop (y * w) bytes)) n

pub row-long : (w h y : ℕ) (bytes : List ℕ) → length bytes ≡ w * h → y < h → length (take (y * w + w - y * w) (drop (y * w) bytes)) ≡ w
row-long w h y bytes full l =
    ap length (row-slice w y bytes) ∙ length-take-le w (drop (y * w) bytes) (omega (arith, full, row_inside w h y l, length-drop (y * w) bytes))

module _ (w h : ℕ) (bytes bottoms ends : List ℕ) where
  -- before the first row
  pub rows_none : Bare w bottoms → Bare w ends → (y : ℕ) → y ≡ 0 → RowsTaken w h bytes y bottoms ends 0 bottoms ends
  unfolding end_to bottom_to
  rows_none b e y q = rw q (record {
    few = omega arith;
    fit = λ z r c l u. absurd (omega arith);
    low = bare-filled bottoms b;
    high = bare-filled ends e;
  })
    where
      bare-filled : (xs : List ℕ) → Bare w xs → Filled w (λ c. 0) xs xs
      bare-filled xs n = record { each = λ c. by_cases (dec_lt c w) (λ l. rw (lt-ltb c w l) (n c l)) (λ l. same c l); as_long = refl }
        where
          same : (c : ℕ) → (c < w → ⊥) → get_or xs c 0 ≡ cond (ltb c w) 0 (get_or xs c 0)
          same c l = ap (λ b. cond b 0 (get_or xs c 0)) (sym (le-ltb c w (omega arith)))

  -- the part of the raster that is row y
  part_byte : (y c : ℕ) → c < w → get_or (row_of w y bytes) c 0 ≡ byte_at w bytes c y
  part_byte y c l = get_or-take w (drop (y * w) bytes) c 0 l ∙ get_or-drop (y * w) bytes c 0

  abbrev copper : ℕ → ℕ → Bool
  copper = area_of w h bytes

  copper_byte : (y c : ℕ) → c < w → y < h → copper c y ≡ eqb (byte_at w bytes c y) 1
  copper_byte y c l u = rw (lt-ltb c w l, lt-ltb y h u)

  -- one row more
  module _ {y m : ℕ} {bottoms' ends' : List ℕ} (R : RowsTaken w h bytes y bottoms ends m bottoms' ends') (u : y < h) where
    module _ {row : List ℕ} (is : row ≡ row_of w y bytes) where
      row_byte : (c : ℕ) → c < w → get_or row c 0 ≡ byte_at w bytes c y
      row_byte c l = ap (λ z. get_or z c 0) is ∙ part_byte y c l

      end_rule : (c : ℕ) → c < w → end_after y (get_or row c 0) (get_or ends' c 0) ≡ end_to copper (y + 1) c
      unfolding end_to
      end_rule c l = rw (add-one y, copper_byte y c l u, row_byte c l, filled_in R.high c l)

      bottom_rule : (c : ℕ) → c < w → bottom_after y (get_or row c 0) (get_or ends' c 0) (get_or bottoms' c 0) ≡ bottom_to copper (y + 1) c
      unfolding bottom_to
      bottom_rule c l = rw (add-one y, copper_byte y c l u, row_byte c l, filled_in R.high c l, filled_in R.low c l)

      pub rows_next : {k s : ℕ} {bottoms'' ends'' : List ℕ} → RowTaken y row w bottoms' ends' k bottoms'' ends'' → w ≤ side → s ≡ m + k
          → RowsTaken w h bytes (y + 1) bottoms ends s bottoms'' ends''
      rows_next {k} {s} T narrow e = record {
        few = omega (arith, T.few, R.few);
        fit = λ z r c v l.
            by_cases (ℕ_discrete r y)
            (λ q. ap (λ j. fits j (byte_at w bytes c j) (end_to copper j c)) q
            ∙ sym (ap₂ (fits y) (row_byte c l) (filled_in R.high c l))
            ∙ T.fit (omega arith) c l)
            (λ d. R.fit (omega arith) r c (omega arith) l);
        low = filled-again w _ _ R.low (filled_as w _ _ bottom_rule T.low);
        high = filled-again w _ _ R.high (filled_as w _ _ end_rule T.high);
      }

pub rows_all : {w h y k m : ℕ} {bytes bottoms ends bottoms' ends' : List ℕ} → y ≡ k → RowsTaken w h bytes y bottoms ends m bottoms' ends'
    → RowsTaken w h bytes k bottoms ends m bottoms' ends'
rows_all {w} {h} {y} {k} {m} {bytes} {bottoms} {ends} {bottoms'} {ends'} e = subst (λ z. RowsTaken w h bytes z bottoms ends m bottoms' ends') e
