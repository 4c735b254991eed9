-- The checks, in document 01's order: a call is refused by the first that fails and changes nothing, and what passes them all is what demand 3 asks for.
-- By the chain's elimination law; only here does a proof know which checks there are. All three demands use it.
use mathlib.Core.Path.{◌≡◌, refl, sym, ap, subst, ◌∙◌}
use mathlib.Core.Bool.{true}
use mathlib.Core.List.{List, [], ◌∷◌, ◌++◌}
use mathlib.Core.Logic.{◌⊎◌, ⊎_elim}
use mathlib.Core.Option.{none}
use Prim.Native.Nat.{ℕ, ◌*◌, ◌≤◌, ◌<◌}
use native.Mathlib.Omega.{arith}
use lib.Dec.{leb, ltb}
use lib.ListN.{length, get_or}
use borrow.Author.Tests.{leb-true, eqb-true, ltb-false, le-leb, le-ltb, eq-eqb}
use Rattle.lists.proofs.Truth.{ocase, missing, and_left, and_right, and_both}
use Rattle.lists.proofs.Searches.{first-nowhere, first-missed}
use Rattle.grid.specs.Limits.{side, allowance_limit, flash_room_size, mark_room_size}
use Rattle.grid.specs.Answers.{done, check_at, first_refusal, size_out, raster_length, flash_room_short, mark_room_short, allowance_out, bad_byte, broken_column, allowance_short}
use Rattle.grid.specs.Raster.{side_fits, size_fits, length_fits, first_bad, in_raster, bad_square, broken_square, area_of}
use Rattle.grid.specs.declared.answers.Answer.{Answer}
use Rattle.grid.proofs.Broken.{raster-unbroken}
use Rattle.grid.proofs.Chain.{Passes, Each, chain, passed-chain, chain-passed, chain_skip, check-passed, passed-check, check_at-passed, passed-check_at, check-low, check_at-low}
use Rattle.cover.specs.Cover.{Given, refused_at, cover_checks, or_work, answered, cover_gives}
use Rattle.cover.specs.Code.{size_checks}
use Rattle.cover.specs.Demand3.{Asked}
use Rattle.cover.proofs.Refusals.{refuses, works}

-- the tests of size and bytes, in numbers
side-fits : (n : ℕ) → (1 ≤ n) × (n ≤ side) → side_fits n ≡ true
side-fits n h = and_both (leb 1 n) (leb n side) (le-leb 1 n h.0) (le-leb n side h.1)

pub fits-side : (n : ℕ) → side_fits n ≡ true → (1 ≤ n) × (n ≤ side)
fits-side n t = (leb-true 1 n (and_left (leb 1 n) (leb n side) t), leb-true n side (and_right (leb 1 n) (leb n side) t))

bytes_good : (w : ℕ) (raster : List ℕ) → ((i : ℕ) → i < length raster → get_or raster i 0 ≤ 1) → bad_square w raster ≡ none
unfolding first_bad
bytes_good w raster h = ap (in_raster w) (first-nowhere (λ i. ltb 1 (get_or raster i 0)) 0 (length raster) (λ i l u. le-ltb 1 (get_or raster i 0) (h i (omega arith))))

good-bytes : (w : ℕ) (raster : List ℕ) → bad_square w raster ≡ none → (i : ℕ) → i < length raster → get_or raster i 0 ≤ 1
unfolding first_bad
good-bytes w raster e i u =
    ocase (first_bad raster)
    (λ o. ltb-false 1 (get_or raster i 0) (first-missed (λ k. ltb 1 (get_or raster k 0)) 0 (length raster) o i (omega arith) (omega arith)))
    (λ k o. absurd (missing e (ap (in_raster w) o)))

-- what passes the first checks, in numbers
pub record Passed (w h k n f m : ℕ) : Type 0 where
  pub wide : (1 ≤ w) × (w ≤ side)
  pub tall : (1 ≤ h) × (h ≤ side)
  pub full : n ≡ w * h
  pub flash_room : flash_room_size ≤ f
  pub mark_room : mark_room_size ≤ m
  pub allowance : k ≤ allowance_limit

pub sizes-passed : (w h k n f m : ℕ) → Each Passes (size_checks w h k n f m) → Passed w h k n f m
sizes-passed w h k n f m all =
    let both = check-passed (size_fits w h) 0 all.0 in
    record {
      wide = fits-side w (and_left (side_fits w) (side_fits h) both);
      tall = fits-side h (and_right (side_fits w) (side_fits h) both);
      full = eqb-true n (w * h) (check-passed (length_fits w h n) 1 all.1.0);
      flash_room = leb-true flash_room_size f (check-passed (leb flash_room_size f) 2 all.1.1.0);
      mark_room = leb-true mark_room_size m (check-passed (leb mark_room_size m) 3 all.1.1.1.0);
      allowance = leb-true k allowance_limit (check-passed (leb k allowance_limit) 5 all.1.1.1.1.0);
    }

-- what passes all checks but the last
module _ (w h k : ℕ) (raster f m : List ℕ) (wide : (1 ≤ w) × (w ≤ side)) (high : (1 ≤ h) × (h ≤ side)) (full : length raster ≡ w * h)
    (bytes : (i : ℕ) → i < length raster → get_or raster i 0 ≤ 1) (allowance : k ≤ allowance_limit)
    (flashes-fit : flash_room_size ≤ length f) (marks-fit : mark_room_size ≤ length m) where
  before_last : Each Passes (size_checks w h k (length raster) (length f) (length m) ++ (check_at (bad_square w raster) bad_byte ∷ []))
  before_last = (
    passed-check (size_fits w h) size_out (and_both (side_fits w) (side_fits h) (side-fits w wide) (side-fits h high)),
    (
      passed-check (length_fits w h (length raster)) raster_length (eq-eqb (length raster) (w * h) full),
      (
        passed-check (leb flash_room_size (length f)) flash_room_short (le-leb flash_room_size (length f) flashes-fit),
        (
          passed-check (leb mark_room_size (length m)) mark_room_short (le-leb mark_room_size (length m) marks-fit),
          (
            passed-check (leb k allowance_limit) allowance_out (le-leb k allowance_limit allowance),
            (
              passed-check_at (bad_square w raster) bad_byte (bytes_good w raster bytes),
              tt,
            ),
          ),
        ),
      ),
    ),
  )

  pub checked : cover_gives w h k raster f m
      ≡ or_work (first_refusal (check_at (broken_square (area_of w h raster) w h) broken_column ∷ [])) f m (answered (area_of w h raster) w h k f m)
  unfolding cover_gives
  checked =
      ap (λ a. or_work a f m (answered (area_of w h raster) w h k f m))
      (chain_skip (size_checks w h k (length raster) (length f) (length m) ++ (check_at (bad_square w raster) bad_byte ∷ [])) _ before_last)

module _ (w h k : ℕ) (raster f m : List ℕ) where
  -- what passes every check is what demand 3 asks for, and it does pass
  passes-asked : Each Passes (cover_checks w h k raster f m) → Asked w h k raster f m
  passes-asked all =
      let p = sizes-passed w h k (length raster) (length f) (length m) (all.0, (all.1.0, (all.1.1.0, (all.1.1.1.0, (all.1.1.1.1.0, tt))))) in
      let later = all.1.1.1.1.1 in
      record {
        wide = p.wide;
        high = p.tall;
        full = p.full;
        bytes = good-bytes w raster (check_at-passed (bad_square w raster) 6 later.0);
        unbroken = (raster-unbroken w h raster).0 (check_at-passed (broken_square (area_of w h raster) w h) 7 later.1.0);
        allowance = p.allowance;
        flashes-fit = p.flash_room;
        marks-fit = p.mark_room;
      }

  pub done-asked : done ≡ first_refusal (cover_checks w h k raster f m) → Asked w h k raster f m
  done-asked e = passes-asked (chain-passed (cover_checks w h k raster f m) (sym (ap (λ (a : Answer). a.number) e)))

  pub asked-answered : Asked w h k raster f m → cover_gives w h k raster f m ≡ answered (area_of w h raster) w h k f m
  asked-answered q =
      let last : Each Passes (check_at (broken_square (area_of w h raster) w h) broken_column ∷ []) =
      (passed-check_at (broken_square (area_of w h raster) w h) broken_column ((raster-unbroken w h raster).1 q.unbroken), tt) in
      checked w h k raster f m q.wide q.high q.full q.bytes q.allowance q.flashes-fit q.marks-fit
      ∙ ap (λ a. or_work a f m (answered (area_of w h raster) w h k f m)) (passed-chain _ last)
      ∙ works done f m _ refl

  -- every call is refused without a change, or passes them all
  pub outcomes : (P : Given → Type 0) → ((n x y : ℕ) → 1 ≤ n → n ≤ 8 → P (refused_at n x y f m))
      → (Asked w h k raster f m → P (answered (area_of w h raster) w h k f m)) → P (cover_gives w h k raster f m)
  unfolding cover_gives
  outcomes P refused passed =
      chain (λ a. P (or_work a f m (answered (area_of w h raster) w h k f m))) (cover_checks w h k raster f m) (
        refuse _ (check-low (size_fits w h) size_out 8 (omega arith)),
        (
          refuse _ (check-low (length_fits w h (length raster)) raster_length 8 (omega arith)),
          (
            refuse _ (check-low (leb flash_room_size (length f)) flash_room_short 8 (omega arith)),
            (
              refuse _ (check-low (leb mark_room_size (length m)) mark_room_short 8 (omega arith)),
              (
                refuse _ (check-low (leb k allowance_limit) allowance_out 8 (omega arith)),
                (
                  refuse _ (check_at-low (bad_square w raster) bad_byte 8 (omega arith)),
                  (
                    refuse _ (check_at-low (broken_square (area_of w h raster) w h) broken_column 8 (omega arith)),
                    tt,
                  ),
                ),
              ),
            ),
          ),
        ),
      )
      (λ all. subst P (sym (works done f m _ refl)) (passed (passes-asked all)))
    where
      refuse : (a : Answer) → a.number ≤ 8 → (Passes a → ⊥) → P (or_work a f m (answered (area_of w h raster) w h k f m))
      refuse a low n = subst P (sym (refuses a f m _ n)) (refused a.number a.x a.y (omega arith) low)

-- so answers 0 and 9 are given only to what demand 3 asks for, and every other number by its check
pub answered-asked : (w h k : ℕ) (raster f m : List ℕ) → ((cover_gives w h k raster f m).outcome.answer ≡ 0) ⊎ ((cover_gives w h k raster f m).outcome.answer ≡ allowance_short)
    → Asked w h k raster f m
answered-asked w h k raster f m =
    outcomes w h k raster f m (λ g. (g.outcome.answer ≡ 0) ⊎ (g.outcome.answer ≡ allowance_short) → Asked w h k raster f m)
    (λ n x y l u o. ⊎_elim (λ e. absurd (omega arith)) (λ e. absurd (omega arith)) o)
    (λ q o. q)
