-- The checks of a job: what passes them all is a job whose text fits the room, and such a job passes.
-- By the chain's laws; bytes are all 0 or 1 exactly where no square is found that is not.
-- The proof of `keekaboor_write_job` and the round trips cite them.
use mathlib.Core.Path.{◌≡◌, refl, ap}
use mathlib.Core.Bool.{true}
use mathlib.Core.List.{List, [], ◌∷◌}
use mathlib.Core.Option.{Option, none, some}
use Prim.Native.Nat.{ℕ, zero, suc, ◌*◌, ◌≤◌, ◌<◌}
use native.Mathlib.Omega.{arith}
use lib.Dec.{leb, ltb}
use lib.ListN.{length, get_or}
use borrow.Author.Tests.{le-leb, leb-true, ltb-false, le-ltb, eq-eqb, eqb-true}
use Rattle.lists.specs.Lists.{up_to}
use Rattle.lists.proofs.Truth.{and_left, and_right, and_both}
use Rattle.lists.proofs.Members.{first-none, none_first}
use Rattle.lists.proofs.Ranges.{in_from, from_in}
use Rattle.grid.specs.Limits.{allowance_limit}
use Rattle.grid.specs.Answers.{done, size_out, raster_length, text_room_short, allowance_out, bad_byte}
use Rattle.grid.specs.Raster.{size_fits, length_fits, first_bad, in_raster, bad_square}
use Rattle.grid.proofs.Chain.{Passes, chain-passed, passed-chain, check-passed, passed-check, check_at-passed, passed-check_at}
use Rattle.job.specs.JobText.{IsJob, text_room}
use Rattle.job.specs.Writing.{write_checks, checked}
use Rattle.job.proofs.Row.{squares?}
use Rattle.job.proofs.Judging.{sides, sides-fit}

-- bytes that are all 0 or 1
all-at : (bytes : List ℕ) → ((i : ℕ) → i < length bytes → get_or bytes i 0 ≤ 1) → squares? bytes ≡ true
all-at [] f = refl
all-at (b ∷ bytes) f = and_both (leb b 1) (squares? bytes) (le-leb b 1 (f 0 (omega arith))) (all-at bytes (λ i h. f (suc i) (omega arith)))

at_all : (bytes : List ℕ) → squares? bytes ≡ true → (i : ℕ) → i < length bytes → get_or bytes i 0 ≤ 1
at_all [] a i h = absurd (omega arith)
at_all (b ∷ bytes) a zero h = leb-true b 1 (and_left (leb b 1) (squares? bytes) a)
at_all (b ∷ bytes) a (suc i) h = at_all bytes (and_right (leb b 1) (squares? bytes) a) i (omega arith)

no_bad : (w : ℕ) (bytes : List ℕ) → bad_square w bytes ≡ none → squares? bytes ≡ true
unfolding first_bad
no_bad w bytes e =
    all-at bytes
    (λ i h.
    ltb-false 1 (get_or bytes i 0)
    (first-none (λ i. ltb 1 (get_or bytes i 0)) (up_to (length bytes)) (nowhere (first_bad bytes) e) (in_from 0 (length bytes) i (omega arith) (omega arith))))
  where
    nowhere : (x : Option ℕ) → in_raster w x ≡ none → x ≡ none
    nowhere none e = refl
    nowhere (some i) e = let z : ◌≡◌ {A = ℕ} 0 1 = cc in absurd (omega arith)

bad-none : (w : ℕ) (bytes : List ℕ) → squares? bytes ≡ true → bad_square w bytes ≡ none
unfolding first_bad
bad-none w bytes a =
    ap (in_raster w)
    (none_first (λ i. ltb 1 (get_or bytes i 0)) (up_to (length bytes))
    (λ i m. let r = from_in 0 (length bytes) m in le-ltb 1 (get_or bytes i 0) (at_all bytes a i (omega arith))))

module _ (w h k : ℕ) (raster : List ℕ) (room : ℕ) where
  -- a job that is not refused, and that it is then not refused
  pub checked_job : Passes (checked w h k raster room) → (text_room ≤ room) × IsJob w h k raster
  unfolding checked
  checked_job p =
      let all = chain-passed (write_checks w h k raster room) p in
      let s = sides w h (check-passed (size_fits w h) 0 all.0) in (
        leb-true text_room room (check-passed (leb text_room room) 4 all.1.1.0),
        record {
          wide = s.wide;
          narrow = s.narrow;
          tall = s.tall;
          low = s.low;
          allowed = leb-true k allowance_limit (check-passed (leb k allowance_limit) 5 all.1.1.1.0);
          full = eqb-true (length raster) (w * h) (check-passed (length_fits w h (length raster)) 1 all.1.0);
          squares = no_bad w raster (check_at-passed (bad_square w raster) 6 all.1.1.1.1.0);
        },
      )

  pub job_checked : text_room ≤ room → IsJob w h k raster → checked w h k raster room ≡ done
  unfolding checked
  job_checked holds j =
      passed-chain (write_checks w h k raster room) (
        passed-check (size_fits w h) size_out (sides-fit w h (record { wide = j.wide; narrow = j.narrow; tall = j.tall; low = j.low })),
        (
          passed-check (length_fits w h (length raster)) raster_length (eq-eqb (length raster) (w * h) j.full),
          (
            passed-check (leb text_room room) text_room_short (le-leb text_room room holds),
            (
              passed-check (leb k allowance_limit) allowance_out (le-leb k allowance_limit j.allowed),
              (passed-check_at (bad_square w raster) bad_byte (bad-none w raster j.squares), tt),
            ),
          ),
        ),
      )
