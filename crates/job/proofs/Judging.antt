-- The checks of a text: what each part of the chain answers, and what a text that passes them all has shown.
-- By the chain's laws. The proof of `keekaboor_read_job` and the round trips cite them.
use Rattle.std.proofs.Common.{Err, None, Ok, Option, Result, Some}
use Rattle.grid.specs.declared.answers.Refusal.{Refusal}
use Rattle.job.specs.declared.lines.Shape.{Shape}
use Rattle.job.proofs.Shape.{line1}
use Rattle.std.specs.Result.{IsErrAnd}
use mathlib.Core.Path.{◌≡◌, refl, ap, ◌∙◌}
use mathlib.Core.Bool.{true}
use mathlib.Core.List.{List}
use Prim.Native.Nat.{ℕ, ◌≤◌, ◌<◌}
use native.Mathlib.Omega.{arith}
use native.Mathlib.Nat.{mul-le-mul}
use lib.Dec.{leb}
use lib.ListN.{length}
use borrow.Author.Tests.{le-leb, lt-leb, leb-true, eq-eqb, ne_eqb}
use Rattle.lists.proofs.Truth.{and_left, and_right, and_both}
use Rattle.grid.specs.Limits.{side, allowance_limit, raster_room}
use Rattle.grid.specs.Answers.{refused, first_refusal, answered, size_out, allowance_out, text_long, raster_room_short}
use Rattle.grid.specs.Raster.{side_fits, size_fits}
use Rattle.grid.specs.declared.answers.Answer.{Answer}
use Rattle.grid.specs.declared.raster.Job.{Job}
use Rattle.grid.proofs.Chain.{Passes, pcase, chain-passed, passed-chain, check-goes-on, check-stops, check-passed, passed-check}
use Rattle.grid.proofs.Refusals.{refuses}
use Rattle.job.specs.JobText.{text_room}
use Rattle.job.specs.Reading.{shape_at, rows_from, shape_job, shape_next, check_shape, read_checks, judged_by, judged, Copies}

-- what a `?` answers where it refuses
pub was_refused : {A B : Type 0} (x : Result A Refusal) {r s : Refusal} → IsErrAnd x (λ q. q ≡ r) → ◌≡◌ {A = Result B Refusal} (Err r) (Err s) → x ≡ Err s
was_refused (Ok t) e f = absurd e
was_refused (Err q) {r} {s} e f = let g : r ≡ s = cc in ap Err (e ∙ g)

-- a size that fits, side by side
pub record Sides (w h : ℕ) : Type 0 where
  pub wide : 1 ≤ w
  pub narrow : w ≤ side
  pub tall : 1 ≤ h
  pub low : h ≤ side

pub sides : (w h : ℕ) → size_fits w h ≡ true → Sides w h
sides w h e =
    let a = and_left (side_fits w) (side_fits h) e in
    let b = and_right (side_fits w) (side_fits h) e in
    record {
      wide = leb-true 1 w (and_left (leb 1 w) (leb w side) a);
      narrow = leb-true w side (and_right (leb 1 w) (leb w side) a);
      tall = leb-true 1 h (and_left (leb 1 h) (leb h side) b);
      low = leb-true h side (and_right (leb 1 h) (leb h side) b);
    }

pub sides-fit : (w h : ℕ) → Sides w h → size_fits w h ≡ true
sides-fit w h s =
    and_both (side_fits w) (side_fits h)
    (and_both (leb 1 w) (leb w side) (le-leb 1 w s.wide) (le-leb w side s.narrow))
    (and_both (leb 1 h) (leb h side) (le-leb 1 h s.tall) (le-leb h side s.low))

-- a text that is too long is refused before its lines are judged
pub long-text : (t : List ℕ) (room : ℕ) → raster_room ≤ room → text_room < length t → judged t room ≡ Err (refused text_long)
unfolding judged
long-text t room h l =
    let e : first_refusal (read_checks t room) ≡ refused text_long =
    check-goes-on (leb raster_room room) raster_room_short _ (le-leb raster_room room h) ∙ check-stops (leb (length t) text_room) 9 _ (lt-leb (length t) text_room l) in
    rw e

-- What a text that is not refused has shown, and that it is then not refused.
pub record Judgement (t : List ℕ) (room : ℕ) (job : Job) (spot : ℕ) : Type 0 where
  pub holds : raster_room ≤ room
  pub short : length t ≤ text_room
  pub shape : shape_at t 0 ≡ line1 job.size.width job.size.height job.allowance spot
  pub sized : Sides job.size.width job.size.height
  pub allowed : job.allowance ≤ allowance_limit
  pub ruled : rows_from t job.size.width job.size.height 2 spot ≡ Ok tt

pub fine : (t : List ℕ) (room : ℕ) (job : Job) (spot : ℕ) → Judgement t room job spot → judged t room ≡ Ok (job, spot)
unfolding judged
fine t room job spot j =
    rw j.shape
    (ap (λ (z : Answer). judged_by z (line1 job.size.width job.size.height job.allowance spot))
    (passed-chain _ (
      passed-check (leb raster_room room) raster_room_short (le-leb raster_room room j.holds),
      (
        passed-check (leb (length t) text_room) text_long (le-leb (length t) text_room j.short),
        (
          refl,
          (
            passed-check (size_fits job.size.width job.size.height) size_out (sides-fit job.size.width job.size.height j.sized),
            (
              passed-check (leb job.allowance allowance_limit) allowance_out (le-leb job.allowance allowance_limit j.allowed),
              (ap (λ (x : Result (Unit {0}) Refusal). (answered x).number) j.ruled, tt),
            ),
          ),
        ),
      ),
    )))

by_passing : (a : Answer) (s : Option (Shape × ℕ)) {job : Job} {spot : ℕ} → judged_by a s ≡ Ok (job, spot) → Passes a × (shape_job s ≡ job) × (shape_next s ≡ spot)
by_passing a s {job} {spot} e =
    pcase a
    (λ p.
    let f = rw (eq-eqb a.number 0 p) at e in
    let both : ◌≡◌ {A = Job × ℕ} (shape_job s, shape_next s) (job, spot) = cc in
    (p, ap (λ (x : Job × ℕ). x.0) both, ap (λ (x : Job × ℕ). x.1) both))
    (λ n. let f = rw (ne_eqb a.number 0 n) at e in absurd cc)

shape_line_lem : (s : Option (Shape × ℕ)) → Passes (check_shape s) → s ≡ line1 (shape_job s).size.width (shape_job s).size.height (shape_job s).allowance (shape_next s)
shape_line_lem (Some s) p = refl
shape_line_lem None p = absurd (omega arith)

rows-ruled : (x : Result (Unit {0}) Refusal) → Passes (answered x) → x ≡ Ok tt
rows-ruled (Ok u) p = refl
rows-ruled (Err q) p = absurd (refuses q p)

pub judged-fine : (t : List ℕ) (room : ℕ) {job : Job} {spot : ℕ} → judged t room ≡ Ok (job, spot) → Judgement t room job spot
unfolding judged
judged-fine t room e =
    let s : Option (Shape × ℕ) = shape_at t 0 in
    let p = by_passing (first_refusal (read_checks t room)) s e in
    let all = chain-passed (read_checks t room) p.0 in
    let own : Judgement t room (shape_job s) (shape_next s) =
    record {
      holds = leb-true raster_room room (check-passed (leb raster_room room) 11 all.0);
      short = leb-true (length t) text_room (check-passed (leb (length t) text_room) 9 all.1.0);
      shape = shape_line_lem s all.1.1.0;
      sized = sides (shape_job s).size.width (shape_job s).size.height (check-passed (size_fits (shape_job s).size.width (shape_job s).size.height) 0 all.1.1.1.0);
      allowed = leb-true (shape_job s).allowance allowance_limit (check-passed (leb (shape_job s).allowance allowance_limit) 5 all.1.1.1.1.0);
      ruled = rows-ruled (rows_from t (shape_job s).size.width (shape_job s).size.height 2 (shape_next s)) all.1.1.1.1.1.0;
    } in
    rw (p.1, p.2) at own

-- what copying asks, of a text that was not refused
pub copies : (t room : List ℕ) {job : Job} {spot : ℕ} → judged t (length room) ≡ Ok (job, spot) → Copies t spot job.size room
copies t room {job} {spot} e =
    let j = judged-fine t (length room) e in
    let m = mul-le-mul j.sized.low j.sized.narrow in
    record { ruled = j.ruled; holds = omega (arith, m, j.holds) }
