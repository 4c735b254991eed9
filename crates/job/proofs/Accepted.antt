-- A text is accepted exactly where it is the text of a job, and then it is read as that job.
-- Both ways row by row: the text from a row's spot on is the lines of the rows from there down, and the raster so far is the rows below.
-- The round trips are this, said of the exported functions.
use Rattle.std.proofs.Common.{Ok, Option}
use mathlib.Core.Path.{◌≡◌, refl, sym, ap, ◌∙◌}
use mathlib.Core.Bool.{true}
use mathlib.Core.List.{List, [], ◌++◌, append_assoc, append-nil}
use Prim.Native.Nat.{ℕ, zero, suc, ◌+◌, ◌*◌, ◌≤◌, ◌<◌}
use native.Mathlib.Omega.{arith}
use native.Mathlib.Nat.{le_refl, zero-add, zero-mul, suc-mul, mul_comm}
use lib.Dec.{eqb}
use lib.ListN.{length, take, drop, length-append, length-drop, drop_of_length-le}
use lib.Seq.{drop-drop, drop-append_seam, drop_at, take_at, take-add, take_all}
use borrow.Author.Tests.{eqb-true}
use Rattle.grid.specs.Limits.{raster_room}
use Rattle.grid.specs.declared.raster.Job.{Job}
use Rattle.text.proofs.Passes.{passes-inside}
use Rattle.text.proofs.Lengths.{within-take, within-drop, within_both}
use Rattle.job.specs.JobText.{shape_line, row_head, row_line, row_of, row_lines, job_text, IsJob}
use Rattle.job.specs.Reading.{squares_at, then_rows, rows_from, raster_from, judged}
use Rattle.job.proofs.Lengths.{length-row, length-row_of, longest}
use Rattle.job.proofs.Shape.{within-three, whole_shaped, shaped_whole}
use Rattle.job.proofs.Row.{squares?, are_squares, Rowed, rowed_whole, squares-found}
use Rattle.job.proofs.Rows.{past_row, row-there, rows-there, length-raster, rows_next, rows_none, rows-ended, ruled-cond}
use Rattle.job.proofs.Text.{lines_next, lines_none}
use Rattle.job.proofs.Judging.{Judgement, fine}

-- the rows of a job's text are accepted
module _ (t : List ℕ) (w h : ℕ) (raster : List ℕ) (full : length raster ≡ w * h) (squares : squares? raster ≡ true) where
  abbrev line : ℕ → List ℕ
  line r = row_line r (row_of w raster r)

  module _ (r s : ℕ) (l : r < h) (e : drop s t ≡ row_lines w raster (suc r)) where
    -- the text past the first of the rows
    rest : drop (s + length (line r)) t ≡ row_lines w raster r
    rest =
        sym (drop-drop (length (line r)) s t)
        ∙ ap (drop (length (line r))) (e ∙ lines_next w raster r)
        ∙ drop-append_seam (line r) (row_lines w raster r)

    row-stands : Rowed t s w r (row_of w raster r) (s + length (line r))
    row-stands =
        record {
          wide = length-row_of w h raster r full l;
          bytes = within-take 1 w (drop (r * w) raster) (within-drop 1 (r * w) raster squares);
          line = record { past = refl; there = e ∙ lines_next w raster r ∙ ap (line r ++◌) (sym rest) };
        }

    stands-inside : s + length (line r) ≤ length t
    stands-inside = passes-inside t s (line r) (omega (arith, length-row r (row_of w raster r))) row-stands.line

    past-line : s + length (line r) ≡ past_row s w r
    past-line = omega (arith, length-row r (row_of w raster r), length-row_of w h raster r full l)

    squares_stand : squares_at t (s + length (row_head r)) w ≡ row_of w raster r
    squares_stand =
        ap (squares_at t (s + length (row_head r))) (sym row-stands.wide)
        ∙ squares-found t s r (row_of w raster r) row-stands.line row-stands.bytes

  pub rows_accepted : (r n s : ℕ) → r ≤ h → s ≤ length t → drop s t ≡ row_lines w raster r → rows_from t w r n s ≡ Ok tt
  rows_accepted zero n s l i e =
      let z : length (drop s t) ≡ 0 = ap length (e ∙ lines_none w raster) in
      rows-ended t w n s 0 (le_refl 0) (omega (arith, length-drop s t))
  rows_accepted (suc r) n s l i e =
      rows_next t w n s r
      ∙ ap (λ (x : Option ℕ). then_rows x n (λ next. rows_from t w r (n + 1) next)) (rowed_whole t s w r (row_of w raster r) (row-stands r s l e))
      ∙ rows_accepted r (n + 1) (s + length (line r)) (omega arith) (stands-inside r s l e) (rest r s l e)

  pub raster-read : (r s : ℕ) → r ≤ h → drop s t ≡ row_lines w raster r → raster_from t w r s ≡ take (r * w) raster
  unfolding raster_from
  raster-read zero s l e = rw (zero-mul w)
  raster-read (suc r) s l e =
      let below : raster_from t w r (past_row s w r) ≡ take (r * w) raster =
      raster-read r (past_row s w r) (omega arith) (ap (λ (k : ℕ). drop k t) (sym (past-line r s l e)) ∙ rest r s l e) in
      ap (λ (l : List ℕ). l ++ squares_at t (s + length (row_head r)) w) below
      ∙ ap (take (r * w) raster ++◌) (squares_stand r s l e)
      ∙ sym (take-add (r * w) w raster)
      ∙ ap (λ (k : ℕ). take k raster) (sym (suc-mul r w))

-- rows that are accepted are the lines of the raster that is read, with whatever rows above it
pub rows-text : (t : List ℕ) (w r n s : ℕ) (above : List ℕ) → rows_from t w r n s ≡ Ok tt → drop s t ≡ row_lines w (raster_from t w r s ++ above) r
unfolding raster_from
rows-text t w zero n s above e =
    let z : s ≡ length t = eqb-true s (length t) (ruled-cond (eqb s (length t)) n (sym (rows_none t w n s) ∙ e)) in
    drop_of_length-le t {i = s} (omega arith) ∙ sym (lines_none w above)
rows-text t w (suc r) n s above e =
    let below : List ℕ = raster_from t w r (past_row s w r) in
    let squares : List ℕ = squares_at t (s + length (row_head r)) w in
    let raster : List ℕ = below ++ (squares ++ above) in
    let row = row-there t w r n s e in
    let rows = rows-there t w r n s e in
    let own : row_of w raster r ≡ squares =
    ap (take w) (drop_at below (squares ++ above) (r * w) (length-raster t w r n (past_row s w r) rows)) ∙ take_at squares above w row.wide in
    row.line.there
    ∙ ap (row_line r squares ++◌) (rows-text t w r n (past_row s w r) (squares ++ above) rows)
    ∙ ap (λ (x : List ℕ). row_line r x ++ row_lines w raster r) (sym own)
    ∙ sym (lines_next w raster r)
    ∙ ap (λ (x : List ℕ). row_lines w x (suc r)) (sym (append_assoc below squares above))

squares-read : (t : List ℕ) (w r s : ℕ) → squares? (raster_from t w r s) ≡ true
unfolding raster_from
squares-read t w zero s = refl
squares-read t w (suc r) s =
    within_both 1 (raster_from t w r (past_row s w r)) (squares_at t (s + length (row_head r)) w) (squares-read t w r (past_row s w r)) (are_squares (take w (drop (s + length (row_head r)) t)))

-- a text that is accepted is the text of the job that is read
module _ (t : List ℕ) (room : ℕ) (job : Job) (spot : ℕ) (j : Judgement t room job spot) where
  abbrev raster : List ℕ
  raster = raster_from t job.size.width job.size.height spot

  pub accepted_job : IsJob job.size.width job.size.height job.allowance raster
  accepted_job =
      record {
        wide = j.sized.wide;
        narrow = j.sized.narrow;
        tall = j.sized.tall;
        low = j.sized.low;
        allowed = j.allowed;
        full = length-raster t job.size.width job.size.height 2 spot j.ruled ∙ mul_comm job.size.height job.size.width;
        squares = squares-read t job.size.width job.size.height spot;
      }

  pub accepted_text : t ≡ job_text job.size.width job.size.height job.allowance raster
  unfolding job_text
  accepted_text =
      let s = whole_shaped t 0 job.size.width job.size.height job.allowance spot j.shape in
      s.there.there
      ∙ ap (shape_line job.size.width job.size.height job.allowance ++◌)
      (rows-text t job.size.width job.size.height 2 spot [] j.ruled ∙ ap (λ (x : List ℕ). row_lines job.size.width x job.size.height) (append-nil raster))

-- and the text of a job is accepted, and read as that job
module _ (w h k : ℕ) (raster : List ℕ) (j : IsJob w h k raster) where
  abbrev text : List ℕ
  text = job_text w h k raster

  abbrev spot : ℕ
  spot = length (shape_line w h k)

  rows_follow : drop spot text ≡ row_lines w raster h
  unfolding job_text
  rows_follow = drop-append_seam (shape_line w h k) (row_lines w raster h)

  spot-inside : spot ≤ length text
  unfolding job_text
  spot-inside = omega (arith, length-append (shape_line w h k) (row_lines w raster h))

  text-judged : (room : ℕ) → raster_room ≤ room → Judgement text room (record { size = record { width = w; height = h }; allowance = k }) spot
  unfolding job_text
  text-judged room holds =
      record {
        holds = holds;
        short = longest w h k raster j;
        shape =
            shaped_whole text 0 w h k spot
            record {
              small = within-three w h k (omega (arith, j.narrow)) (omega (arith, j.low)) (omega (arith, j.allowed));
              there = record { past = sym (zero-add spot); there = ap (shape_line w h k ++◌) (sym rows_follow) };
            };
        sized = record { wide = j.wide; narrow = j.narrow; tall = j.tall; low = j.low };
        allowed = j.allowed;
        ruled = rows_accepted text w h raster j.full j.squares h 2 spot (le_refl h) spot-inside rows_follow;
      }

  pub text_accepted : (room : ℕ) → raster_room ≤ room → judged text room ≡ Ok ((record { size = record { width = w; height = h }; allowance = k }), spot)
  text_accepted room holds = fine text room (record { size = record { width = w; height = h }; allowance = k }) spot (text-judged room holds)

  pub text-raster : raster_from text w h spot ≡ raster
  text-raster =
      raster-read text w h raster j.full j.squares h spot (le_refl h) rows_follow
      ∙ take_all (h * w) raster (omega (arith, j.full, mul_comm w h))
