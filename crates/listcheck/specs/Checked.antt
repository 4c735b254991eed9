-- The whole outcome of the check: numbers, places, the verdict, and each byte of the mark room. Throughout, m is what that room holds before the call.
use Rattle.std.specs.Prelude.{◌≡◌, cond, List, [], ◌∷◌, ℕ, ◌-◌, leb, eqb, length}
use Rattle.std.proofs.Math.Option.{Option, none, some}
use Rattle.grid.specs.Limits.{allowance_limit, mark_room_size, list_limit}
use Rattle.grid.specs.Answers.{answer, done, check, check_at, first_refusal, size_out, raster_length, mark_room_short, allowance_out, bad_byte, broken_column, bad_list_line, list_long}
use Rattle.grid.specs.Squares.{Area, Rectangle, Square}
use Rattle.grid.specs.Raster.{size_fits, length_fits, area_of, bad_square, broken_square}
use Rattle.grid.specs.declared.answers.Answer.{Answer}
use Rattle.cover.specs.Flashes.{flashes}
use Rattle.cover.specs.Marks.{marks}
use Rattle.cover.specs.Records.{marks_written}
use Rattle.listcheck.specs.FlashList.{flashes_of, line_not_ruled}
use Rattle.listcheck.specs.Verdict.{bad_line, bare_square}
use Rattle.listcheck.specs.declared.entry.Checked.{Checked}

-- the verdicts by number; 0 on a refusal, so that no refusal looks sound
abbrev pub sound : ℕ
sound = 1

abbrev pub bad : ℕ
bad = 2

abbrev pub bare : ℕ
bare = 3

-- what a call gives: its outcome, and what the mark room holds after it
pub record Given : Type 0 where
  pub outcome : Checked
  pub marks_after : List ℕ

-- "On a refusal every count .. [is] returned as 0, and nothing is written"
abbrev pub refused_at : Answer → List ℕ → Given
refused_at r m = record {
  outcome = record { answer = r.number; place_x = r.x; place_y = r.y; verdict = 0; flashes = 0; above = 0; marks = 0 };
  marks_after = m;
}

-- a list of n flashes with a bad one in a line; with a bare square
abbrev pub bad_at : ℕ → ℕ → List ℕ → Given
bad_at n line m = record {
  outcome = record { answer = 0; place_x = line; place_y = 0; verdict = bad; flashes = n; above = 0; marks = 0 };
  marks_after = m;
}

abbrev pub bare_at : ℕ → Square → List ℕ → Given
bare_at n s m = record {
  outcome = record { answer = 0; place_x = s.column; place_y = s.row; verdict = bare; flashes = n; above = 0; marks = 0 };
  marks_after = m;
}

-- "A sound list is also told how many flashes it has above the least, with our marks as evidence."
abbrev pub sound_with : Area → ℕ → ℕ → ℕ → List ℕ → Given
sound_with a w h n m = record {
  outcome = record {
    answer = 0;
    place_x = 0;
    place_y = 0;
    verdict = sound;
    flashes = n;
    above = n - length (flashes a w h);
    marks = length (marks a w h);
  };
  marks_after = marks_written (marks a w h) m;
}

-- bad, or failing that bare, or failing that sound
abbrev pub unless_bad : Option ℕ → ℕ → List ℕ → Given → Given
unless_bad none n m later = later
unless_bad (some line) n m later = bad_at n line m

abbrev pub unless_bare : Option Square → ℕ → List ℕ → Given → Given
unless_bare none n m later = later
unless_bare (some s) n m later = bare_at n s m

unfoldable pub judged : Area → ℕ → ℕ → List Rectangle → List ℕ → Given
judged a w h qs m =
    unless_bad (bad_line a w h qs) (length qs) m
    (unless_bare (bare_square a w h qs) (length qs) m (sound_with a w h (length qs) m))

-- a check that looks for a line: there is none, or a refusal with its number at the line
abbrev pub check_line : Option ℕ → ℕ → Answer
check_line none n = done
check_line (some line) n = answer n line 0

-- "Refusals, after those for the job (9 is never given here): 16 list line not as ruled, with its line, then 17 too many flashes."
abbrev pub list_checks : List ℕ → List Answer
list_checks list = check_line (line_not_ruled list) bad_list_line ∷ check (leb (length (flashes_of list)) list_limit) list_long ∷ []

-- those for the job: document 01's order; no room for flashes is lent here
abbrev pub checks : ℕ → ℕ → ℕ → List ℕ → List ℕ → List ℕ → List Answer
checks w h k raster list m =
    check (size_fits w h) size_out
    ∷ check (length_fits w h (length raster)) raster_length
    ∷ check (leb mark_room_size (length m)) mark_room_short
    ∷ check (leb k allowance_limit) allowance_out
    ∷ check_at (bad_square w raster) bad_byte
    ∷ check_at (broken_square (area_of w h raster) w h) broken_column
    ∷ list_checks list

-- a refusal, or the verdict on what passed every check
unfoldable pub or_verdict : Answer → List ℕ → Given → Given
or_verdict a m verdict = cond (eqb a.number 0) verdict (refused_at a m)

unfoldable pub check_gives : ℕ → ℕ → ℕ → List ℕ → List ℕ → List ℕ → Given
check_gives w h k raster list m = or_verdict (first_refusal (checks w h k raster list m)) m (judged (area_of w h raster) w h (flashes_of list) m)

-- the contract of `keekaboor_check`: outcome r, and a mark room that holds m' afterwards, are what the call gives
abbrev pub Gives : ℕ → ℕ → ℕ → List ℕ → List ℕ → List ℕ → Checked → List ℕ → Type 0
Gives w h k raster list m r m' = record { outcome = r; marks_after = m' } ≡ check_gives w h k raster list m
