-- What a sheet's work comes to: its columns' bottoms and ends give the flashes, the marks and the copper number of the area between them.
-- From the laws on an area whose bottoms and ends are reached. The cover of a sheet uses it.
use mathlib.Core.Path.{◌≡◌, sym, ap, ap₂, subst, ◌∙◌}
use mathlib.Core.List.{List, map}
use Prim.Native.Nat.{ℕ, ◌*◌, ◌≤◌}
use native.Mathlib.Omega.{arith}
use lib.ListN.{length, replicate}
use Rattle.method.specs.Final.{final}
use Rattle.method.specs.Strike.{marked}
use Rattle.grid.specs.Limits.{side, bracket_record, slice_limit}
use Rattle.grid.specs.Lines.{line}
use Rattle.grid.specs.declared.lines.Line.{Line}
use Rattle.grid.proofs.Edges.{number}
use Rattle.grid.specs.Squares.{copper_number}
use Rattle.columns.specs.Columns.{Upright, heights_to}
use Rattle.columns.proofs.ColumnCounts.{upright, heights-copper}
use Rattle.intervals.specs.Table.{set_of, table_of}
use Rattle.counts.specs.Marks.{noted_for}
use Rattle.cover.specs.Slices.{starting}
use Rattle.cover.specs.Flashes.{flash}
use Rattle.cover.specs.Marks.{marks}
use Rattle.cover.specs.Code.{Sheeted, between, row_between, NotedTo, marks_noted, flash_between, AllStand}
use Rattle.cover.proofs.ByColumn.{marks-noted, noted-to}
use Rattle.cover.proofs.MarkRows.{rows_by_column}
use Rattle.cover.proofs.FewSlices.{between-few}
use Rattle.cover.proofs.StartingByChange.{starting-set, columns-grid}
use Rattle.cover.proofs.Worked.{work_short, work_stands, work_by_column}

-- what is left when the final set and the marks are found: the final set in a table over the lines up to `last`, the marks' notes, and how many flashes there are
pub record Done (w h : ℕ) (bottoms ends : List ℕ) (right : Line) (t noted : List ℕ) (n : ℕ) : Type 0 where
  pub rows : t ≡ table_of (final w (starting (between w bottoms ends) w h))
  pub last : right.0 ≡ w
  pub noted_after : noted ≡ noted_for (marked w (starting (between w bottoms ends) w h)) (replicate (side * bracket_record) 0)
  pub count : n ≡ length (final w (starting (between w bottoms ends) w h))

module _ (w h : ℕ) (bottoms ends : List ℕ) (S : Sheeted w h bottoms ends) where
  -- from the starting set's table
  module _ {last : Line} {rows : List ℕ} (whole : rows ≡ table_of (starting (between w bottoms ends) w h)) (right : last ≡ line w) where
    started : set_of last.0 rows ≡ starting (between w bottoms ends) w h
    started = ap (λ l. set_of (number l) rows) right ∙ starting-set (between w bottoms ends) w h S.narrow whole

    pub started-few : length (set_of last.0 rows) ≤ slice_limit
    started-few = omega (arith, ap length started, between-few w bottoms ends h)

    pub done : {last' : Line} {rows' noted : List ℕ} {n : ℕ} → rows' ≡ table_of (final last.0 (set_of last.0 rows)) → last' ≡ last
        → noted ≡ noted_for (marked last.0 (set_of last.0 rows)) (replicate (side * bracket_record) 0) → n ≡ length (final last.0 (set_of last.0 rows))
        → Done w h bottoms ends last' rows' noted n
    done a b c d = record {
      rows = a ∙ ap₂ (λ k s. table_of (final k s)) (ap number right) started;
      last = ap number (b ∙ right);
      noted_after = c ∙ ap₂ (λ k s. noted_for (marked k s) (replicate (side * bracket_record) 0)) (ap number right) started;
      count = d ∙ ap₂ (λ k s. length (final k s)) (ap number right) started;
    }

  pub sheet-upright : Upright w bottoms ends
  sheet-upright = upright (between w bottoms ends) S.unbroken h w S.reached

  pub sheet-copper : heights_to w bottoms ends ≡ copper_number (between w bottoms ends) w h
  sheet-copper = heights-copper (between w bottoms ends) S.unbroken h w S.reached

  module _ {last : Line} {rows noted : List ℕ} {n : ℕ} (D : Done w h bottoms ends last rows noted n) where
    -- up to the line that the code counts as the last
    pub sheet-noted : {k : ℕ} → k ≡ w → NotedTo k noted
    sheet-noted e = let n = S.narrow in
        subst (λ k. NotedTo k noted) (sym e) (subst (NotedTo w) (sym D.noted_after) (noted-to (between w bottoms ends) w h (side * bracket_record) (omega arith)))

    pub sheet-marks : {k : ℕ} → k ≡ w → marks_noted (row_between k bottoms ends) noted k ≡ marks (between w bottoms ends) w h
    sheet-marks e =
        let n = S.narrow in
        let a = between w bottoms ends in
        let rule = rows_by_column a w h (columns-grid w h bottoms ends S) S.unbroken S.low S.reached in
        ap (λ k. marks_noted (row_between k bottoms ends) noted k) e
        ∙ ap (λ z. marks_noted (row_between w bottoms ends) z w) D.noted_after
        ∙ marks-noted a w h (side * bracket_record) (omega arith) (row_between w bottoms ends) rule

    pub sheet-stands : AllStand bottoms ends (set_of last.0 rows)
    sheet-stands =
        subst (λ k. AllStand bottoms ends (set_of k rows)) (sym D.last)
        (work_stands (between w bottoms ends) w h S.narrow D.rows (columns-grid w h bottoms ends S) S.unbroken S.low S.reached)

    pub sheet-short : length (set_of last.0 rows) ≤ side
    sheet-short = subst (λ k. length (set_of k rows) ≤ side) (sym D.last) (work_short (between w bottoms ends) w h S.narrow D.rows)

    pub sheet-flashes : map (flash_between bottoms ends) (set_of last.0 rows) ≡ map (flash (between w bottoms ends) h) (set_of w rows)
    sheet-flashes =
        ap (λ k. map (flash_between bottoms ends) (set_of k rows)) D.last
        ∙ work_by_column (between w bottoms ends) w h S.narrow D.rows (columns-grid w h bottoms ends S) S.unbroken S.low S.reached
