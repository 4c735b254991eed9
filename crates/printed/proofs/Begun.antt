-- The print before its first piece: it has its room, since no print is longer than the longest. Then its first line, and what is left behind it.
-- `print_outcome` carries it from piece to piece.
use mathlib.Core.Path.{◌≡◌}
use mathlib.Core.List.{List, ◌++◌}
use Prim.Native.Nat.{ℕ, ◌+◌, ◌≤◌}
use native.Mathlib.Omega.{arith}
use lib.ListN.{length, get_or}
use mir.Syntax.{w8}
use mir.Val.{Fits}
use Rattle.grid.specs.Answers.{done}
use Rattle.grid.specs.Rooms.{Written}
use Rattle.cover.specs.declared.entry.Outcome.{Outcome}
use Rattle.text.proofs.Lengths.{bytes-within}
use Rattle.text.proofs.Onward.{Remains, start, fits_next, piece}
use Rattle.printed.specs.Printed.{printed, cover_line, refused_line, flash_lines, mark_lines, marks_after, Printable}
use Rattle.printed.proofs.Forms.{print_cover, print_refused}
use Rattle.printed.proofs.Longest.{Numbers, print_most}

module _ {o : Outcome} {f m out : List ℕ} (p : Printable o f m out) (numbers : Numbers o)
    (flashes : (i : ℕ) → Fits w8 (get_or f i 0)) (marks : (i : ℕ) → Fits w8 (get_or m i 0)) where
  begun : Remains out 0 (printed o f m) out 0 (printed o f m)
  begun =
      start out 0 (printed o f m)
      (omega (arith, p.room, print_most o numbers f m p.few-flashes p.few-marks (bytes-within f (λ i. (flashes i).fits)) (bytes-within m (λ i. (marks i).fits))))

  module _ (e : o.answer ≡ done.number) where
    pub cover-fits : 0 + length (cover_line o) ≤ length out
    cover-fits = fits_next begun (cover_line o) (flash_lines o.flashes f ++ mark_lines o.marks m) (print_cover o m f e)

    pub headed : {n : ℕ} {after : List ℕ} → Written out 0 (cover_line o) n after → Remains out 0 (printed o f m) after n (flash_lines o.flashes f ++ mark_lines o.marks m)
    headed w = piece begun (cover_line o) (flash_lines o.flashes f ++ mark_lines o.marks m) (print_cover o m f e) w

  module _ (e : o.answer ≡ done.number → ⊥) where
    pub refused : {n : ℕ} {after : List ℕ} → Written out 0 (refused_line o) n after → Remains out 0 (printed o f m) after n (marks_after o m)
    refused w = piece begun (refused_line o) (marks_after o m) (print_refused o m f e) w
