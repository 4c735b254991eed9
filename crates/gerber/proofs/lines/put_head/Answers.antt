-- The first line, and behind it the two others. The first line of a version that is not known is that of the second.
use Rattle.std.proofs.Common.{arith, length-append}
use mathlib.Core.Path.{◌≡◌, refl, ap, ◌∙◌, subst}
use mathlib.Core.Bool.{◌||◌}
use mathlib.Core.List.{List, ◌++◌}
use Prim.Native.Nat.{ℕ, ◌≤◌}
use lib.Dec.{eqb}
use lib.ListN.{length}
use Rattle.std.specs.Prelude.{Result, Ok, Err, IfOk}
use Rattle.std.specs.Result.{result_unwrap_or}
use Rattle.lists.proofs.Truth.{bcase}
use Rattle.grid.specs.Answers.{answered, check, version_unknown}
use Rattle.grid.specs.declared.answers.Answer.{Answer}
use Rattle.grid.specs.declared.answers.Refusal.{Refusal}
use Rattle.grid.proofs.Refusals.{refuses}
use Rattle.grid.specs.Rooms.{Written}
use Rattle.text.proofs.Onward.{Remains, start, piece, last}
use Rattle.gerber.specs.declared.versions.Version.{Version}
use Rattle.gerber.specs.declared.versions.Version.TheVariants.{Attributes}
use Rattle.gerber.specs.File.{first_line, format_line, unit_line, head_lines, version_known}
use Rattle.gerber.specs.Format.{number_of}
use Rattle.gerber.proofs.lines.put_head.Goals as goal

-- the line of the version that was read of a number, or else of the second, is that of the number
line-of : (version : ℕ) (r : Result Version Refusal) → answered r ≡ check (version_known version) version_unknown
    → IfOk r (λ v. number_of v ≡ version) → first_line (number_of (result_unwrap_or r Attributes)) ≡ first_line version
unfolding first_line
line-of version (Ok v) told known = ap first_line known
line-of version (Err e) told known =
    bcase (eqb version 1)
    (λ u. absurd (refuses e (ap (λ (a : Answer). a.number) (told ∙ ap (λ b. check (b || eqb version 2) version_unknown) u))))
    (λ u. rw u refl)

-- the version that the number gave says the number's first line
said : (version : ℕ) (r : Result Version Refusal) {form : Version} → form ≡ result_unwrap_or r Attributes
    → (answered r ≡ check (version_known version) version_unknown) × IfOk r (λ v. number_of v ≡ version) → first_line (number_of form) ≡ first_line version
said version r e h = ap (λ f. first_line (number_of f)) e ∙ line-of version r h.0 h.1

-- what is left to write behind the first line
behind : (room : List ℕ) (version : ℕ) (form : Version) {at : ℕ} {after : List ℕ} → length (head_lines version) ≤ length room
    → first_line (number_of form) ≡ first_line version → Written room 0 (first_line (number_of form)) at after
    → Remains room 0 (head_lines version) after at (format_line ++ unit_line)
behind room version form {at} {after} h e w =
    piece (start room 0 (head_lines version) (omega (arith, h))) (first_line version) (format_line ++ unit_line) refl (subst (λ z. Written room 0 z at after) e w)

pub put_first-format-requires : goal.put_first-format-requires
put_first-format-requires c =
    let v = c.args.version in
    omega (arith, c.requires, ap length (said v c.try_from.result c.unwrap_or-form.ensures c.try_from.ensures), length-append (first_line v) (format_line ++ unit_line))

pub put_bytes-requires : goal.put_bytes-requires
put_bytes-requires c =
    let v = c.args.version in
    (behind c.args.room.now v c.unwrap_or-form.result c.requires (said v c.try_from.result c.unwrap_or-form.ensures c.try_from.ensures) c.put_first-format.ensures).fits

pub returns : goal.returns
returns c =
    let v = c.args.version in
    last (behind c.args.room.now v c.unwrap_or-form.result c.requires (said v c.try_from.result c.unwrap_or-form.ensures c.try_from.ensures) c.put_first-format.ensures)
    (format_line ++ unit_line) refl c.put_bytes.ensures
