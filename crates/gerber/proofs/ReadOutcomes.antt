-- The whole outcome of reading, case by case; and what a body that was read says of the file. `read_file` and `keekaboor_read_gerber` go by this.
use mathlib.Core.Path.{◌≡◌, refl, sym, ap, subst, ◌∙◌}
use mathlib.Core.Bool.{Bool, true, false, cond}
use mathlib.Core.List.{List, [], ◌∷◌, ◌++◌}
use Prim.Native.Nat.{ℕ, suc, ◌+◌, ◌*◌, ◌≤◌}
use native.Mathlib.Omega.{arith}
use borrow.Author.Tests.{ne_eqb}
use lib.Dec.{leb}
use lib.IntN.{ℤ}
use lib.ListN.{length, take}
use Rattle.std.specs.Option.{ok_or, MatchOption}
use Rattle.lists.specs.Lists.{gather}
use Rattle.grid.specs.Limits.{side, flash_room_size, flash_record}
use Rattle.grid.specs.Answers.{answer, refused, check, first_refusal, or_else, flash_room_short, bad_file_line}
use Rattle.grid.specs.Squares.{Rectangle}
use Rattle.grid.specs.declared.answers.Answer.{Answer}
use Rattle.grid.specs.declared.answers.Refusal.{Refusal}
use Rattle.grid.proofs.Chain.{Passes, stands as refuses, gives_way, chain-append, chain_skip, passed-check}
use Rattle.std.specs.Prelude.{Option, Result, Some, None, Ok, Err}
use Rattle.text.specs.Words.{stands, word_at}
use Rattle.text.proofs.Passes.{found-spot}
use Rattle.cover.specs.Records.{flash_bytes}
use Rattle.gerber.specs.File.{comment_line, attribute_line, format_checks}
use Rattle.gerber.specs.Reading.{Read, not_ruled, flashes_read, Apertures, past_apertures, first_of, read_head, read_apertures, read_flashes, read_body}
use Rattle.gerber.specs.Reading.{read_file, read_refused, all_read, line_check, read_checks, or_flashes, read_gives}
use Rattle.gerber.specs.Parts.{bad_line, on_head, HeadRead, ReadInto}
use Rattle.gerber.specs.declared.sizes.Size.{Size}
use Rattle.gerber.specs.declared.turns.BadLine.{BadLine}
use Rattle.gerber.proofs.Compared.{found_nothing}

module _ (version pitch : ℕ) (x y : ℤ) (text f : List ℕ) where
  pub read_short : leb flash_room_size (length f) ≡ false → read_gives version pitch x y text f ≡ read_refused (refused flash_room_short) f
  unfolding read_gives first_refusal or_else or_flashes
  read_short e = rw e

  module _ (room : leb flash_room_size (length f) ≡ true) where
    abbrev lines : List Answer
    lines = line_check (read_file pitch x y text) ∷ []

    behind : first_refusal (read_checks version pitch f (read_file pitch x y text)) ≡ or_else (first_refusal (format_checks version pitch)) (first_refusal lines)
    behind =
        chain_skip (check (leb flash_room_size (length f)) flash_room_short ∷ []) (format_checks version pitch ++ lines) (passed-check (leb flash_room_size (length f)) flash_room_short room, tt)
        ∙ chain-append (format_checks version pitch) lines

    pub read_format : {a : Answer} → a ≡ first_refusal (format_checks version pitch) → (Passes a → ⊥) → read_gives version pitch x y text f ≡ read_refused a f
    unfolding read_gives or_flashes
    read_format {a} e n =
        ap (λ (b : Answer). or_flashes b (read_file pitch x y text) f) (behind ∙ ap (λ (b : Answer). or_else b (first_refusal lines)) (sym e) ∙ refuses a (first_refusal lines) n)
        ∙ rw (ne_eqb a.number 0 n)

    module _ (good : Passes (first_refusal (format_checks version pitch))) where
      given : read_gives version pitch x y text f ≡ or_flashes (first_refusal lines) (read_file pitch x y text) f
      unfolding read_gives
      given = ap (λ (b : Answer). or_flashes b (read_file pitch x y text) f) (behind ∙ gives_way (first_refusal (format_checks version pitch)) (first_refusal lines) good)

      pub read-line : {line : ℕ} → read_file pitch x y text ≡ not_ruled line → read_gives version pitch x y text f ≡ read_refused (answer bad_file_line line 0) f
      unfolding first_refusal or_else or_flashes
      read-line e = given ∙ rw e

      pub read_all : {qs : List Rectangle} → read_file pitch x y text ≡ flashes_read qs → read_gives version pitch x y text f ≡ all_read qs f
      unfolding first_refusal or_else or_flashes
      read_all e = given ∙ rw e

-- a check of the code, passed or refused
pub check-refuses : (b : Bool) (r : Refusal) {s : Refusal} → ◌≡◌ {A = Result (Unit {0}) Refusal} (cond b (Ok tt) (Err r)) (Err s) → (b ≡ false) × (r ≡ s)
check-refuses true r e = let z : ◌≡◌ {A = ℕ} 0 1 = cc in absurd (omega arith)
check-refuses false r e = (refl, cc)

pub check-passes : (b : Bool) (r : Refusal) {u : Unit {0}} → ◌≡◌ {A = Result (Unit {0}) Refusal} (cond b (Ok tt) (Err r)) (Ok u) → b ≡ true
check-passes true r e = refl
check-passes false r e = let z : ◌≡◌ {A = ℕ} 0 1 = cc in absurd (omega arith)

-- what a body says of what was read
pub told-bad : (w : Read) {b : BadLine} (room : List ℕ) → ReadInto w (Err b) room → w ≡ not_ruled b.0
told-bad (not_ruled n) {b} room r = let a : b ≡ bad_line n = cc in ap (λ (c : BadLine). not_ruled c.0) (sym a)
told-bad (flashes_read qs) room r = let e = r.0 in let z : ◌≡◌ {A = ℕ} 0 1 = cc in absurd (omega arith)

pub told-flashes : (w : Read) (n : ℕ) (room : List ℕ) → ReadInto w (Ok n) room
    → (qs : List Rectangle) × (w ≡ flashes_read qs) × (n ≡ length qs) × (length qs ≤ side) × (take (length qs * flash_record) room ≡ gather flash_bytes qs)
told-flashes (not_ruled m) n room r = let z : ◌≡◌ {A = ℕ} 0 1 = cc in absurd (omega arith)
told-flashes (flashes_read qs) n room r = let e = r.0 in let a : n ≡ length qs = cc in (qs, refl, a, r.1, r.2)

-- the first line, as the code looks for it
module _ (text : List ℕ) where
  is_comment : stands text 0 comment_line ≡ true → first_of text ≡ comment_line
  unfolding first_of
  is_comment t = rw t

  is_attribute : stands text 0 comment_line ≡ false → first_of text ≡ attribute_line
  unfolding first_of
  is_attribute t = rw t

  pub first_comment : {at : ℕ} → word_at text 0 comment_line ≡ Some at → Some at ≡ word_at text 0 (first_of text)
  unfolding word_at
  first_comment e = sym e ∙ ap (word_at text 0) (sym (is_comment (found-spot (stands text 0 comment_line) (0 + length comment_line) e).0))

  pub first_attribute : word_at text 0 comment_line ≡ None → word_at text 0 attribute_line ≡ word_at text 0 (first_of text)
  unfolding word_at
  first_attribute e = ap (word_at text 0) (sym (is_attribute (found_nothing (stands text 0 comment_line) (0 + length comment_line) e)))

  pub first_either : (o : Option ℕ) → o ≡ word_at text 0 comment_line → {r : Option ℕ} {P : Type 0} → MatchOption o P (λ x. r ≡ Some x) → (P → r ≡ word_at text 0 attribute_line) → r
      ≡ word_at text 0 (first_of text)
  first_either None e m f = f m ∙ first_attribute (sym e)
  first_either (Some at) e m f = m ∙ first_comment (sym e)

-- a line of the head
pub head-stop : (text : List ℕ) (n : ℕ) (l : List ℕ) (ls : List (List ℕ)) (spot : ℕ) (next : ℕ → Read) → word_at text spot l ≡ None → read_head text n (l ∷ ls) spot next ≡ not_ruled n
unfolding read_head word_at
head-stop text n l ls spot next e = rw (found_nothing (stands text spot l) (spot + length l) e)

pub head-on : (text : List ℕ) (n : ℕ) (l : List ℕ) (ls : List (List ℕ)) (spot : ℕ) (next : ℕ → Read) {at : ℕ} → word_at text spot l ≡ Some at → read_head text n (l ∷ ls) spot next
    ≡ read_head text (suc n) ls at next
unfolding read_head word_at
head-on text n l ls spot next e =
    let f = found-spot (stands text spot l) (spot + length l) e in
    rw f.0 (ap (λ (i : ℕ). read_head text (suc n) ls i next) f.1)

-- and the last
pub head-ends : (text : List ℕ) (spot : ℕ) (l : List ℕ) (n : ℕ) (next : ℕ → Read) (o : Option ℕ) → o ≡ word_at text spot l → read_head text n (l ∷ []) spot next ≡ on_head (ok_or o (bad_line n)) next
unfolding read_head
head-ends text spot l n next None e = head-stop text n l [] spot next (sym e)
head-ends text spot l n next (Some at) e = head-on text n l [] spot next (sym e)

-- the head, and what follows it
module _ (pitch : ℕ) (x y : ℤ) (text : List ℕ) where
  pub file-bad : {b : BadLine} (room : List ℕ) → HeadRead text (Err b) → ReadInto (read_file pitch x y text) (Err b) room
  unfolding read_file
  file-bad {b} room h = subst (λ (w : Read). ReadInto w (Err b) room) (sym (h (read_body pitch x y text))) refl

  pub file-on : {spot past : ℕ} {sizes : List Size} (r : Result ℕ BadLine) (room : List ℕ) → HeadRead text (Ok spot)
      → record { sizes = sizes; past = past } ≡ read_apertures side pitch text (record { sizes = []; past = spot })
      → ReadInto (read_flashes side pitch x y text sizes [] (record { line = 3 + length sizes + 1; at = past; used = 0; current = None })) r room
      → ReadInto (read_file pitch x y text) r room
  unfolding read_file
  file-on r room h e i =
      let f = h (read_body pitch x y text) ∙ sym (ap (λ (a : Apertures). read_flashes side pitch x y text a.sizes [] (past_apertures a)) e) in
      subst (λ (w : Read). ReadInto w r room) (sym f) i
