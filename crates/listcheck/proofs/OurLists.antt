-- Every list that our own program prints is sound with none above: the flash lines of a cover's print are read as the cover's own flashes.
-- A printed line is read as its numbers (text); line after line, what is left to read is what is left of the records. The flashes are a least cover.
use mathlib.Core.Path.{◌≡◌, refl, sym, ap, ◌∙◌}
use mathlib.Core.Bool.{true, ◌&&◌}
use mathlib.Core.List.Memᴰ
use mathlib.Core.List.{List, [], ◌∷◌, ◌++◌, append_assoc}
use mathlib.Core.Logic.{inl}
use mathlib.Core.Option.{none}
use Prim.Native.Nat.{ℕ, ◌+◌, ◌-◌, ◌*◌, ◌≤◌}
use native.Mathlib.Nat.{mul-le-mul_right, zero-add}
use native.Mathlib.Omega.{arith}
use lib.Dec.{leb}
use lib.ListN.{length, drop, length-append, length-drop}
use lib.Seq.{drop-append_seam, drop-drop}
use borrow.Author.Tests.{eq-eqb, le-leb}
use Rattle.lists.specs.Lists.{gather}
use Rattle.lists.proofs.Truth.{and_both}
use Rattle.lists.proofs.Members.{In}
use Rattle.grid.specs.Limits.{side, flash_record, mark_room_size, allowance_limit, list_limit}
use Rattle.grid.specs.Answers.{first_refusal, mark_room_short, allowance_out, bad_list_line, list_long}
use Rattle.grid.specs.Squares.{Area, InGrid, Rectangle, Unbroken}
use Rattle.grid.specs.Raster.{area_of}
use Rattle.grid.specs.declared.answers.Answer.{Answer}
use Rattle.grid.proofs.Areas.{area_in_grid}
use Rattle.grid.proofs.Chain.{Passes, Each, pcase, chain-passed, passed-chain, passed-check}
use Rattle.grid.proofs.Writing.{from_start}
use Rattle.text.specs.Line.{line, within}
use Rattle.std.specs.Prelude.{Some}
use Rattle.text.proofs.Lines.{Ruled, ruled-whole, ruled-numbers}
use Rattle.job.specs.JobText.{number_limit}
use Rattle.cover.specs.Flashes.{flashes}
use Rattle.cover.specs.Records.{flash_bytes, flash_of, flashes_in}
use Rattle.cover.specs.Cover as Cover
use Rattle.cover.specs.declared.entry.Outcome.{Outcome}
use Rattle.cover.proofs.Covering.{flash-copper, flash-fits, flashes-short, flashes-cover}
use Rattle.cover.specs.Demand3.{Asked}
use Rattle.cover.proofs.Refusals.{refuses}
use Rattle.cover.proofs.Demand2.{demand-2}
use Rattle.cover.proofs.Demand3.{only-asked}
use Rattle.cover.proofs.Rooms.{rooms_kept}
use Rattle.printed.proofs.Ruled.{flash-lines}
use Rattle.printed.specs.Printed.{flash_word, cover_line, flash_lines, mark_lines, printed, Prints}
use Rattle.listcheck.specs.FlashList.{flash_line_at, flash_said, flashes_at, end_at, flashes_of, line_not_ruled, flashes_from, end_from}
use Rattle.listcheck.specs.Checked.{Given, sound, sound_with, judged, check_line, checks, check_gives, Gives}
use Rattle.listcheck.specs.declared.entry.Checked.{Checked}
use Rattle.listcheck.proofs.Onward.{rest-on, goes_end}
use Rattle.listcheck.proofs.Sound.{cover-good, cover-held}
use Rattle.listcheck.proofs.Judged.{judged-sound}
use Rattle.listcheck.proofs.Refusals.{passes}

-- the line of a flash, and the lines of a list
abbrev pub flash_line : Rectangle → List ℕ
flash_line q = line flash_word (flash_bytes q)

abbrev pub list_text : List Rectangle → List ℕ
list_text qs = gather flash_line qs

-- each number has at most four digits
abbrev pub Small : Rectangle → Type 0
Small q = within number_limit (flash_bytes q) ≡ true

-- one line
module _ (text : List ℕ) (spot : ℕ) (q : Rectangle) (rest : List ℕ) (small : Small q) (e : drop spot text ≡ flash_line q ++ rest) where
  pub left_over : drop (spot + length (flash_line q)) text ≡ rest
  left_over = sym (drop-drop (length (flash_line q)) spot text) ∙ ap (drop (length (flash_line q))) e ∙ drop-append_seam (flash_line q) rest

  ruled : Ruled text spot flash_word number_limit (flash_bytes q) (spot + length (flash_line q))
  ruled = record { small = small; there = record { past = refl; there = e ∙ ap (flash_line q ++◌) (sym left_over) } }

  pub line-there : flash_line_at text spot ≡ Some (spot + length (flash_line q))
  unfolding flash_line_at
  line-there = ruled-whole text spot flash_word number_limit (flash_bytes q) ruled

  pub line-said : flash_said text spot ≡ q
  unfolding flash_said
  line-said = ap flash_of (ruled-numbers text spot flash_word number_limit (flash_bytes q) ruled)

-- all lines: what is read is the list, and the lines end with the text
module _ (text : List ℕ) where
  no_lines : (spot : ℕ) → spot ≡ length text → (flashes_at text spot ≡ []) × (end_at text spot ≡ length text)
  unfolding flashes_from end_from
  no_lines spot e = let z : length text - spot ≡ 0 = omega arith in rw z (refl, e)

  list_read : (qs : List Rectangle) (spot : ℕ) → ((q : Rectangle) → In q qs → Small q) → spot ≤ length text → drop spot text ≡ list_text qs
      → (flashes_at text spot ≡ qs) × (end_at text spot ≡ length text)
  list_read [] spot small h e = no_lines spot (omega (arith, ap length e, length-drop spot text))
  list_read (q ∷ qs) spot small h e =
      let s = small q (Memᴰ.head refl) in
      let j : ℕ = spot + length (flash_line q) in
      let t = line-there text spot q (list_text qs) s e in
      let inside : j ≤ length text = omega (arith, ap length e, length-append (flash_line q) (list_text qs), length-drop spot text) in
      let later = list_read qs j (λ x m. small x (Memᴰ.tail m)) inside (left_over text spot q (list_text qs) s e) in
      let said = line-said text spot q (list_text qs) s e in
      (rest-on text spot t ∙ (λ i. said i ∷ later.0 i), goes_end text spot t ∙ later.1)

module _ (qs : List Rectangle) (small : (q : Rectangle) → In q qs → Small q) where
  read_whole : (flashes_at (list_text qs) 0 ≡ qs) × (end_at (list_text qs) 0 ≡ length (list_text qs))
  read_whole = list_read (list_text qs) qs 0 small (omega arith) refl

  -- a list that is written is read as itself, and every line is as ruled
  pub read_list : flashes_of (list_text qs) ≡ qs
  unfolding flashes_of
  read_list = read_whole.0

  pub all-ruled : line_not_ruled (list_text qs) ≡ none
  unfolding line_not_ruled
  all-ruled = rw (eq-eqb (end_at (list_text qs) 0) (length (list_text qs)) read_whole.1)

-- our flashes have small numbers
module _ (a : Area) (w h : ℕ) (grid : InGrid w h a) (unbroken : Unbroken a) (narrow : w ≤ side) (low : h ≤ side) where
  ours_small : (q : Rectangle) → In q (flashes a w h) → Small q
  ours_small q m =
      let c = flash-copper a w h grid unbroken q m in
      let f = flash-fits a w h grid unbroken q m in
      let x = leb q.first number_limit in
      let y = leb q.last number_limit in
      let z = leb q.bottom number_limit in
      let t = leb q.top number_limit in
      and_both x (y && (z && (t && true))) (le-leb q.first number_limit (omega (arith, c.wide, f.0)))
      (and_both y (z && (t && true)) (le-leb q.last number_limit (omega (arith, f.0)))
      (and_both z (t && true) (le-leb q.bottom number_limit (omega (arith, c.high, f.1)))
      (and_both t true (le-leb q.top number_limit (omega (arith, f.1))) refl)))

-- what a cover that succeeded has passed
module _ (w h k : ℕ) (raster f m : List ℕ) (o : Outcome) (f' m' : List ℕ) (gives : Cover.Gives w h k raster f m o f' m') (e : o.answer ≡ 0) where
  passed : Each Passes (Cover.cover_checks w h k raster f m)
  unfolding Cover.cover_gives
  passed =
      let a = first_refusal (Cover.cover_checks w h k raster f m) in
      pcase a (λ p. chain-passed (Cover.cover_checks w h k raster f m) p)
      (λ n. absurd (n (sym (ap (λ (g : Cover.Given). g.outcome.answer) (gives ∙ refuses a f m (Cover.answered (area_of w h raster) w h k f m) n)) ∙ e)))

  asked : Asked w h k raster f m
  asked = only-asked w h k raster f m o f' m' gives (inl e)

  ruled-flashes : flashes_in o.flashes f' ≡ flashes (area_of w h raster) w h
  ruled-flashes = (demand-2 w h k raster f m o f' m' gives e).flashes-ruled

  -- the flash lines of its print are the list of its flashes
  pub own-text : flash_lines o.flashes f' ≡ list_text (flashes (area_of w h raster) w h)
  own-text =
      let q = asked in
      let d = demand-2 w h k raster f m o f' m' gives e in
      let many : o.flashes ≤ side = omega (arith, d.flash-count, flashes-short (area_of w h raster) w h, q.wide) in
      let room : o.flashes * flash_record ≤ side * flash_record = mul-le-mul_right flash_record many in
      flash-lines o.flashes f' (omega (arith, (rooms_kept w h k raster f m o f' m' gives).0.as_long, q.flashes-fit)) ∙ ap list_text ruled-flashes

  -- where they stand among the bytes that `print_outcome` leaves: behind the line of the cover, before those of the marks
  pub own-bytes : (out : List ℕ) (n : ℕ) (out' : List ℕ) → Prints o f' m' out n out'
      → out' ≡ cover_line o ++ (flash_lines o.flashes f' ++ (mark_lines o.marks m' ++ drop n out))
  unfolding printed
  own-bytes out n out' p =
      let a = cover_line o in
      let b = flash_lines o.flashes f' in
      let c = mark_lines o.marks m' in
      let same : printed o f' m' ≡ a ++ (b ++ c) = rw (eq-eqb o.answer 0 e) in
      let far : n ≡ length (printed o f' m') = p.past ∙ zero-add (length (printed o f' m')) in
      p.left
      ∙ from_start out (printed o f' m')
      ∙ ap (λ (l : ℕ). printed o f' m' ++ drop l out) (sym far)
      ∙ ap (λ (l : List ℕ). l ++ drop n out) same
      ∙ append_assoc a (b ++ c) (drop n out)
      ∙ ap (a ++◌) (append_assoc b c (drop n out))

  -- and the check of that list, in a mark room that suffices and with any allowance within the limits, finds it sound with none above
  module _ (j : ℕ) (mm : List ℕ) (r : Checked) (mm' : List ℕ) (allowed : j ≤ allowance_limit) (lent : mark_room_size ≤ length mm)
      (checked : Gives w h j raster (flash_lines o.flashes f') mm r mm') where
    all_small : (q : Rectangle) → In q (flashes (area_of w h raster) w h) → Small q
    all_small = ours_small (area_of w h raster) w h (area_in_grid w h raster) asked.unbroken asked.wide.1 asked.high.1

    list_passed : Each Passes (checks w h j raster (list_text (flashes (area_of w h raster) w h)) mm)
    list_passed =
        let p = passed in
        let s = all_small in
        let ours = flashes (area_of w h raster) w h in
        let few : length (flashes_of (list_text ours)) ≤ list_limit = omega (arith, ap length (read_list ours s), flashes-short (area_of w h raster) w h, asked.wide) in (
          p.0,
          (
            p.1.0,
            (
              passed-check (leb mark_room_size (length mm)) mark_room_short (le-leb mark_room_size (length mm) lent),
              (
                passed-check (leb j allowance_limit) allowance_out (le-leb j allowance_limit allowed),
                (
                  p.1.1.1.1.1.0,
                  (
                    p.1.1.1.1.1.1.0,
                    (
                      ap (λ x. (check_line x bad_list_line).number) (all-ruled ours s),
                      (passed-check (leb (length (flashes_of (list_text ours))) list_limit) list_long (le-leb (length (flashes_of (list_text ours))) list_limit few), tt),
                    ),
                  ),
                ),
              ),
            ),
          ),
        )

    own-given : check_gives w h j raster (list_text (flashes (area_of w h raster) w h)) mm
        ≡ sound_with (area_of w h raster) w h (length (flashes (area_of w h raster) w h)) mm
    unfolding check_gives
    own-given =
        let a = area_of w h raster in
        let ours = flashes a w h in
        let grid = area_in_grid w h raster in
        let cover = flashes-cover a w h grid asked.unbroken in
        let list = list_text ours in
        passes (first_refusal (checks w h j raster list mm)) mm (judged a w h (flashes_of list) mm) (ap (λ (x : Answer). x.number) (passed-chain (checks w h j raster list mm) list_passed))
        ∙ ap (λ x. judged a w h x mm) (read_list ours all_small)
        ∙ sym (judged-sound a w h ours mm refl (cover-good a w h grid ours cover) (cover-held a w h grid ours cover) refl)

    pub own_list : (r.answer ≡ 0) × (r.verdict ≡ sound) × (r.above ≡ 0)
    own_list =
        let given : record { outcome = r; marks_after = mm' } ≡ sound_with (area_of w h raster) w h (length (flashes (area_of w h raster) w h)) mm =
        checked ∙ ap (λ l. check_gives w h j raster l mm) own-text ∙ own-given in (
          ap (λ (g : Given). g.outcome.answer) given,
          ap (λ (g : Given). g.outcome.verdict) given,
          ap (λ (g : Given). g.outcome.above) given ∙ omega arith,
        )
