-- The lines of a list from a spot on, one after the other: what is left gives up its first flash, and the bound on the number of lines is never met.
-- Each line has bytes of its own, so as many lines as bytes are left always suffice. Every loop over the list uses it.
use mathlib.Core.Path.{◌≡◌, refl, sym, ap, ◌∙◌}
use mathlib.Core.List.{List, [], ◌∷◌}
use Prim.Native.Nat.{ℕ, zero, suc, ◌+◌, ◌-◌, ◌≤◌}
use native.Mathlib.Omega.{arith}
use lib.ListN.{length, length-append}
use Rattle.grid.specs.Limits.{flash_record}
use Rattle.grid.specs.Squares.{Rectangle}
use Rattle.text.specs.Line.{line, fields, line_numbers, line_at, numbers_left, ReadLine}
use Rattle.text.proofs.Passes.{passes-inside}
use Rattle.text.proofs.Lines.{whole-ruled}
use Rattle.job.specs.JobText.{number_limit}
use Rattle.printed.specs.Printed.{flash_word}
use Rattle.cover.specs.Code.{rectangle_of}
use Rattle.cover.specs.Records.{flash_of}
use Rattle.cover.specs.declared.flashes.Flash.{Flash}
use Rattle.listcheck.specs.FlashList.{flash_line_at, flash_said, said_then, flashes_from, end_then, end_from, flashes_at, flashes_of, end_at}
use Rattle.listcheck.specs.Code.{flash_is, said_of, lines_of}
use Rattle.listcheck.specs.declared.lines.Flashes.{Flashes}
use Rattle.listcheck.specs.declared.lines.Lines.{Lines}
use Rattle.std.specs.Iterator.{YieldsFirstBy}
use Rattle.std.proofs.lemmas.Iterator.{YieldsList}
use Rattle.std.proofs.lemmas.Iterator.Consumers.{YieldsList-from_first}
use Rattle.std.specs.Prelude.{Option, Some, None}

-- the two cases of a line
ncase {ℓ} : {C : Type ℓ} (x : Option ℕ) → ((j : ℕ) → x ≡ Some j → C) → (x ≡ None → C) → C
ncase (Some j) s n = s j refl
ncase None s n = n refl

-- what `read_flash` answered, as a line
pub said-flash : (x : Option ℕ) (q : Rectangle) {r : Option (Flash × ℕ)} {f : Flash} {next : ℕ} → r ≡ said_of x q → r ≡ Some (f, next) → (x ≡ Some next) × (f ≡ flash_is q)
said-flash (Some j) q {f = f} {next = next} e k = let m : ◌≡◌ {A = Flash × ℕ} (flash_is q, j) (f, next) = cc in (ap (λ (p : Flash × ℕ). Some p.1) m, ap (λ (p : Flash × ℕ). p.0) (sym m))
said-flash None q e k = let z : ◌≡◌ {A = ℕ} 0 1 = cc in absurd (omega arith)

pub said-nothing : (x : Option ℕ) (q : Rectangle) {r : Option (Flash × ℕ)} → r ≡ said_of x q → r ≡ None → x ≡ None
said-nothing (Some j) q e k = let z : ◌≡◌ {A = ℕ} 0 1 = cc in absurd (omega arith)
said-nothing None q e k = refl

module _ (text : List ℕ) where
  long : (spot : ℕ) → 5 ≤ length (line flash_word (line_numbers text spot flash_word flash_record))
  unfolding line
  long spot = let ns : List ℕ = line_numbers text spot flash_word flash_record in omega (arith, length-append flash_word (fields ns))

  -- a line goes on, and ends inside the text
  pub onward : (spot : ℕ) {next : ℕ} → flash_line_at text spot ≡ Some next → (spot + 5 ≤ next) × (next ≤ length text)
  unfolding flash_line_at
  onward spot e =
      let r = whole-ruled text spot flash_word number_limit flash_record e in
      let l = long spot in
      (omega (arith, r.there.past), passes-inside text spot (line flash_word (line_numbers text spot flash_word flash_record)) (omega arith) r.there)

  -- one line of a bounded number
  flashes-stop : (n spot : ℕ) → flash_line_at text spot ≡ None → flashes_from n text spot ≡ []
  unfolding flashes_from
  flashes-stop zero spot e = refl
  flashes-stop (suc n) spot e = ap (λ x. said_then x (flash_said text spot) (flashes_from n text)) e

  flashes-on : (n spot : ℕ) {next : ℕ} → flash_line_at text spot ≡ Some next → flashes_from (suc n) text spot ≡ flash_said text spot ∷ flashes_from n text next
  unfolding flashes_from
  flashes-on n spot e = ap (λ x. said_then x (flash_said text spot) (flashes_from n text)) e

  end-stop : (n spot : ℕ) → flash_line_at text spot ≡ None → end_from n text spot ≡ spot
  unfolding end_from
  end-stop zero spot e = refl
  end-stop (suc n) spot e = ap (λ x. end_then x spot (end_from n text)) e

  end_on : (n spot : ℕ) {next : ℕ} → flash_line_at text spot ≡ Some next → end_from (suc n) text spot ≡ end_from n text next
  unfolding end_from
  end_on n spot e = ap (λ x. end_then x spot (end_from n text)) e

  -- any bound that is no less than the bytes left gives the same
  flashes-enough : (m n spot : ℕ) → length text - spot ≤ m → length text - spot ≤ n → flashes_from m text spot ≡ flashes_from n text spot
  flashes-enough zero n spot u v =
      ncase (flash_line_at text spot)
      (λ j e. absurd (let o = onward spot e in omega arith))
      (λ e. flashes-stop zero spot e ∙ sym (flashes-stop n spot e))
  flashes-enough (suc m) zero spot u v =
      ncase (flash_line_at text spot)
      (λ j e. absurd (let o = onward spot e in omega arith))
      (λ e. flashes-stop (suc m) spot e ∙ sym (flashes-stop zero spot e))
  flashes-enough (suc m) (suc n) spot u v =
      ncase (flash_line_at text spot)
      (λ j e.
      let o = onward spot e in
      flashes-on m spot e ∙ ap (flash_said text spot ∷◌) (flashes-enough m n j (omega arith) (omega arith)) ∙ sym (flashes-on n spot e))
      (λ e. flashes-stop (suc m) spot e ∙ sym (flashes-stop (suc n) spot e))

  end-enough : (m n spot : ℕ) → length text - spot ≤ m → length text - spot ≤ n → end_from m text spot ≡ end_from n text spot
  end-enough zero n spot u v =
      ncase (flash_line_at text spot)
      (λ j e. absurd (let o = onward spot e in omega arith))
      (λ e. end-stop zero spot e ∙ sym (end-stop n spot e))
  end-enough (suc m) zero spot u v =
      ncase (flash_line_at text spot)
      (λ j e. absurd (let o = onward spot e in omega arith))
      (λ e. end-stop (suc m) spot e ∙ sym (end-stop zero spot e))
  end-enough (suc m) (suc n) spot u v =
      ncase (flash_line_at text spot)
      (λ j e. let o = onward spot e in end_on m spot e ∙ end-enough m n j (omega arith) (omega arith) ∙ sym (end_on n spot e))
      (λ e. end-stop (suc m) spot e ∙ sym (end-stop (suc n) spot e))

  -- so of what is left from a spot on
  module _ (spot : ℕ) where
    pub rest-stop : flash_line_at text spot ≡ None → flashes_at text spot ≡ []
    rest-stop e = flashes-stop (length text - spot) spot e

    pub stops_end : flash_line_at text spot ≡ None → end_at text spot ≡ spot
    stops_end e = end-stop (length text - spot) spot e

    module _ {next : ℕ} (e : flash_line_at text spot ≡ Some next) where
      one_less : length text - spot ≡ suc (length text - suc spot)
      one_less = let o = onward spot e in omega arith

      pub rest-on : flashes_at text spot ≡ flash_said text spot ∷ flashes_at text next
      rest-on =
          let o = onward spot e in
          ap (λ n. flashes_from n text spot) one_less
          ∙ flashes-on (length text - suc spot) spot e
          ∙ ap (flash_said text spot ∷◌) (flashes-enough (length text - suc spot) (length text - next) next (omega arith) (omega arith))

      pub goes_end : end_at text spot ≡ end_at text next
      goes_end =
          let o = onward spot e in
          ap (λ n. end_from n text spot) one_less
          ∙ end_on (length text - suc spot) spot e
          ∙ end-enough (length text - suc spot) (length text - next) next (omega arith) (omega arith)

  -- no more lines than bytes, and these end inside the text
  pub ends-inside : (n spot : ℕ) → spot ≤ length text → (spot + length (flashes_from n text spot) ≤ end_from n text spot) × (end_from n text spot ≤ length text)
  unfolding flashes_from end_from
  ends-inside zero spot u = (omega arith, u)
  ends-inside (suc n) spot u =
      ncase (flash_line_at text spot)
      (λ j e.
      let o = onward spot e in
      let r = ends-inside n j o.1 in
      let f = ap length (flashes-on n spot e) in
      let g = end_on n spot e in
      (omega arith, omega arith))
      (λ e. let f = ap length (flashes-stop (suc n) spot e) in let g = end-stop (suc n) spot e in (omega arith, omega arith))

  -- a turn of a loop over the lines: what is left is the flash that was read, and what is left from the next line on
  pub record Turn (spot : ℕ) (f : Flash) (next : ℕ) : Type 0 where
    pub rest : flashes_at text spot ≡ rectangle_of f ∷ flashes_at text next
    pub ends : end_at text spot ≡ end_at text next
    pub further : spot + 5 ≤ next
    pub inside : next ≤ length text

  module _ (spot : ℕ) {r : Option (Flash × ℕ)} (e : r ≡ said_of (flash_line_at text spot) (flash_said text spot)) where
    pub turn : {f : Flash} {next : ℕ} → r ≡ Some (f, next) → Turn spot f next
    turn {f} {next} k =
        let s = said-flash (flash_line_at text spot) (flash_said text spot) e k in
        let o = onward spot s.0 in
        record {
          rest = rest-on spot s.0 ∙ ap (λ (g : Flash). rectangle_of g ∷ flashes_at text next) (sym s.1);
          ends = goes_end spot s.0;
          further = o.0;
          inside = o.1;
        }

    -- and where no line stands, nothing is left
    pub over : r ≡ None → (flashes_at text spot ≡ []) × (end_at text spot ≡ spot)
    over k = let n = said-nothing (flash_line_at text spot) (flash_said text spot) e k in (rest-stop spot n, stops_end spot n)

  -- the numbers that `read_line` leaves are the flash of the line
  pub flash-read : (spot : ℕ) {r : Option ℕ} {left : List ℕ} {next : ℕ} → ReadLine text spot flash_word number_limit (0 ∷ 0 ∷ 0 ∷ 0 ∷ []) r left → r ≡ Some next
      → ◌≡◌ {A = Option (Flash × ℕ)} (Some (flash_is (flash_of left), next)) (said_of (flash_line_at text spot) (flash_said text spot))
  unfolding flash_line_at flash_said
  flash-read spot {next = next} l k =
      let e : line_at text spot flash_word number_limit flash_record ≡ Some next = sym l.past ∙ k in
      let same = l.left ∙ ap (λ x. numbers_left x (line_numbers text spot flash_word flash_record)) e in
      ap (λ ns. Some (flash_is (flash_of ns), next)) same
      ∙ sym (ap (λ x. said_of x (flash_of (line_numbers text spot flash_word flash_record))) e)

  pub none_read : (spot : ℕ) {r : Option ℕ} {left : List ℕ} → ReadLine text spot flash_word number_limit (0 ∷ 0 ∷ 0 ∷ 0 ∷ []) r left → r ≡ None
      → None ≡ said_of (flash_line_at text spot) (flash_said text spot)
  unfolding flash_line_at flash_said
  none_read spot l k = sym (ap (λ x. said_of x (flash_of (line_numbers text spot flash_word flash_record))) (sym l.past ∙ k))

-- a chain over the flashes of a list gives each of them
pub flashes-come : {s : Flashes} (qs : List Rectangle) → flashes_at s.text.now s.spot ≡ qs → YieldsList (YieldsFirstBy rectangle_of (λ (f : Flashes). flashes_at f.text.now f.spot)) rectangle_of s qs
flashes-come qs e = YieldsList-from_first rectangle_of (λ (f : Flashes). flashes_at f.text.now f.spot) qs e

-- and no more of them come than the text has bytes
pub flashes-few : (s : Flashes) (text : List ℕ) → flashes_at s.text.now s.spot ≡ flashes_of text → length (flashes_at s.text.now s.spot) ≤ length text
unfolding flashes_of
flashes-few s text e = let i = ends-inside text (length text - 0) 0 (omega arith) in omega (arith, ap length e, i.0, i.1)

-- so one line more than those that are as ruled can be counted
pub count_fits : (text : List ℕ) (l : Lines) → l ≡ lines_of text → l.count ≤ length text
unfolding flashes_of
count_fits text l e = let i = ends-inside text (length text - 0) 0 (omega arith) in omega (arith, ap (λ (x : Lines). x.count) e, i.0, i.1)
