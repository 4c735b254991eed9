-- The flashes of a file, turn by turn, held in a room: what was asked is what is asked from here on, behind the flashes that the room holds.
-- `read_flashes` goes by a law for each way a turn can go.
use mathlib.Core.Path.{◌≡◌, refl, sym, ap, subst, ◌∙◌}
use mathlib.Core.List.{List, [], ◌∷◌, ◌++◌}
use mathlib.Core.Logic.{◌⊎◌, inl, inr}
use mathlib.Core.Option.{Option, none, some}
use Prim.Native.Nat.{ℕ, zero, suc, ◌+◌, ◌-◌, ◌*◌, ◌≤◌, ◌<◌}
use native.Mathlib.Omega.{arith}
use lib.Dec.{eqb}
use lib.IntN.{ℤ}
use lib.ListN.{length, take, length-append}
use Rattle.std.specs.Prelude.{Some, None, Ok, Err}
use Rattle.lists.specs.Lists.{gather}
use Rattle.lists.proofs.Truth.{bcase, ocase}
use Rattle.lists.proofs.Ranges.{gather_append}
use Rattle.grid.specs.Limits.{side, flash_record, flash_room_size}
use Rattle.grid.specs.Squares.{Rectangle}
use Rattle.grid.specs.Rooms.{written}
use Rattle.grid.proofs.Writing.{through-written, length-written}
use Rattle.cover.specs.Code.{rectangle_of}
use Rattle.cover.specs.Records.{flash_bytes}
use Rattle.cover.specs.declared.flashes.Flash.{Flash}
use Rattle.text.specs.Words.{stands}
use Rattle.gerber.specs.File.{end_line}
use Rattle.gerber.specs.declared.sizes.Size.{Size}
use Rattle.gerber.specs.Reading.{Read, not_ruled, flashes_read, Turned, flash, over, bad, select_at, selected, flash_at, flashed, flash_turn, end_turn, after_select, turned, on_turn, read_flashes}
use Rattle.gerber.specs.Parts.{turn_of, flash_is, bad_line, ReadInto}
use Rattle.gerber.specs.declared.turns.Reached.{Reached}
use Rattle.gerber.specs.declared.turns.BadLine.{BadLine}

-- a turn by what the code has of it
is-over : (t : Turned) → turn_of t ≡ Ok None → t ≡ over
is-over (flash q s) e = let z : ◌≡◌ {A = ℕ} 0 1 = cc in absurd (omega arith)
is-over over e = refl
is-over (bad n) e = let z : ◌≡◌ {A = ℕ} 0 1 = cc in absurd (omega arith)

is-bad : (t : Turned) {b : BadLine} → turn_of t ≡ Err b → t ≡ bad b.0
is-bad (flash q s) e = let z : ◌≡◌ {A = ℕ} 0 1 = cc in absurd (omega arith)
is-bad over e = let z : ◌≡◌ {A = ℕ} 0 1 = cc in absurd (omega arith)
is-bad (bad n) {b} e = let a : bad_line n ≡ b = cc in ap (λ (c : BadLine). bad c.0) a

pub is-flash : (t : Turned) {f : Flash} {s : Reached} → turn_of t ≡ Ok (Some (f, s)) → t ≡ flash (rectangle_of f) s
is-flash (flash q r) {f} {s} e =
    let p : ◌≡◌ {A = Flash × Reached} (flash_is q, r) (f, s) = cc in
    ap (λ (z : Flash × Reached). flash (rectangle_of z.0) z.1) p
is-flash over e = let z : ◌≡◌ {A = ℕ} 0 1 = cc in absurd (omega arith)
is-flash (bad n) e = let z : ◌≡◌ {A = ℕ} 0 1 = cc in absurd (omega arith)

-- a flash stands in a line
flash-line : (pitch : ℕ) (x y : ℤ) (s : Reached) (o : Option Rectangle) {q : Rectangle} {s' : Reached} → flash_turn pitch x y s o ≡ flash q s' → 1 ≤ s'.line
flash-line pitch x y s none e = let z : ◌≡◌ {A = ℕ} 0 1 = cc in absurd (omega arith)
flash-line pitch x y s (some p) {q} {s'} e = let a : flashed pitch x y s p ≡ s' = cc in omega (arith, ap (λ (r : Reached). r.line) a)

pub no_flash : (t : Turned) {q : Rectangle} {s' : Reached} → (t ≡ over) ⊎ ((n : ℕ) × (t ≡ bad n)) → t ≡ flash q s' → ⊥
no_flash t (inl a) e = let f = sym a ∙ e in let z : ◌≡◌ {A = ℕ} 0 1 = cc in absurd (omega arith)
no_flash t (inr (n, a)) e = let f = sym a ∙ e in let z : ◌≡◌ {A = ℕ} 0 1 = cc in absurd (omega arith)

pub end_ways : (text : List ℕ) (count : ℕ) (s : Reached) → (end_turn text count s ≡ over) ⊎ ((n : ℕ) × (end_turn text count s ≡ bad n))
end_ways text count s =
    bcase (eqb s.used count)
    (λ u. bcase (eqb (s.at + length end_line) (length text)) (λ v. rw (u, v) (inl refl)) (λ v. rw (u, v) (inr (s.line + 1, refl))))
    (λ u. rw u (inr (s.line, refl)))

pub turned-line : (pitch : ℕ) (x y : ℤ) (text : List ℕ) (sizes : List Size) (s : Reached) {q : Rectangle} {s' : Reached} → turned pitch x y text sizes s ≡ flash q s' → 1 ≤ s'.line
unfolding turned
turned-line pitch x y text sizes s e =
    ocase (select_at text (length sizes) s)
    (λ n.
    let f = sym (ap (after_select pitch x y text sizes s) n) ∙ e in
    bcase (stands text s.at end_line)
    (λ u. absurd (no_flash (end_turn text (length sizes) s) (end_ways text (length sizes) s) (rw u at f)))
    (λ u. flash-line pitch x y s (flash_at pitch x y text sizes s) (rw u at f)))
    (λ k n. flash-line pitch x y (selected s k) (flash_at pitch x y text sizes (selected s k)) (sym (ap (after_select pitch x y text sizes s) n) ∙ e))

module _ (pitch : ℕ) (x y : ℤ) (text : List ℕ) (sizes : List Size) where
  -- n flashes are in the room, and the others are left
  pub record Sofar (whole : Read) (room₀ : List ℕ) (n : ℕ) (s : Reached) (room : List ℕ) : Type 0 where
    pub few : n ≤ side
    pub as_long : length room ≡ length room₀
    pub flashes : List Rectangle
    pub many : length flashes ≡ n
    pub held : take (n * flash_record) room ≡ gather flash_bytes flashes
    pub same : whole ≡ read_flashes (side - n) pitch x y text sizes flashes s

  pub sofar : (s : Reached) (room : List ℕ) → Sofar (read_flashes side pitch x y text sizes [] s) room 0 s room
  sofar s room = record { few = omega arith; as_long = refl; flashes = []; many = refl; held = refl; same = refl }

  -- whatever is left to come
  ends : (left : ℕ) (qs : List Rectangle) (s : Reached) → turned pitch x y text sizes s ≡ over → read_flashes left pitch x y text sizes qs s ≡ flashes_read qs
  unfolding read_flashes
  ends zero qs s e = rw e
  ends (suc left) qs s e = rw e

  breaks : (left : ℕ) (qs : List Rectangle) (s : Reached) {line : ℕ} → turned pitch x y text sizes s ≡ bad line → read_flashes left pitch x y text sizes qs s ≡ not_ruled line
  unfolding read_flashes
  breaks zero qs s e = rw e
  breaks (suc left) qs s e = rw e

  module _ {whole : Read} {room₀ : List ℕ} {n : ℕ} {s : Reached} {room : List ℕ} (o : Sofar whole room₀ n s room) where
    pub turn-over : turn_of (turned pitch x y text sizes s) ≡ Ok None → ReadInto whole (Ok n) room
    turn-over e =
        let w : whole ≡ flashes_read o.flashes = o.same ∙ ends (side - n) o.flashes s (is-over (turned pitch x y text sizes s) e) in
        subst (λ r. ReadInto r (Ok n) room) (sym w)
        (ap Ok (sym o.many), omega (arith, o.few, o.many), ap (λ (k : ℕ). take (k * flash_record) room) o.many ∙ o.held)

    pub turn-bad : {b : BadLine} → turn_of (turned pitch x y text sizes s) ≡ Err b → ReadInto whole (Err b) room
    turn-bad {b} e =
        subst (λ r. ReadInto r (Err b) room) (sym (o.same ∙ breaks (side - n) o.flashes s (is-bad (turned pitch x y text sizes s) e))) refl

    -- past the last flash that a file may have
    pub turn-past : {f : Flash} {s' : Reached} → n ≡ side → turn_of (turned pitch x y text sizes s) ≡ Ok (Some (f, s')) → ReadInto whole (Err (bad_line (s'.line - 1))) room
    unfolding read_flashes
    turn-past {f} {s'} h e =
        let k : side - n ≡ 0 = omega arith in
        let w : whole ≡ not_ruled (s'.line - 1) =
        o.same ∙ ap (λ (m : ℕ). read_flashes m pitch x y text sizes o.flashes s) k ∙ ap (λ t. on_turn t o.flashes (λ q r. not_ruled (r.line - 1))) (is-flash (turned pitch x y text sizes s) e) in
        subst (λ r. ReadInto r (Err (bad_line (s'.line - 1))) room) (sym w) refl

    pub turn_on : {f : Flash} {s' : Reached} → n < side → flash_room_size ≤ length room → turn_of (turned pitch x y text sizes s) ≡ Ok (Some (f, s'))
        → {room' : List ℕ} → room' ≡ written room (n * flash_record) (flash_bytes (rectangle_of f)) → Sofar whole room₀ (n + 1) s' room'
    unfolding read_flashes
    turn_on {f} {s'} h l e {room'} after =
        let q = rectangle_of f in
        let k : side - n ≡ suc (side - (n + 1)) = omega arith in
        let fits : n * flash_record + length (flash_bytes q) ≤ length room = omega arith in
        let m : (n + 1) * flash_record ≡ n * flash_record + length (flash_bytes q) = omega arith in
        record {
          few = omega arith;
          as_long = ap length after ∙ length-written room (n * flash_record) (flash_bytes q) fits ∙ o.as_long;
          flashes = o.flashes ++ (q ∷ []);
          many = length-append o.flashes (q ∷ []) ∙ omega (arith, o.many);
          held =
              ap (take ((n + 1) * flash_record)) after
              ∙ ap (λ (j : ℕ). take j (written room (n * flash_record) (flash_bytes q))) m
              ∙ through-written room (n * flash_record) (flash_bytes q) fits
              ∙ ap (λ (b : List ℕ). b ++ flash_bytes q) o.held
              ∙ sym (gather_append flash_bytes o.flashes (q ∷ []));
          same =
              o.same
              ∙ ap (λ (j : ℕ). read_flashes j pitch x y text sizes o.flashes s) k
              ∙ ap (λ t. on_turn t o.flashes (λ p r. read_flashes (side - (n + 1)) pitch x y text sizes (o.flashes ++ (p ∷ [])) r)) (is-flash (turned pitch x y text sizes s) e);
        }
