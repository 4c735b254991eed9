-- What a turn that gives a flash says: the flash lies on the grid, and the next turn starts soundly. `read_flashes` goes by it.
use mathlib.Core.Path.{◌≡◌, sym, ap, subst, ◌∙◌}
use mathlib.Core.Bool.{◌&&◌}
use mathlib.Core.List.{List, map}
use mathlib.Core.Option.{Option, none, some}
use Prim.Native.Nat.{ℕ, suc, ◌+◌, ◌-◌, ◌^◌, ◌≤◌, ◌<◌}
use native.Mathlib.Omega.{arith}
use lib.IntN.{ℤ}
use lib.ListN.{length}
use Rattle.std.specs.Prelude.{Option as Maybe, Some, None}
use Rattle.lists.specs.Lists.{first, up_to}
use Rattle.lists.proofs.Truth.{bcase, ocase}
use Rattle.lists.proofs.Members.{In, first_found}
use Rattle.lists.proofs.Ranges.{from_in, map_in, gather_in}
use Rattle.lists.proofs.Searches.{first-within}
use Rattle.grid.specs.Limits.{side}
use Rattle.grid.specs.Squares.{Rectangle}
use Rattle.text.specs.Words.{stands}
use Rattle.cover.specs.Code.{Drawn}
use Rattle.gerber.specs.File.{select_line, centre_line, centre_fits, end_line}
use Rattle.gerber.specs.declared.sizes.Size.{Size}
use Rattle.gerber.specs.Code.{EachOnGrid}
use Rattle.gerber.specs.Reading.{may_select, select_at, selected, placed, placements, size_at, placed_at, on_current, flash_at, flashed, flash, flash_turn, end_turn, after_select, turned}
use Rattle.gerber.specs.Parts.{Sound}
use Rattle.gerber.specs.declared.turns.Reached.{Reached}
use Rattle.gerber.proofs.TurnLaws.{selected-sound}
use Rattle.gerber.proofs.FlashTurns.{no_flash, end_ways}

placed-drawn : (z : Size) (q : Rectangle) → 1 ≤ z.wide → z.wide ≤ side → 1 ≤ z.high → z.high ≤ side → In q (placements z) → Drawn q
placed-drawn z q a b c d m =
    let g = gather_in (λ (k : ℕ). map (placed z k) (up_to (suc side - z.high))) (up_to (suc side - z.wide)) m in
    let r = map_in (placed z g.0) (up_to (suc side - z.high)) g.2 in
    let i = from_in 0 (suc side - z.wide) g.1 in
    let j = from_in 0 (suc side - z.high) r.1 in
    let column : ℕ = g.0 in
    let row : ℕ = r.0 in
    let far : column < suc side - z.wide = omega (arith, i.1) in
    let up : row < suc side - z.high = omega (arith, j.1) in
    subst Drawn (sym r.2) (record { wide = omega arith; narrow = omega arith; tall = omega arith; low = omega arith })

flash-turned : (pitch : ℕ) (x y : ℤ) (s : Reached) (o : Option Rectangle) {q : Rectangle} {s' : Reached} → flash_turn pitch x y s o ≡ flash q s' → (o ≡ some q) × (flashed pitch x y s q ≡ s')
flash-turned pitch x y s none e = let z : ◌≡◌ {A = ℕ} 0 1 = cc in absurd (omega arith)
flash-turned pitch x y s (some p) {q} {s'} e = let a : p ≡ q = cc in let b : flashed pitch x y s p ≡ s' = cc in (ap some a, sym (ap (flashed pitch x y s) a) ∙ b)

module _ (pitch : ℕ) (x y : ℤ) (text : List ℕ) (sizes : List Size) (grid : EachOnGrid sizes) where
  drawn-at : (o : Maybe ℕ) (spot : ℕ) (q : Rectangle) → ((k : ℕ) → o ≡ Some k → k < length sizes) → on_current o (λ k. placed_at pitch x y text (size_at sizes k) spot) ≡ some q → Drawn q
  unfolding placed_at
  drawn-at None spot q h e = let z : ◌≡◌ {A = ℕ} 0 1 = cc in absurd (omega arith)
  drawn-at (Some k) spot q h e =
      let g = grid k (record { wide = 0; high = 0 }) (h k (λ i. Some k)) in
      let f = first_found (λ r. stands text spot (centre_line pitch x y r) && centre_fits pitch x y r) (placements (size_at sizes k)) e in
      placed-drawn (size_at sizes k) q g.some-wide g.wide g.some-high g.high f.0

  flash-drawn : (s : Reached) (q : Rectangle) → Sound (length sizes) s → flash_at pitch x y text sizes s ≡ some q → Drawn q
  unfolding flash_at
  flash-drawn s q o e = drawn-at s.current s.at q o.current e

  one : (t : Reached) {q : Rectangle} {s' : Reached} → Sound (length sizes) t → t.line + 1 < 2 ^ 32 → flash_turn pitch x y t (flash_at pitch x y text sizes t) ≡ flash q s'
      → Drawn q × Sound (length sizes) s' × (s'.line ≤ t.line + 1)
  one t {q} {s'} o l e =
      let f = flash-turned pitch x y t (flash_at pitch x y text sizes t) e in
      let n : t.line + 1 ≡ s'.line = ap (λ (r : Reached). r.line) f.1 in
      (flash-drawn t q o f.0, subst (Sound (length sizes)) f.1 (record { line = l; used = o.used; current = o.current }), omega arith)

  pub turned-flash : (s s' : Reached) (q : Rectangle) → Sound (length sizes) s → s.line + 2 < 2 ^ 32 → turned pitch x y text sizes s ≡ flash q s'
      → Drawn q × Sound (length sizes) s' × (s'.line ≤ s.line + 2)
  unfolding turned select_at
  turned-flash s s' q o l e =
      ocase (first (λ k. stands text s.at (select_line k) && may_select s k) (up_to (length sizes)))
      (λ n.
      let f = sym (ap (after_select pitch x y text sizes s) n) ∙ e in
      bcase (stands text s.at end_line)
      (λ u. absurd (no_flash (end_turn text (length sizes) s) (end_ways text (length sizes) s) (rw u at f)))
      (λ u. let r = one s o (omega arith) (rw u at f) in (r.0, r.1, omega (arith, r.2))))
      (λ k n.
      let h : k < length sizes = omega (arith, (first-within (λ j. stands text s.at (select_line j) && may_select s j) 0 (length sizes) n).1) in
      let r = one (selected s k) (selected-sound (length sizes) s k h o (omega arith)) (omega arith) (sym (ap (after_select pitch x y text sizes s) n) ∙ e) in
      (r.0, r.1, omega (arith, r.2)))
