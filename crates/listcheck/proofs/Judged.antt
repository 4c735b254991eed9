-- The verdict as the code comes to it: bad, or failing that bare, or failing that sound; and no sound list is shorter than the least number.
-- Each law opens `judged` on one of its ways; the last is the pigeonhole of grid with our marks. `judge` uses it.
use mathlib.Core.Path.{◌≡◌, refl, sym, ap, ◌∙◌}
use mathlib.Core.List.{List, []}
use mathlib.Core.Option.{Option, none, some}
use Prim.Native.Nat.{ℕ, ◌≤◌}
use native.Mathlib.Omega.{arith}
use lib.ListN.{length}
use Rattle.grid.specs.Lines.{column, row}
use Rattle.grid.specs.Squares.{Area, InGrid, Rectangle, Square, square}
use Rattle.grid.specs.Code.{place_of}
use Rattle.grid.specs.declared.lines.Column.{Column}
use Rattle.grid.specs.declared.lines.Row.{Row}
use Rattle.grid.proofs.Pigeonhole.{pigeonhole}
use Rattle.cover.specs.Flashes.{flashes}
use Rattle.cover.specs.Marks.{marks}
use Rattle.cover.proofs.MarkLaws.{marks_evidence, marks-flashes}
use Rattle.listcheck.specs.Verdict.{bad_line, bare_square}
use Rattle.listcheck.specs.Checked.{Given, bad_at, bare_at, sound_with, unless_bad, unless_bare, judged}
use Rattle.listcheck.specs.Code.{found_of}
use Rattle.listcheck.specs.declared.entry.Checked.{Checked}
use Rattle.std.specs.Prelude.{Option as Found, Some, None}
use Rattle.listcheck.proofs.Sound.{covers}

-- what a match tells
pub bad-told : (o : Option ℕ) {b : Found ℕ} {line : ℕ} → b ≡ found_of o → b ≡ Some line → o ≡ some line
bad-told none e k = let z : ◌≡◌ {A = ℕ} 0 1 = cc in absurd (omega arith)
bad-told (some n) {line = line} e k = let m : n ≡ line = cc in ap some m

pub good-told : (o : Option ℕ) {b : Found ℕ} → b ≡ found_of o → b ≡ None → o ≡ none
good-told none e k = refl
good-told (some n) e k = let z : ◌≡◌ {A = ℕ} 0 1 = cc in absurd (omega arith)

pub bare-told : (o : Option Square) {p : Found (Column × Row)} {c : Column} {r : Row} → p ≡ place_of o → p ≡ Some (c, r) → o ≡ some (square c.0 r.0)
bare-told none e k = let z : ◌≡◌ {A = ℕ} 0 1 = cc in absurd (omega arith)
bare-told (some s) {c = c} {r = r} e k =
    let m : ◌≡◌ {A = Column × Row} (column s.column, row s.row) (c, r) = cc in
    λ i. some (square (m i).0.0 (m i).1.0)

pub held-told : (o : Option Square) {p : Found (Column × Row)} → p ≡ place_of o → p ≡ None → o ≡ none
held-told none e k = refl
held-told (some s) e k = let z : ◌≡◌ {A = ℕ} 0 1 = cc in absurd (omega arith)

module _ (a : Area) (w h : ℕ) (qs : List Rectangle) (m : List ℕ) {n : ℕ} (many : n ≡ length qs) where
  pub judged-bad : {r : Checked} {line : ℕ} → bad_line a w h qs ≡ some line → r ≡ (bad_at n line []).outcome → record { outcome = r; marks_after = m } ≡ judged a w h qs m
  unfolding judged
  judged-bad {line = line} e k =
      (λ i. record { outcome = k i; marks_after = m })
      ∙ ap (λ z. bad_at z line m) many
      ∙ sym (ap (λ o. unless_bad o (length qs) m (unless_bare (bare_square a w h qs) (length qs) m (sound_with a w h (length qs) m))) e)

  module _ (good : bad_line a w h qs ≡ none) where
    on : judged a w h qs m ≡ unless_bare (bare_square a w h qs) (length qs) m (sound_with a w h (length qs) m)
    unfolding judged
    on = ap (λ o. unless_bad o (length qs) m (unless_bare (bare_square a w h qs) (length qs) m (sound_with a w h (length qs) m))) good

    pub judged-bare : {r : Checked} {s : Square} → bare_square a w h qs ≡ some s → r ≡ (bare_at n s []).outcome → record { outcome = r; marks_after = m } ≡ judged a w h qs m
    judged-bare {s = s} e k =
        (λ i. record { outcome = k i; marks_after = m })
        ∙ ap (λ z. bare_at z s m) many
        ∙ sym (on ∙ ap (λ o. unless_bare o (length qs) m (sound_with a w h (length qs) m)) e)

    pub judged-sound : {g : Given} → bare_square a w h qs ≡ none → g ≡ sound_with a w h n m → g ≡ judged a w h qs m
    judged-sound e k = k ∙ ap (λ z. sound_with a w h z m) many ∙ sym (on ∙ ap (λ o. unless_bare o (length qs) m (sound_with a w h (length qs) m)) e)

    -- our marks lie in different flashes of the list
    pub no_shorter : InGrid w h a → bare_square a w h qs ≡ none → length (flashes a w h) ≤ n
    no_shorter grid e = omega (arith, many, pigeonhole a qs (marks a w h) (covers a w h grid qs good e) (marks_evidence a w h), marks-flashes a w h)
