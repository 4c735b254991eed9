-- Rule 5's bracket where no dependent bracket ends before a line: a minimal one that ends there, or none where the line is past the last.
-- No other minimal bracket has its right line. `bracket_from` uses it.
use mathlib.Core.Path.{◌≡◌, ap, ◌∙◌}
use mathlib.Core.Bool.{true}
use mathlib.Core.List.{List}
use mathlib.Core.Option.{none, some}
use Prim.Native.Nat.{ℕ, ◌≤◌, ◌<◌}
use native.Mathlib.Omega.{arith}
use Rattle.lists.proofs.Truth.{ocase, never}
use Rattle.lists.proofs.Members.{first-none}
use Rattle.method.specs.Intervals.{Interval as Span}
use Rattle.method.specs.Dependent.{minimal}
use Rattle.method.specs.Final.{by_right, leftmost}
use Rattle.method.proofs.Minimal.{dependent-proper, minimal-dependent, minimal_right}
use Rattle.method.proofs.Search.{lines-by_right, leftmost-minimal, leftmost-least}
use Rattle.intervals.specs.Search.{NoneBefore}

module _ (n : ℕ) (s : List Span) where
  pub leftmost-at : (d : Span) → minimal s d ≡ true → d.right ≤ n → NoneBefore s d.right → leftmost n s ≡ some d
  unfolding leftmost
  leftmost-at d m r before =
      let t = minimal-dependent s d m in
      ocase (leftmost n s)
      (λ e. absurd (never m (first-none (minimal s) (by_right n) e (lines-by_right n d (dependent-proper s d t) r))))
      (λ x e.
      let u = leftmost-minimal n s e in
      let a = leftmost-least n s e d t in
      let b = before x (minimal-dependent s x u.0) in
      e ∙ ap some (minimal_right s x d u.0 m (omega arith)))

  pub leftmost-past : (r : ℕ) → n < r → NoneBefore s r → leftmost n s ≡ none
  leftmost-past r h before =
      ocase (leftmost n s)
      (λ e. e)
      (λ x e. let u = leftmost-minimal n s e in let b = before x (minimal-dependent s x u.0) in absurd (omega arith))
