-- Every number that becomes a byte fits one: columns are below the width, rows below the height, and both are at most 64.
use mathlib.Core.List.Memᴰ
use mathlib.Core.List.{List, [], ◌∷◌}
use mathlib.Core.Logic.{⊎_elim}
use Prim.Native.Nat.{ℕ, ◌≤◌, ◌<◌}
use native.Mathlib.Omega.{arith}
use lib.ListN.{take}
use Rattle.lists.specs.Lists.{gather}
use Rattle.lists.proofs.Members.{In}
use Rattle.lists.proofs.Ranges.{gather_in}
use Rattle.lists.proofs.Positions.{take_in}
use Rattle.grid.specs.Limits.{side}
use Rattle.grid.specs.Squares.{Area, InGrid, Unbroken}
use Rattle.cover.specs.Flashes.{flashes}
use Rattle.cover.specs.Marks.{marks}
use Rattle.cover.specs.Records.{flash_bytes, mark_bytes}
use Rattle.cover.proofs.Covering.{flash-copper, flash-fits}
use Rattle.cover.proofs.MarkLaws.{marks-fit}

-- a byte is one of those written out
one_of : {n b x : ℕ} {xs : List ℕ} → x < n → (In b xs → b < n) → In b (x ∷ xs) → b < n
one_of u later k = ⊎_elim (λ e. omega arith) later (Memᴰ.cases_cons k)

none_of : {n b : ℕ} → In b [] → b < n
none_of k = absurd (Memᴰ.not-nil k)

module _ (a : Area) (w h : ℕ) (narrow : w ≤ side) (low : h ≤ side) where
  pub flash_byte : InGrid w h a → Unbroken a → (b : ℕ) → In b (gather flash_bytes (flashes a w h)) → b < side
  flash_byte grid unbroken b k =
      let r = gather_in flash_bytes (flashes a w h) k in
      let c = flash-copper a w h grid unbroken r.0 r.1 in
      let l = flash-fits a w h grid unbroken r.0 r.1 in
      one_of (omega (arith, c.wide)) (one_of (omega arith) (one_of (omega (arith, c.high)) (one_of (omega arith) none_of))) r.2

  pub mark_byte : (n b : ℕ) → In b (gather mark_bytes (take n (marks a w h))) → b < side
  mark_byte n b k =
      let r = gather_in mark_bytes (take n (marks a w h)) k in
      let l = marks-fit a w h r.0 (take_in n (marks a w h) r.1) in
      one_of (omega arith) (one_of (omega arith) none_of) r.2
