-- Two squares are independent exactly where the box that they span is not all copper: each rectangle that holds both holds the box.
-- So independence is decided by running a test; Tried.antt runs it.
use mathlib.Core.Path.{◌≡◌}
use mathlib.Core.Bool.{Bool, true, false}
use mathlib.Core.List.{List}
use mathlib.Core.Logic.{◌↔◌}
use Prim.Native.Nat.{ℕ, suc, ◌-◌, ◌≤◌, min, max}
use native.Mathlib.Omega.{arith}
use Rattle.lists.specs.Lists.{all, from}
use Rattle.lists.proofs.Truth.{never, fails}
use Rattle.lists.proofs.Members.{all_of, all_if}
use Rattle.lists.proofs.Ranges.{from_in, in_from}
use Rattle.grid.specs.Squares.{Area, Square, Rectangle, Within, InCopper, Copper, Independent}

-- the columns and the rows of a rectangle, and whether all of its squares are copper
abbrev span : ℕ → ℕ → List ℕ
span x y = from x (suc y - x)

abbrev pub filled : Area → Rectangle → Bool
filled a q = all (λ c. all (a c) (span q.bottom q.top)) (span q.first q.last)

abbrev pub box : Square → Square → Rectangle
box s t = record {
  first = min s.column t.column;
  last = max s.column t.column;
  bottom = min s.row t.row;
  top = max s.row t.row;
}

module _ (a : Area) where
  pub filled-copper : (q : Rectangle) → filled a q ≡ true → (s : Square) → Within q s → Copper a s
  filled-copper q t s v =
      all_of (a s.column)
      (all_of (λ c. all (a c) (span q.bottom q.top)) t (in_from q.first (suc q.last - q.first) s.column v.from-left (omega arith)))
      (in_from q.bottom (suc q.top - q.bottom) s.row v.from-below (omega arith))

  pub copper-filled : (q : Rectangle) → ((s : Square) → Within q s → Copper a s) → filled a q ≡ true
  copper-filled q h =
      all_if (λ c. all (a c) (span q.bottom q.top)) (span q.first q.last)
      (λ c m.
      all_if (a c) (span q.bottom q.top)
      (λ r n.
      let x = from_in q.first (suc q.last - q.first) m in
      let y = from_in q.bottom (suc q.top - q.bottom) n in
      h (record { column = c; row = r })
      (record { from-left = omega arith; to-right = omega arith; from-below = omega arith; to-above = omega arith })))

  pub filled_in : (q : Rectangle) → q.first ≤ q.last → q.bottom ≤ q.top → filled a q ≡ true → InCopper a q
  filled_in q w h t = record { wide = w; high = h; copper = filled-copper q t }

  pub independent : (s t : Square) → Independent a s t ↔ (filled a (box s t) ≡ false)
  independent s t = (
    λ i.
        fails (filled a (box s t))
        (λ f.
        i (box s t) (filled_in (box s t) (omega arith) (omega arith) f)
        (record { from-left = omega arith; to-right = omega arith; from-below = omega arith; to-above = omega arith })
        (record { from-left = omega arith; to-right = omega arith; from-below = omega arith; to-above = omega arith })),
    λ f q i u v.
        never
        (copper-filled (box s t)
        (λ x k. i.copper x (record { from-left = omega arith; to-right = omega arith; from-below = omega arith; to-above = omega arith })))
        f,
  )
