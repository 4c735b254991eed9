-- Two tables with the same rows and the same last line are one: what a table keeps of them can hold in one way only.
use Rattle.std.proofs.Props.{props}
use mathlib.Core.Path.{◌≡◌}
use mathlib.Core.HLevel.{is_prop→PathP}
use mathlib.Core.List.{List}
use Prim.Native.Nat.{ℕ}
use Rattle.intervals.specs.Table.{Tabled}
use Rattle.intervals.specs.declared.Table.{Table}

tabled-prop : (n : ℕ) (t : List ℕ) → IsProp (Tabled n t)
tabled-prop n t = hlevel props

pub same-table : (x y : Table) → x.rows ≡ y.rows → x.last ≡ y.last → x ≡ y
same-table x y p q =
    λ i. record {
      rows = p i;
      last = q i;
      tabled = is_prop→PathP (λ j. Tabled (q j).0 (p j)) (λ j. tabled-prop (q j).0 (p j)) x.tabled y.tabled i;
    }
