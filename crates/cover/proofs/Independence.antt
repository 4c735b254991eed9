-- Independence of two squares from a slice: where the row of one shows an interval that holds its column and not the other's, no rectangle of copper holds both,
-- for its row would run from one column to the other and the slice would take in the run. Of the rows, nothing is used but that one shows the interval.
-- With it, a list of marks is evidence, and so is its beginning.
use mathlib.Core.Path.{◌≡◌}
use mathlib.Core.Bool.{true, false}
use mathlib.Core.List.{List}
use mathlib.Core.Logic.{by_cases}
use Prim.Native.Nat.{ℕ, ◌<◌}
use native.Mathlib.Omega.{arith}
use native.Mathlib.Decide.{dec_lt}
use lib.ListN.{length, take, length-take}
use lib.Seq.{get_or-take}
use Rattle.lists.proofs.Truth.{never}
use Rattle.lists.proofs.Members.{In}
use Rattle.lists.proofs.Pairs.{Pairs, in_at, pairs_at}
use Rattle.method.specs.Intervals.{Interval, holds}
use Rattle.grid.specs.Squares.{Area, Square, Copper, Independent, Evidence, square_at}
use Rattle.cover.specs.Slices.{slice}
use Rattle.cover.proofs.SliceLaws.{slice-holds-run}

module _ (a : Area) where
  pub shown-apart : (s t : Square) (i : Interval) → slice a t.row i ≡ true → holds t.column i ≡ true → holds s.column i ≡ false → Independent a s t
  shown-apart s t i shown has lacks q r u v =
      never
      (slice-holds-run a t.row i shown t.column s.column has
      (λ x l k. r.copper (record { column = x; row = t.row }) (record { from-left = omega arith; to-right = omega arith; from-below = v.from-below; to-above = v.to-above })))
      lacks

  pub independent_sym : (s t : Square) → Independent a s t → Independent a t s
  independent_sym s t h q r u v = h q r v u

  pub pairs_evidence : (ss : List Square) → ((s : Square) → In s ss → Copper a s) → Pairs (Independent a) ss → Evidence a ss
  pairs_evidence ss c p = record {
    copper = λ k u. c (square_at ss k) (in_at ss (record { column = 0; row = 0 }) k u);
    apart = λ j k u v d.
        by_cases (dec_lt j k)
        (λ l. pairs_at (Independent a) ss p (record { column = 0; row = 0 }) j k l v)
        (λ l. independent_sym (square_at ss k) (square_at ss j) (pairs_at (Independent a) ss p (record { column = 0; row = 0 }) k j (omega arith) u));
  }

  -- the first marks of a list
  pub evidence_take : (n : ℕ) (ss : List Square) → Evidence a ss → Evidence a (take n ss)
  evidence_take n ss e = record {
    copper = λ k u. let b = early k u in rw (get_or-take n ss k (record { column = 0; row = 0 }) b.0) (e.copper k b.1);
    apart = λ j k u v d.
        let b = early j u in
        let c = early k v in
        rw (get_or-take n ss j (record { column = 0; row = 0 }) b.0, get_or-take n ss k (record { column = 0; row = 0 }) c.0) (e.apart j k b.1 c.1 d);
  }
    where
      early : (k : ℕ) → k < length (take n ss) → (k < n) × (k < length ss)
      early k u = omega (arith, length-take n ss)
