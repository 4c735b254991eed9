-- What a comparison of two lines told, read as the order of their numbers.
use Rattle.std.specs.Ordering.{is_lt, is_le, nat_cmp}
use Rattle.std.proofs.Common.{arith}
use mathlib.Core.Path.{◌≡◌}
use mathlib.Core.Bool.{Bool, true, false}
use Prim.Native.Nat.{ℕ, ◌≤◌, ◌<◌}

module _ (a b : ℕ) {r : Bool} where
  pub less : r ≡ is_lt (nat_cmp a b) → r ≡ true → a < b
  less e t = grind arith

  pub not-less : r ≡ is_lt (nat_cmp a b) → r ≡ false → b ≤ a
  not-less e f = grind arith

  pub at-most : r ≡ is_le (nat_cmp a b) → r ≡ true → a ≤ b
  at-most e t = grind arith

  pub beyond : r ≡ is_le (nat_cmp a b) → r ≡ false → b < a
  beyond e f = grind arith
