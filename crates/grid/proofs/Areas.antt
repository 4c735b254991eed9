-- The area of a raster lies in its grid, whatever the bytes are: a square outside is asked for no byte.
-- Read off the definition; the theorems on broken columns and on runs of rows rest on it.
use mathlib.Core.Bool.{◌&&◌}
use mathlib.Core.List.{List}
use Prim.Native.Nat.{ℕ}
use lib.Dec.{ltb, eqb}
use borrow.Author.Tests.{ltb-true}
use Rattle.lists.proofs.Truth.{and_left, and_right}
use Rattle.grid.specs.Squares.{InGrid}
use Rattle.grid.specs.Raster.{area_of, byte_at}

pub area_in_grid : (w h : ℕ) (bytes : List ℕ) → InGrid w h (area_of w h bytes)
area_in_grid w h bytes c r t =
    let u = and_left (ltb c w && ltb r h) (eqb (byte_at w bytes c r) 1) t in
    (ltb-true c w (and_left (ltb c w) (ltb r h) u), ltb-true r h (and_right (ltb c w) (ltb r h) u))
