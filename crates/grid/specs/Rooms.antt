-- Lent rooms: what a room holds after a writing, and the records in it ('The grid and its numbers').
use Rattle.std.specs.Prelude.{◌≡◌, List, ◌++◌, ℕ, ◌+◌, ◌*◌, ◌≤◌, length, get_or, take, drop}

-- the room with the bytes from the spot on, and every other byte as it was: "Bytes past what is written stay as they were."
unfoldable pub written : List ℕ → ℕ → List ℕ → List ℕ
written room spot bytes = take spot room ++ (bytes ++ drop (spot + length bytes) room)

-- what a writing answers, and leaves
pub record Written (room : List ℕ) (spot : ℕ) (bytes : List ℕ) (next : ℕ) (after : List ℕ) : Type 0 where
  pub past : next ≡ spot + length bytes
  pub left : after ≡ written room spot bytes

-- the k-th record of a size
abbrev pub record_in : ℕ → List ℕ → ℕ → List ℕ
record_in size room k = take size (drop (k * size) room)

-- a room to which n records of a size were written: as long as before, and "Bytes past what is written stay as they were."
pub record Kept (room after : List ℕ) (n size : ℕ) : Type 0 where
  pub as_long : length after ≡ length room
  pub beyond : (i : ℕ) → n * size ≤ i → get_or after i 0 ≡ get_or room i 0
