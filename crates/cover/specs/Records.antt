-- Records in the lent rooms ('The grid and its numbers').
use Rattle.std.specs.Prelude.{List, [], ◌∷◌, map, ℕ, get_or}
use Rattle.lists.specs.Lists.{gather, up_to}
use Rattle.grid.specs.Limits.{flash_record, mark_record}
use Rattle.grid.specs.Squares.{Rectangle, Square, square}
use Rattle.grid.specs.Rooms.{written, record_in}

-- "A flash record is four bytes: first column, last column, bottom row, top row"
abbrev pub flash_bytes : Rectangle → List ℕ
flash_bytes q = q.first ∷ q.last ∷ q.bottom ∷ q.top ∷ []

-- "A mark record is two bytes: column, row."
abbrev pub mark_bytes : Square → List ℕ
mark_bytes s = s.column ∷ s.row ∷ []

-- records from the room's first byte on; "Bytes past what is written stay as they were."
abbrev pub flashes_written : List Rectangle → List ℕ → List ℕ
flashes_written qs room = written room 0 (gather flash_bytes qs)

abbrev pub marks_written : List Square → List ℕ → List ℕ
marks_written ss room = written room 0 (gather mark_bytes ss)

-- the flash, the mark that a record says
abbrev pub flash_of : List ℕ → Rectangle
flash_of r = record { first = get_or r 0 0; last = get_or r 1 0; bottom = get_or r 2 0; top = get_or r 3 0 }

abbrev pub mark_of : List ℕ → Square
mark_of r = square (get_or r 0 0) (get_or r 1 0)

-- the k-th record of a room
abbrev pub flash_in : List ℕ → ℕ → Rectangle
flash_in room k = flash_of (record_in flash_record room k)

abbrev pub mark_in : List ℕ → ℕ → Square
mark_in room k = mark_of (record_in mark_record room k)

-- the first n records
unfoldable pub flashes_in : ℕ → List ℕ → List Rectangle
flashes_in n room = map (flash_in room) (up_to n)

unfoldable pub marks_in : ℕ → List ℕ → List Square
marks_in n room = map (mark_in room) (up_to n)
