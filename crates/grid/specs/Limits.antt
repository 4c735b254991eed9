-- Document 01's limits and record sizes, each once ('The grid and its numbers'). A room is as many records as a list can have, so it is a product.
use Rattle.std.specs.Prelude.{ℕ, ◌+◌, ◌*◌, ◌/◌}

-- "Width and height are 1 to 64."
abbrev pub side : ℕ
side = 64

-- "lines run from 0 to 64"
abbrev pub lines : ℕ
lines = side + 1

-- "The allowance is 0 to 64.": no area needs more flashes than it has columns
abbrev pub allowance_limit : ℕ
allowance_limit = side

-- "A flash record is four bytes", "A mark record is two bytes"
abbrev pub flash_record : ℕ
flash_record = 4

abbrev pub mark_record : ℕ
mark_record = 2

-- a bracket that was reduced, in a room lent for it: its left line, its right line
abbrev pub bracket_record : ℕ
bracket_record = 2

-- "at least 256 bytes for flashes, 128 for marks, 4,096 for a raster that is read in": "64 records always suffice"
abbrev pub flash_room_size : ℕ
flash_room_size = side * flash_record

abbrev pub mark_room_size : ℕ
mark_room_size = side * mark_record

-- each reduction takes one interval away, and this many intervals run between the lines
abbrev pub bracket_room : ℕ
bracket_room = side * lines / 2 * bracket_record

-- an area whose columns are unbroken has at most three slices for each column: one where its copper begins, two where it ends
abbrev pub slice_limit : ℕ
slice_limit = 3 * side

-- room for the brackets of such an area
abbrev pub bag_room : ℕ
bag_room = slice_limit * bracket_record

abbrev pub raster_room : ℕ
raster_room = side * side

-- "flash lists of his own .. at most 1,024" (02, R-5)
abbrev pub list_limit : ℕ
list_limit = 1024

-- "file room under 8,192" (02, R-2)
abbrev pub file_room_size : ℕ
file_room_size = 8192
