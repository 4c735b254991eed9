-- The P rows of document 01 as one theorem: the definition in the contract of `keekaboor_cover` gives each of them, every byte of both rooms included.
-- antt computes both sides.
use mathlib.Core.Path.{◌≡◌, refl}
use mathlib.Core.List.{map}
use Rattle.method.specs.Dependent.{covered_inside, dependent, minimal}
use Rattle.method.specs.Reduce.{outermost, meets, reduce}
use Rattle.method.specs.Final.{leftmost, reduced, final}
use Rattle.method.specs.Strike.{held_once, strike, least, found, marked}
use Rattle.grid.specs.Answers.{or_else, first_refusal}
use Rattle.grid.specs.Rooms.{written}
use Rattle.grid.specs.Squares.{grid_squares, copper_number}
use Rattle.grid.specs.Raster.{first_bad, gap, broken_from}
use Rattle.cover.specs.Slices.{ends_left, ends_right, copper_along, slice, shown, lowest_shown, starting}
use Rattle.cover.specs.Flashes.{flash, flashes, flashed_area}
use Rattle.cover.specs.Marks.{mark, by_column, marks}
use Rattle.cover.specs.Cover.{Given, or_work, cover_gives}
use Rattle.cover.specs.HeldTo.{Case, table, bytes, expected, flashes_lent, marks_lent}

abbrev given : Case → Given
given c = cover_gives c.width c.height c.allowance (bytes c) flashes_lent marks_lent

pub rows_hold : map given table ≡ map expected table
unfolding grid_squares copper_number covered_inside dependent minimal outermost meets reduce leftmost reduced final held_once strike least found marked first_bad gap
    broken_from ends_left ends_right copper_along slice shown lowest_shown starting flash flashes flashed_area mark by_column marks written or_else first_refusal or_work cover_gives
rows_hold = refl
