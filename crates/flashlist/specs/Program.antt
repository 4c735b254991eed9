-- What the cover program prints for a text on its standard input. "The cover program reads first, then covers."
use Rattle.std.specs.Prelude.{List, [], ℕ, replicate, Ok, Err}
use Rattle.grid.specs.Limits.{flash_room_size, mark_room_size, raster_room}
use Rattle.grid.specs.Rooms.{Written}
use Rattle.job.specs.Reading.{Judged, judged, raster_from}
use Rattle.cover.specs.Cover.{Given, refused_at, cover_gives}
use Rattle.printed.specs.Printed.{printed}

-- what a call gives, printed
abbrev pub printed_given : Given → List ℕ
printed_given g = printed g.outcome g.flashes_after g.marks_after

-- the rooms are lent with no record in them
abbrev pub cover_text : ℕ → ℕ → ℕ → List ℕ → List ℕ
cover_text w h k raster = printed_given (cover_gives w h k raster (replicate flash_room_size 0) (replicate mark_room_size 0))

abbrev pub refusal_text : ℕ → ℕ → ℕ → List ℕ
refusal_text n x y = printed_given (refused_at n x y [] [])

abbrev pub judged_text : List ℕ → Judged → List ℕ
judged_text text (Err a) = refusal_text a.number a.x a.y
judged_text text (Ok (job, spot)) = cover_text job.size.width job.size.height job.allowance (raster_from text job.size.width job.size.height spot)

unfoldable pub program_text : List ℕ → List ℕ
program_text text = judged_text text (judged text raster_room)

-- the contract of `answer`: the number of bytes n, and the room that held out and holds out' after it
abbrev pub Answers : List ℕ → List ℕ → ℕ → List ℕ → Type 0
Answers text out n out' = Written out 0 (program_text text) n out'
