-- The eleven P rows of document 01's 'Areas to hold the program to': what is asked, and what is given.
use Rattle.std.specs.Prelude.{List, [], ◌∷◌, ℕ, length, replicate}
use Rattle.lists.specs.Lists.{gather}
use Rattle.grid.specs.Limits.{flash_room_size, mark_room_size}
use Rattle.grid.specs.Squares.{Rectangle, Square}
use Rattle.cover.specs.Records.{flashes_written, marks_written}
use Rattle.cover.specs.Cover.{Given}

-- a row of the table: width, height, allowance and the raster's rows from the bottom up; answer, place, flashes, marks, copper number and flashed area
pub record Case : Type 0 where
  pub width : ℕ
  pub height : ℕ
  pub allowance : ℕ
  pub raster : List (List ℕ)
  pub answer : ℕ
  pub x : ℕ
  pub y : ℕ
  pub flashes : List Rectangle
  pub marks : List Square
  pub copper : ℕ
  pub flashed : ℕ

-- both rooms are lent full of sevens, so that a byte past the records shows that it stayed
abbrev pub flashes_lent : List ℕ
flashes_lent = replicate flash_room_size 7

abbrev pub marks_lent : List ℕ
marks_lent = replicate mark_room_size 7

abbrev pub bytes : Case → List ℕ
bytes c = gather (λ row. row) c.raster

abbrev pub expected : Case → Given
expected c = record {
  outcome =
      record {
        answer = c.answer;
        place_x = c.x;
        place_y = c.y;
        flashes = length c.flashes;
        marks = length c.marks;
        copper = c.copper;
        flashed = c.flashed;
      };
  flashes_after = flashes_written c.flashes flashes_lent;
  marks_after = marks_written c.marks marks_lent;
}

-- first column, last column, bottom row, top row
abbrev q : ℕ → ℕ → ℕ → ℕ → Rectangle
q f l b t = record { first = f; last = l; bottom = b; top = t }

-- column, row
abbrev s : ℕ → ℕ → Square
s c r = record { column = c; row = r }

abbrev pub table : List Case
table =
    -- one square
    record {
      width = 1;
      height = 1;
      allowance = 64;
      raster = (1 ∷ []) ∷ [];
      answer = 0;
      x = 0;
      y = 0;
      flashes = q 0 0 0 0 ∷ [];
      marks = s 0 0 ∷ [];
      copper = 1;
      flashed = 1;
    }
    ∷
    -- 2 by 2, no copper, allowance 0
    record {
      width = 2;
      height = 2;
      allowance = 0;
      raster = (0 ∷ 0 ∷ []) ∷ (0 ∷ 0 ∷ []) ∷ [];
      answer = 0;
      x = 0;
      y = 0;
      flashes = [];
      marks = [];
      copper = 0;
      flashed = 0;
    }
    ∷
    -- plus
    record {
      width = 3;
      height = 3;
      allowance = 64;
      raster = (0 ∷ 1 ∷ 0 ∷ []) ∷ (1 ∷ 1 ∷ 1 ∷ []) ∷ (0 ∷ 1 ∷ 0 ∷ []) ∷ [];
      answer = 0;
      x = 0;
      y = 0;
      flashes = q 0 2 1 1 ∷ q 1 1 0 2 ∷ [];
      marks = s 0 1 ∷ s 1 0 ∷ [];
      copper = 5;
      flashed = 6;
    }
    ∷
    -- step: 0-1, 1-2
    record {
      width = 2;
      height = 3;
      allowance = 64;
      raster = (1 ∷ 0 ∷ []) ∷ (1 ∷ 1 ∷ []) ∷ (0 ∷ 1 ∷ []) ∷ [];
      answer = 0;
      x = 0;
      y = 0;
      flashes = q 0 0 0 1 ∷ q 1 1 1 2 ∷ [];
      marks = s 0 0 ∷ s 1 2 ∷ [];
      copper = 4;
      flashed = 4;
    }
    ∷
    -- stair: 0-1, 1-2, 2-3
    record {
      width = 3;
      height = 4;
      allowance = 64;
      raster = (1 ∷ 0 ∷ 0 ∷ []) ∷ (1 ∷ 1 ∷ 0 ∷ []) ∷ (0 ∷ 1 ∷ 1 ∷ []) ∷ (0 ∷ 0 ∷ 1 ∷ []) ∷ [];
      answer = 0;
      x = 0;
      y = 0;
      flashes = q 0 0 0 1 ∷ q 1 1 1 2 ∷ q 2 2 2 3 ∷ [];
      marks = s 0 0 ∷ s 1 2 ∷ s 2 3 ∷ [];
      copper = 6;
      flashed = 6;
    }
    ∷
    -- double step: 0-1, 1-2, 3-4, 4-5
    record {
      width = 4;
      height = 6;
      allowance = 64;
      raster =
          (1 ∷ 0 ∷ 0 ∷ 0 ∷ [])
          ∷ (1 ∷ 1 ∷ 0 ∷ 0 ∷ [])
          ∷ (0 ∷ 1 ∷ 0 ∷ 0 ∷ [])
          ∷ (0 ∷ 0 ∷ 1 ∷ 0 ∷ [])
          ∷ (0 ∷ 0 ∷ 1 ∷ 1 ∷ [])
          ∷ (0 ∷ 0 ∷ 0 ∷ 1 ∷ [])
          ∷ [];
      answer = 0;
      x = 0;
      y = 0;
      flashes = q 0 0 0 1 ∷ q 1 1 1 2 ∷ q 2 2 3 4 ∷ q 3 3 4 5 ∷ [];
      marks = s 0 0 ∷ s 1 2 ∷ s 2 3 ∷ s 3 5 ∷ [];
      copper = 8;
      flashed = 8;
    }
    ∷
    -- cup: 0-2, 0-0, 0-2
    record {
      width = 3;
      height = 3;
      allowance = 64;
      raster = (1 ∷ 1 ∷ 1 ∷ []) ∷ (1 ∷ 0 ∷ 1 ∷ []) ∷ (1 ∷ 0 ∷ 1 ∷ []) ∷ [];
      answer = 0;
      x = 0;
      y = 0;
      flashes = q 0 0 0 2 ∷ q 0 2 0 0 ∷ q 2 2 0 2 ∷ [];
      marks = s 0 1 ∷ s 1 0 ∷ s 2 1 ∷ [];
      copper = 7;
      flashed = 9;
    }
    ∷
    -- corner: 0-0, 1-1
    record {
      width = 2;
      height = 2;
      allowance = 64;
      raster = (1 ∷ 0 ∷ []) ∷ (0 ∷ 1 ∷ []) ∷ [];
      answer = 0;
      x = 0;
      y = 0;
      flashes = q 0 0 0 0 ∷ q 1 1 1 1 ∷ [];
      marks = s 0 0 ∷ s 1 1 ∷ [];
      copper = 2;
      flashed = 2;
    }
    ∷
    -- stair, allowance 2
    record {
      width = 3;
      height = 4;
      allowance = 2;
      raster = (1 ∷ 0 ∷ 0 ∷ []) ∷ (1 ∷ 1 ∷ 0 ∷ []) ∷ (0 ∷ 1 ∷ 1 ∷ []) ∷ (0 ∷ 0 ∷ 1 ∷ []) ∷ [];
      answer = 9;
      x = 0;
      y = 0;
      flashes = [];
      marks = s 0 0 ∷ s 1 2 ∷ s 2 3 ∷ [];
      copper = 0;
      flashed = 0;
    }
    ∷
    -- cup, allowance 1
    record {
      width = 3;
      height = 3;
      allowance = 1;
      raster = (1 ∷ 1 ∷ 1 ∷ []) ∷ (1 ∷ 0 ∷ 1 ∷ []) ∷ (1 ∷ 0 ∷ 1 ∷ []) ∷ [];
      answer = 9;
      x = 0;
      y = 0;
      flashes = [];
      marks = s 0 1 ∷ s 1 0 ∷ [];
      copper = 0;
      flashed = 0;
    }
    ∷
    -- ring of 3 by 3, centre empty
    record {
      width = 3;
      height = 3;
      allowance = 64;
      raster = (1 ∷ 1 ∷ 1 ∷ []) ∷ (1 ∷ 0 ∷ 1 ∷ []) ∷ (1 ∷ 1 ∷ 1 ∷ []) ∷ [];
      answer = 8;
      x = 1;
      y = 1;
      flashes = [];
      marks = [];
      copper = 0;
      flashed = 0;
    }
    ∷
    []
