-- What a copper area is, and what cover, least number and independent mean: over squares alone.
-- A square is a column and a row; an area says of each square whether it is copper.
use Rattle.std.specs.Prelude.{◌≡◌, Bool, true, false, List, map, ◌≢◌, ℕ, ◌≤◌, ◌<◌, length, get_or}
use Rattle.lists.specs.Lists.{count, gather, up_to}

-- "A copper area is a set of unit squares in a grid."
abbrev pub Area : Type 0
Area = ℕ → ℕ → Bool

pub record Square : Type 0 where
  pub column : ℕ
  pub row : ℕ

abbrev pub square : ℕ → ℕ → Square
square c r = record { column = c; row = r }

abbrev pub Copper : Area → Square → Type 0
Copper a s = a s.column s.row ≡ true

-- all copper lies in the columns 0 to w - 1 and the rows 0 to h - 1
abbrev pub InGrid : ℕ → ℕ → Area → Type 0
InGrid w h a = (c r : ℕ) → a c r ≡ true → (c < w) × (r < h)

-- the squares of a grid of w columns and h rows, each once, in raster order: "row 0 first, each row from column 0"
unfoldable pub grid_squares : ℕ → ℕ → List Square
grid_squares w h = gather (λ r. map (λ c. square c r) (up_to w)) (up_to h)

-- "the copper number counts the raster's copper squares, each once"
unfoldable pub copper_number : Area → ℕ → ℕ → ℕ
copper_number a w h = count (λ s. a s.column s.row) (grid_squares w h)

-- no empty square with copper both below and above it in its column
abbrev pub Unbroken : Area → Type 0
Unbroken a = (c below between above : ℕ) → below < between → between < above → a c below ≡ true → a c above ≡ true → a c between ≡ true

-- an "empty square with copper both below and above"
pub record Gap (a : Area) (c r : ℕ) : Type 0 where
  pub empty : a c r ≡ false
  pub below : (y : ℕ) × (y < r) × (a c y ≡ true)
  pub above : (y : ℕ) × (r < y) × (a c y ≡ true)

-- "lowest such column; its lowest empty square with copper both below and above"
pub record BrokenAt (a : Area) (c r : ℕ) : Type 0 where
  pub here : Gap a c r
  pub leftmost : (x y : ℕ) → x < c → Gap a x y → ⊥
  pub lowest : (y : ℕ) → y < r → Gap a c y → ⊥

-- "first column, last column, bottom row, top row, all inclusive"
pub record Rectangle : Type 0 where
  pub first : ℕ
  pub last : ℕ
  pub bottom : ℕ
  pub top : ℕ

pub record Within (q : Rectangle) (s : Square) : Type 0 where
  pub from-left : q.first ≤ s.column
  pub to-right : s.column ≤ q.last
  pub from-below : q.bottom ≤ s.row
  pub to-above : s.row ≤ q.top

-- a rectangle of copper squares: it is not empty, and each of its squares is copper
pub record InCopper (a : Area) (q : Rectangle) : Type 0 where
  pub wide : q.first ≤ q.last
  pub high : q.bottom ≤ q.top
  pub copper : (s : Square) → Within q s → Copper a s

-- the k-th of a list of rectangles, of squares
abbrev pub rectangle_at : List Rectangle → ℕ → Rectangle
rectangle_at qs k = get_or qs k (record { first = 0; last = 0; bottom = 0; top = 0 })

abbrev pub square_at : List Square → ℕ → Square
square_at ss k = get_or ss k (square 0 0)

-- "rectangles whose union is the area. Overlap is allowed."
pub record Cover (a : Area) (qs : List Rectangle) : Type 0 where
  pub inside : (k : ℕ) → k < length qs → InCopper a (rectangle_at qs k)
  pub whole : (s : Square) → Copper a s → (k : ℕ) × (k < length qs) × Within (rectangle_at qs k) s

-- no two rectangles of the list, by position, share a square
abbrev pub NoneShared : List Rectangle → Type 0
NoneShared qs = (j k : ℕ) → j < length qs → k < length qs → j ≢ k → (s : Square) → Within (rectangle_at qs j) s → Within (rectangle_at qs k) s → ⊥

-- "the least number of rectangles whose union is the area"
pub record Least (a : Area) (m : ℕ) : Type 0 where
  pub reached : (qs : List Rectangle) × Cover a qs × (length qs ≡ m)
  pub fewest : (qs : List Rectangle) → Cover a qs → m ≤ length qs

-- "Two squares are independent if no rectangle of copper squares holds both."
abbrev pub Independent : Area → Square → Square → Type 0
Independent a s t = (q : Rectangle) → InCopper a q → Within q s → Within q t → ⊥

-- copper squares, no two of which, by position in the list, fit in one rectangle of copper
pub record Evidence (a : Area) (ss : List Square) : Type 0 where
  pub copper : (k : ℕ) → k < length ss → Copper a (square_at ss k)
  pub apart : (j k : ℕ) → j < length ss → k < length ss → j ≢ k → Independent a (square_at ss j) (square_at ss k)
