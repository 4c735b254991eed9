-- What is still ahead of a writing: the fields of a line from the k-th on, the lines of a room's records from the k-th on.
-- The next one comes off the front; none is left at the end. Inductions on the list or on the length of the range. The loops over fields and records go by these.
use mathlib.Core.Path.{◌≡◌, refl, sym, ap, ◌∙◌}
use Rattle.std.proofs.lemmas.List.{length-map, get_or-map}
use mathlib.Core.List.{List, [], ◌∷◌, ◌++◌, map, append_assoc}
use Prim.Native.Nat.{ℕ, suc, ◌+◌, ◌-◌, ◌*◌, ◌≤◌, ◌<◌}
use native.Mathlib.Omega.{arith}
use native.Mathlib.Nat.{mul-le-mul_right, suc-mul}
use native.Mathlib.Numerals.{add-one}
use lib.ListN.{length, take, drop, get_or, length-append, drop_of_length-le}
use Rattle.lists.specs.Lists.{gather, from, up_to}
use Rattle.text.specs.Words.{feed}
use Rattle.grid.specs.Rooms.{Written, record_in}
use Rattle.text.specs.Decimal.{field}
use Rattle.text.specs.Line.{fields, line}
use Rattle.grid.proofs.Writing.{drop-next}
use Rattle.text.proofs.Onward.{Remains, start, fits_next, piece, last, whole}

pub fields-more : (n : ℕ) (ns : List ℕ) → fields (n ∷ ns) ≡ field n ++ fields ns
fields-more n ns = append_assoc (field n) (gather field ns) (feed ∷ [])

pub line-fields : (word numbers : List ℕ) → line word numbers ≡ word ++ fields numbers
unfolding line
line-fields word numbers = refl

pub length-line : (word numbers : List ℕ) → length (line word numbers) ≡ length word + length (fields numbers)
length-line word numbers = ap length (line-fields word numbers) ∙ length-append word (fields numbers)

-- the word of a line and k fields are written; the others and the line feed are left
pub record Fielded (word numbers room₀ : List ℕ) (spot : ℕ) (room : List ℕ) (at k : ℕ) : Type 0 where
  pub remains : Remains room₀ spot (line word numbers) room at (fields (drop k numbers))

pub headed : (word numbers room₀ : List ℕ) (spot : ℕ) {room : List ℕ} {at : ℕ} → spot + length (line word numbers) ≤ length room₀ → Written room₀ spot word at room
    → Fielded word numbers room₀ spot room at 0
headed word numbers room₀ spot h w = record { remains = piece (start room₀ spot (line word numbers) h) word (fields numbers) (line-fields word numbers) w }

module _ {word numbers room₀ : List ℕ} {spot : ℕ} {room : List ℕ} {at k : ℕ} (l : Fielded word numbers room₀ spot room at k) where
  module _ (v : ℕ) (h : k < length numbers) (e : get_or numbers k 0 ≡ v) where
    next_field : fields (drop k numbers) ≡ field v ++ fields (drop (k + 1) numbers)
    next_field = rw (drop-next numbers k h, e) (fields-more v (drop (k + 1) numbers))

    pub field_fits : at + length (field v) ≤ length room
    field_fits = fits_next l.remains (field v) (fields (drop (k + 1) numbers)) next_field

    pub field-written : {after : List ℕ} {next : ℕ} → Written room at (field v) next after → Fielded word numbers room₀ spot after next (k + 1)
    field-written w = record { remains = piece l.remains (field v) (fields (drop (k + 1) numbers)) next_field w }

  module _ (h : length numbers ≤ k) where
    last-field : fields (drop k numbers) ≡ feed ∷ []
    last-field = ap fields (drop_of_length-le numbers h)

    pub feed-fits : at < length room
    feed-fits = omega (arith, l.remains.fits, ap length last-field)

    pub line-ended : {after : List ℕ} {next : ℕ} → Written room at (feed ∷ []) next after → Written room₀ spot (line word numbers) next after
    line-ended w = last l.remains (feed ∷ []) last-field w

-- the number that the k-th of some things shows
pub shown : {X : Type 0} (f : X → ℕ) (xs : List X) (k : ℕ) (x : X) {v : ℕ} → k < length xs → x ≡ get_or xs k x → v ≡ f x → (k < length (map f xs)) × (get_or (map f xs) k 0 ≡ v)
shown f xs k x h e g = (omega (arith, length-map xs f), get_or-map f xs k x 0 h ∙ ap f (sym e) ∙ sym g)

-- the lines of the n-th record and those after it, of as many as count
abbrev ahead : (ℕ → List ℕ) → ℕ → ℕ → List ℕ
ahead g count n = gather g (from n (count - n))

-- n lines are written, and the others are left
pub record Lined (g : ℕ → List ℕ) (count : ℕ) (room₀ : List ℕ) (spot : ℕ) (room : List ℕ) (at n : ℕ) : Type 0 where
  pub few : n ≤ count
  pub remains : Remains room₀ spot (gather g (up_to count)) room at (ahead g count n)

pub lined : (g : ℕ → List ℕ) (count : ℕ) (room : List ℕ) (spot : ℕ) → spot + length (gather g (up_to count)) ≤ length room → Lined g count room spot room spot 0
lined g count room spot h =
    let e : count - 0 ≡ count = omega arith in
    record { few = omega arith; remains = rw e (start room spot (gather g (up_to count)) h) }

module _ {g : ℕ → List ℕ} {count : ℕ} {room₀ : List ℕ} {spot : ℕ} {room : List ℕ} {at n : ℕ} (l : Lined g count room₀ spot room at n) where
  next-line : n < count → ahead g count n ≡ g n ++ ahead g count (n + 1)
  next-line h = let e : count - n ≡ suc (count - (n + 1)) = omega arith in rw (e, add-one)

  pub line-fits : n < count → at + length (g n) ≤ length room
  line-fits h = fits_next l.remains (g n) (ahead g count (n + 1)) (next-line h)

  pub line-written : {after : List ℕ} {next : ℕ} → n < count → Written room at (g n) next after → Lined g count room₀ spot after next (n + 1)
  line-written h w = record { few = omega arith; remains = piece l.remains (g n) (ahead g count (n + 1)) (next-line h) w }

  pub lines-written : count ≤ n → Written room₀ spot (gather g (up_to count)) at room
  lines-written h = let e : count - n ≡ 0 = omega arith in whole l.remains (rw e)

-- the line of the k-th record, and that the record lies in the room
abbrev pub record_line : List ℕ → ℕ → List ℕ → ℕ → List ℕ
record_line word size records k = line word (record_in size records k)

pub record_inside : (size count k n : ℕ) → k < count → count * size ≤ n → k * size + size ≤ n
record_inside size count k n h l = let e : suc k ≤ count = omega arith in omega (arith, mul-le-mul_right size e, suc-mul k size)

-- the part of the room that the code lends
pub record_part : (size : ℕ) (records : List ℕ) (k : ℕ) → take (k * size + size - k * size) (drop (k * size) records) ≡ record_in size records k
record_part size records k = let e : k * size + size - k * size ≡ size = omega arith in rw e
