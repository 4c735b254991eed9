-- How long numbers and lines are at most: a lesser number has no more digits, so a line of numbers up to a limit is at most its word, as many
-- of the longest fields, and the line feed. By tenths of the number, and by induction over the fields and the records. Rooms for the longest text and print go by this.
use mathlib.Core.Path.{◌≡◌, refl, ap}
use mathlib.Core.Bool.{true}
use mathlib.Core.List.{List, [], ◌∷◌, ◌++◌}
use mathlib.Core.Logic.{by_cases}
use Prim.Native.Nat.{ℕ, zero, suc, ◌+◌, ◌-◌, ◌*◌, ◌/◌, ◌^◌, ◌≤◌, ◌<◌}
use native.Mathlib.Omega.{arith}
use native.Mathlib.Nat.{suc-mul, zero-mul, mul-le-mul_right}
use native.Mathlib.Decide.{dec_lt}
use lib.Dec.{leb}
use lib.ListN.{length, take, drop, get_or, length-append, length-take}
use borrow.Author.Tests.{le-leb, leb-true}
use Rattle.lists.specs.Lists.{gather, up_to}
use Rattle.lists.proofs.Truth.{and_left, and_right, and_both}
use Rattle.lists.proofs.Ranges.{length_from}
use Rattle.text.specs.Decimal.{decimal, field}
use Rattle.text.specs.Line.{fields, line, record_lines, field_room, within}
use Rattle.grid.specs.Rooms.{record_in}
use Rattle.text.proofs.Decimals.{by_tenths}
use Rattle.text.proofs.Turns.{count_small, count-more}
use Rattle.text.proofs.Ahead.{fields-more, length-line}

pub digits_grow : (m n : ℕ) → n ≤ m → length (decimal n) ≤ length (decimal m)
digits_grow = by_tenths (λ m. (n : ℕ) → n ≤ m → length (decimal n) ≤ length (decimal m)) one more
  where
    one : (m : ℕ) → m < 10 → (n : ℕ) → n ≤ m → length (decimal n) ≤ length (decimal m)
    one m h n l = omega (arith, count_small m h, count_small n (omega arith))

    more : (m : ℕ) → 10 ≤ m → ((n : ℕ) → n ≤ m / 10 → length (decimal n) ≤ length (decimal (m / 10))) → (n : ℕ) → n ≤ m → length (decimal n) ≤ length (decimal m)
    more m h r n l =
        by_cases (dec_lt n 10) (λ k. omega (arith, count_small n k, count-more m h))
        (λ k. omega (arith, count-more n (omega arith), count-more m h, r (n / 10) (omega arith)))

-- numbers up to a limit: those of a part, of two lists, and of a list that is so at each place
module _ (limit : ℕ) where
  pub within-take : (n : ℕ) (xs : List ℕ) → within limit xs ≡ true → within limit (take n xs) ≡ true
  within-take zero xs a = refl
  within-take (suc n) [] a = refl
  within-take (suc n) (x ∷ xs) a =
      and_both (leb x limit) (within limit (take n xs)) (and_left (leb x limit) (within limit xs) a) (within-take n xs (and_right (leb x limit) (within limit xs) a))

  pub within-drop : (n : ℕ) (xs : List ℕ) → within limit xs ≡ true → within limit (drop n xs) ≡ true
  within-drop zero xs a = a
  within-drop (suc n) [] a = refl
  within-drop (suc n) (x ∷ xs) a = within-drop n xs (and_right (leb x limit) (within limit xs) a)

  pub within_both : (xs ys : List ℕ) → within limit xs ≡ true → within limit ys ≡ true → within limit (xs ++ ys) ≡ true
  within_both [] ys a b = b
  within_both (x ∷ xs) ys a b =
      and_both (leb x limit) (within limit (xs ++ ys)) (and_left (leb x limit) (within limit xs) a) (within_both xs ys (and_right (leb x limit) (within limit xs) a) b)

  pub within_all : (xs : List ℕ) → ((i : ℕ) → get_or xs i 0 ≤ limit) → within limit xs ≡ true
  within_all [] h = refl
  within_all (x ∷ xs) h = and_both (leb x limit) (within limit xs) (le-leb x limit (h 0)) (within_all xs (λ i. h (suc i)))

pub bytes-within : (xs : List ℕ) → ((i : ℕ) → get_or xs i 0 < 2 ^ 8) → within (2 ^ 8 - 1) xs ≡ true
bytes-within xs h = within_all (2 ^ 8 - 1) xs (λ i. let l = h i in omega arith)

-- a line of one more field is as much longer; one of none is its word and the line feed
pub line-none : (word : List ℕ) → length (line word []) ≡ length word + 1
line-none word = length-line word []

pub line-more : (word : List ℕ) (n : ℕ) (ns : List ℕ) → length (line word (n ∷ ns)) ≡ field_room n + length (line word ns)
line-more word n ns = omega (arith, length-line word (n ∷ ns), length-line word ns, ap length (fields-more n ns), length-append (field n) (fields ns))

pub line-most : (word : List ℕ) (limit : ℕ) (ns : List ℕ) → within limit ns ≡ true → length (line word ns) ≤ length word + length ns * field_room limit + 1
line-most word limit [] a = omega (arith, line-none word, zero-mul (field_room limit))
line-most word limit (n ∷ ns) a =
    let small : n ≤ limit = leb-true n limit (and_left (leb n limit) (within limit ns) a) in
    omega (
      arith,
      line-more word n ns,
      digits_grow limit n small,
      line-most word limit ns (and_right (leb n limit) (within limit ns) a),
      suc-mul (length ns) (field_room limit),
    )

-- lists of lines
gather-most : (g : ℕ → List ℕ) (most : ℕ) → ((n : ℕ) → length (g n) ≤ most) → (xs : List ℕ) → length (gather g xs) ≤ length xs * most
gather-most g most h [] = omega (arith, zero-mul most)
gather-most g most h (x ∷ xs) = omega (arith, h x, gather-most g most h xs, length-append (g x) (gather g xs), suc-mul (length xs) most)

pub record_lines-most : (word : List ℕ) (size limit count : ℕ) (records : List ℕ) → within limit records ≡ true
    → length (record_lines word size count records) ≤ count * (length word + size * field_room limit + 1)
unfolding record_lines
record_lines-most word size limit count records a = rw (length_from 0 count) at (gather-most (λ k. line word (record_in size records k)) most each (up_to count))
  where
    most : ℕ
    most = length word + size * field_room limit + 1

    each : (k : ℕ) → length (line word (record_in size records k)) ≤ most
    each k =
        let few : length (record_in size records k) ≤ size = omega (arith, length-take size (drop (k * size) records)) in
        omega (
          arith,
          line-most word limit (record_in size records k) (within-take limit size (drop (k * size) records) (within-drop limit (k * size) records a)),
          mul-le-mul_right (field_room limit) few,
        )
