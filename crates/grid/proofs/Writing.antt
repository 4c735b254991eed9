-- What a room holds after writings: one after the other is one writing of both, in either order; nothing else changes.
-- Take and drop of lists put together. Every writer's loop and the reading back stand on these.
use mathlib.Core.Path.{◌≡◌, refl, sym, ap, ◌∙◌}
use mathlib.Core.List.{List, [], ◌∷◌, ◌++◌, append_assoc}
use Prim.Native.Nat.{ℕ, suc, ◌+◌, ◌-◌, ◌*◌, ◌≤◌, ◌<◌}
use native.Mathlib.Nat.{zero-add}
use native.Mathlib.Omega.{arith}
use native.Mathlib.Numerals.{add-one}
use lib.ListN.{length, take, drop, set, get_or, length-append, length-drop, length-take, take-append-drop}
use lib.Seq.{get_or-append-add, get_or-drop, drop-cons, drop-drop, length-take-le, set_split, drop_at, take_at, take-take}
use Rattle.grid.specs.Rooms.{written, Written, record_in, Kept}

open_written : (room : List ℕ) (spot : ℕ) (bytes : List ℕ) → written room spot bytes ≡ take spot room ++ (bytes ++ drop (spot + length bytes) room)
unfolding written
open_written room spot bytes = refl

module _ (room : List ℕ) (spot : ℕ) where
  pub written_none : written room spot [] ≡ room
  unfolding written
  written_none = let e : spot + 0 ≡ spot = omega arith in rw e (take-append-drop spot room)

module _ (room : List ℕ) (spot : ℕ) (bytes : List ℕ) (fits : spot + length bytes ≤ length room) where
  pub length-written : length (written room spot bytes) ≡ length room
  unfolding written
  length-written = simp (length-append, length-take, length-drop) (omega arith)

  -- the room before the bytes, the bytes, and the room after them
  pub before-written : take spot (written room spot bytes) ≡ take spot room
  unfolding written
  before-written = take_at (take spot room) (bytes ++ drop (spot + length bytes) room) spot (length-take-le spot room (omega arith))

  pub from-written : drop spot (written room spot bytes) ≡ bytes ++ drop (spot + length bytes) room
  unfolding written
  from-written = drop_at (take spot room) (bytes ++ drop (spot + length bytes) room) spot (length-take-le spot room (omega arith))

  pub after-written : drop (spot + length bytes) (written room spot bytes) ≡ drop (spot + length bytes) room
  after-written =
      sym (drop-drop (length bytes) spot (written room spot bytes))
      ∙ ap (drop (length bytes)) from-written
      ∙ drop_at bytes (drop (spot + length bytes) room) (length bytes) refl

  pub through-written : take (spot + length bytes) (written room spot bytes) ≡ take spot room ++ bytes
  unfolding written
  through-written =
      ap (take (spot + length bytes)) (sym (append_assoc (take spot room) bytes (drop (spot + length bytes) room)))
      ∙ take_at (take spot room ++ bytes) (drop (spot + length bytes) room) (spot + length bytes)
      (length-append (take spot room) bytes ∙ ap (λ (n : ℕ). n + length bytes) (length-take-le spot room (omega arith)))

module _ (room : List ℕ) (spot : ℕ) (a b : List ℕ) (fits : spot + length a + length b ≤ length room) where
  both : written room spot (a ++ b) ≡ take spot room ++ (a ++ (b ++ drop (spot + length a + length b) room))
  unfolding written
  both =
      let n : spot + length (a ++ b) ≡ spot + length a + length b = omega (arith, length-append a b) in
      rw n (ap (take spot room ++◌) (append_assoc a b (drop (spot + length a + length b) room)))

  -- a later writing goes on where an earlier one ended
  pub written_then : written (written room spot a) (spot + length a) b ≡ written room spot (a ++ b)
  written_then =
      let w : List ℕ = written room spot a in
      let rest : List ℕ = drop (spot + length a + length b) room in
      let tail : drop (spot + length a + length b) w ≡ rest =
      sym (drop-drop (length b) (spot + length a) w)
      ∙ ap (drop (length b)) (after-written room spot a (omega arith))
      ∙ drop-drop (length b) (spot + length a) room in
      open_written w (spot + length a) b
      ∙ ap (λ (l : List ℕ). l ++ (b ++ drop (spot + length a + length b) w)) (through-written room spot a (omega arith))
      ∙ ap (λ (l : List ℕ). take spot room ++ a ++ (b ++ l)) tail
      ∙ append_assoc (take spot room) a (b ++ rest)
      ∙ sym both

  -- or the later part is written first
  pub written-first : written (written room (spot + length a) b) spot a ≡ written room spot (a ++ b)
  written-first =
      let w : List ℕ = written room (spot + length a) b in
      let head : take spot w ≡ take spot room =
      sym (take-take spot (spot + length a) w (omega arith))
      ∙ ap (take spot) (before-written room (spot + length a) b (omega arith))
      ∙ take-take spot (spot + length a) room (omega arith) in
      open_written w spot a
      ∙ ap (λ (l : List ℕ). l ++ (a ++ drop (spot + length a) w)) head
      ∙ ap (λ (l : List ℕ). take spot room ++ (a ++ l)) (from-written room (spot + length a) b (omega arith))
      ∙ sym both

-- one byte stored
pub written-set : (room : List ℕ) (spot b : ℕ) → spot < length room → set room spot b ≡ written room spot (b ∷ [])
unfolding written
written-set room spot b h = set_split room spot b h ∙ ap (λ (n : ℕ). take spot room ++ (b ∷ drop n room)) (sym (add-one spot))

pub written_next : (room : List ℕ) (spot b : ℕ) (bs : List ℕ) → spot + suc (length bs) ≤ length room → written room spot (b ∷ bs) ≡ written (set room spot b) (spot + 1) bs
written_next room spot b bs h = sym (ap (λ (l : List ℕ). written l (spot + 1) bs) (written-set room spot b (omega arith)) ∙ written_then room spot (b ∷ []) bs (omega arith))

pub written_last : (room : List ℕ) (spot b : ℕ) (bs : List ℕ) → spot + suc (length bs) ≤ length room
    → written room spot (bs ++ (b ∷ [])) ≡ written (set room (spot + length bs) b) spot bs
written_last room spot b bs h = sym (ap (λ (l : List ℕ). written l spot bs) (written-set room (spot + length bs) b (omega arith)) ∙ written-first room spot bs (b ∷ []) (omega arith))

-- two writings, one behind the other, are a writing of both
pub then-written : (room : List ℕ) (spot : ℕ) (a b : List ℕ) {m next : ℕ} {mid after : List ℕ} → spot + length a + length b ≤ length room
    → Written room spot a m mid → Written mid m b next after → Written room spot (a ++ b) next after
then-written room spot a b {m} {next} {mid} {after} fits u v =
    record {
      past = omega (arith, u.past, v.past, length-append a b);
      left =
          v.left
          ∙ ap (λ (r : List ℕ). written r m b) u.left
          ∙ ap (λ (i : ℕ). written (written room spot a) i b) u.past
          ∙ written_then room spot a b fits;
    }

-- the list from k on: the element at k, and the list from k + 1 on
pub drop-next : (xs : List ℕ) (k : ℕ) → k < length xs → drop k xs ≡ get_or xs k 0 ∷ drop (k + 1) xs
drop-next xs k h = drop-cons xs k 0 h ∙ ap (λ (n : ℕ). get_or xs k 0 ∷ drop n xs) (sym (add-one k))

-- a writing, byte by byte from the front
pub write_turn : (room : List ℕ) (spot k b : ℕ) (bs rest : List ℕ) → bs ≡ b ∷ rest → spot + k + length bs ≤ length room
    → written room (spot + k) bs ≡ written (set room (spot + k) b) (spot + (k + 1)) rest
write_turn room spot k b bs rest e h =
    let n : spot + k + 1 ≡ spot + (k + 1) = omega arith in
    ap (written room (spot + k)) e
    ∙ written_next room (spot + k) b rest (omega (arith, ap length e))
    ∙ ap (λ (i : ℕ). written (set room (spot + k) b) i rest) n

pub write_done : (room : List ℕ) (spot k : ℕ) (bs : List ℕ) → bs ≡ [] → written room (spot + k) bs ≡ room
write_done room spot k bs e = ap (written room (spot + k)) e ∙ written_none room (spot + k)

-- from the room's first byte on
pub from_start : (room bytes : List ℕ) → written room 0 bytes ≡ bytes ++ drop (length bytes) room
unfolding written
from_start room bytes = rw (zero-add (length bytes))

-- records written from the room's first byte on leave every byte past them
pub kept : (room bytes : List ℕ) (n size : ℕ) → length bytes ≡ n * size → length bytes ≤ length room → Kept room (written room 0 bytes) n size
kept room bytes n size e h = record {
  as_long = length-written room 0 bytes (omega arith);
  beyond = λ i l.
      let k : i ≡ length bytes + (i - length bytes) = omega arith in
      ap (λ r. get_or r i 0) (from_start room bytes)
      ∙ ap (λ j. get_or (bytes ++ drop (length bytes) room) j 0) k
      ∙ get_or-append-add bytes (drop (length bytes) room) (i - length bytes) 0
      ∙ get_or-drop (length bytes) room (i - length bytes) 0
      ∙ ap (λ j. get_or room j 0) (sym k);
}

-- a record further on is found as if the first were not there
pub record_later : (size : ℕ) (block rest : List ℕ) (k : ℕ) → drop size (block ++ rest) ≡ rest → record_in size (block ++ rest) (suc k) ≡ record_in size rest k
record_later size block rest k e =
    let n : suc k * size ≡ size + k * size = omega arith in
    ap (λ m. take size (drop m (block ++ rest))) n ∙ ap (take size) (sym (drop-drop (k * size) size (block ++ rest)) ∙ ap (drop (k * size)) e)
