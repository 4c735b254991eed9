-- Records put one behind the other: a writing and then another from where it ended are one writing.
-- By `written_then`; for records of any size, and then for flashes and for marks. The functions that write use it.
use mathlib.Core.Path.{◌≡◌, refl, sym, ap, subst, ◌∙◌}
use mathlib.Core.List.{List, [], ◌∷◌, ◌++◌}
use Prim.Native.Nat.{ℕ, ◌+◌, ◌*◌, ◌≤◌, ◌<◌}
use native.Mathlib.Nat.{add-mul}
use native.Mathlib.Omega.{arith}
use lib.ListN.{length, length-append}
use Rattle.lists.specs.Lists.{gather}
use Rattle.lists.proofs.Ranges.{gather_append}
use Rattle.grid.specs.Limits.{side, flash_record, mark_record, flash_room_size, mark_room_size}
use Rattle.grid.specs.Squares.{Rectangle, Square}
use Rattle.cover.specs.Flashes.{area_of_flash, flashed_area}
use Rattle.grid.specs.Rooms.{written}
use Rattle.grid.proofs.Writing.{written_none, written_then, length-written}
use Rattle.cover.specs.Records.{flash_bytes, mark_bytes}
use Rattle.cover.specs.Code.{Added, FlashesDone, MarksAdded, MarksDone}
use Rattle.cover.specs.declared.flashes.Flashed.{Flashed}
use Rattle.cover.proofs.Records.{flashes-length, marks-length}

-- records of a size, in a room that holds n of them
module _ {A : Type 0} (block : A → List ℕ) (size : ℕ) (sized : (xs : List A) → length (gather block xs) ≡ length xs * size) (l : List ℕ) (n : ℕ) where
  more_stored : {l' l'' : List ℕ} {n' : ℕ} (xs ys : List A) → n * size + length xs * size + length ys * size ≤ length l → n' ≡ n + length xs
      → l' ≡ written l (n * size) (gather block xs) → l'' ≡ written l' (n' * size) (gather block ys) → l'' ≡ written l (n * size) (gather block (xs ++ ys))
  more_stored {n' = n'} xs ys fits e p q =
      let at : n' * size ≡ n * size + length (gather block xs) = ap (λ k. k * size) e ∙ add-mul n (length xs) size ∙ ap (n * size +◌) (sym (sized xs)) in
      q
      ∙ (λ i. written (p i) (at i) (gather block ys))
      ∙ written_then l (n * size) (gather block xs) (gather block ys) (omega (arith, sized xs, sized ys))
      ∙ ap (written l (n * size)) (sym (gather_append block xs ys))

area-append : (ps qs : List Rectangle) → flashed_area (ps ++ qs) ≡ flashed_area ps + flashed_area qs
unfolding flashed_area
area-append [] qs = omega arith
area-append (p ∷ ps) qs = omega (arith, area-append ps qs)

-- one flash more: q is the rule's, p the one that was drawn
pub one-added : {p q : Rectangle} {f f' : List ℕ} {done : Flashed} {area : ℕ} → done.count < side → flash_room_size ≤ length f → p ≡ q → area ≡ area_of_flash p
    → f' ≡ written f (done.count * flash_record) (flash_bytes p) → Added (q ∷ []) f done (record { count = done.count + 1; area = done.area + area }) f'
unfolding flashed_area
one-added {p} {f = f} {done = done} few lent e a r = record {
  count = refl;
  area = let b = a ∙ ap area_of_flash e in omega arith;
  room = r ∙ ap (λ z. written f (done.count * flash_record) (flash_bytes z)) e;
  as_long = ap length r ∙ length-written f (done.count * flash_record) (flash_bytes p) (omega arith);
}

pub none-added : (f : List ℕ) (done : Flashed) → Added [] f done done f
unfolding flashed_area
none-added f done = record { count = omega arith; area = omega arith; room = sym (written_none f (done.count * flash_record)); as_long = refl }

module _ {ps qs : List Rectangle} {f f' : List ℕ} {d d' : Flashed} where
  pub as_added : ps ≡ qs → Added qs f d d' f' → Added ps f d d' f'
  as_added e A = subst (λ z. Added z f d d' f') (sym e) A

  pub more_added : {f'' : List ℕ} {d'' : Flashed} → d.count + length ps + length qs ≤ side → flash_room_size ≤ length f
      → Added ps f d d' f' → Added qs f' d' d'' f'' → Added (ps ++ qs) f d d'' f''
  more_added few lent A B = record {
    count = let l = length-append ps qs in omega arith;
    area = omega (arith, area-append ps qs);
    room = more_stored flash_bytes flash_record flashes-length f d.count ps qs (omega arith) A.count A.room B.room;
    as_long = B.as_long ∙ A.as_long;
  }

module _ {qs : List Rectangle} {f f' : List ℕ} {d r : Flashed} (A : Added qs f d r f') where
  pub all-written : d.count ≡ 0 → d.area ≡ 0 → FlashesDone qs f r f'
  all-written z a = record {
    count = omega (arith, A.count);
    area = omega (arith, A.area);
    room = A.room ∙ ap (λ n. written f (n * flash_record) (gather flash_bytes qs)) z;
  }

-- the same of marks
pub none-marked : (m : List ℕ) (n : ℕ) → MarksAdded [] m n n m
none-marked m n = record { count = omega arith; room = sym (written_none m (n * mark_record)); as_long = refl }

module _ {ss ts : List Square} {m m' : List ℕ} {n n' : ℕ} where
  pub as_marked : ss ≡ ts → MarksAdded ts m n n' m' → MarksAdded ss m n n' m'
  as_marked e A = subst (λ z. MarksAdded z m n n' m') (sym e) A

  pub more-marked : {m'' : List ℕ} {n'' : ℕ} → n + length ss + length ts ≤ side → mark_room_size ≤ length m
      → MarksAdded ss m n n' m' → MarksAdded ts m' n' n'' m'' → MarksAdded (ss ++ ts) m n n'' m''
  more-marked few lent A B = record {
    count = let l = length-append ss ts in omega arith;
    room = more_stored mark_bytes mark_record marks-length m n ss ts (omega arith) A.count A.room B.room;
    as_long = B.as_long ∙ A.as_long;
  }

module _ {ss : List Square} {m m' : List ℕ} {n r : ℕ} (A : MarksAdded ss m n r m') where
  pub all-marked : n ≡ 0 → MarksDone ss m r m'
  all-marked z = record { counted = omega (arith, A.count); room = A.room ∙ ap (λ k. written m (k * mark_record) (gather mark_bytes ss)) z }

pub as_written : {ss ts : List Square} {m m' : List ℕ} {r : ℕ} → ss ≡ ts → MarksDone ss m r m' → MarksDone ts m r m'
as_written {m = m} {m' = m'} {r = r} e A = subst (λ z. MarksDone z m r m') e A
