-- One turn of reading our own file back: a flash with its select, a flash without, the end.
-- Each line is the only one of its kind that stands there, and a line of another kind begins with another byte.
use mathlib.Core.Path.{◌≡◌, refl, sym, ap, subst, ◌∙◌}
use mathlib.Core.Bool.{Bool, true, false, cond, ◌&&◌, false≢true}
use mathlib.Core.List.{List, [], ◌∷◌, ◌++◌, map}
use mathlib.Core.Option.{none, some}
use Prim.Native.Nat.{ℕ, suc, ◌+◌, ◌-◌, ◌≤◌, ◌<◌}
use native.Mathlib.Omega.{arith}
use lib.Dec.{eqb}
use lib.IntN.{ℤ}
use lib.ListN.{length, drop, length-drop}
use borrow.Author.Tests.{le-leb, eq-eqb}
use Rattle.std.specs.Prelude.{Option as Maybe, Some}
use Rattle.lists.specs.Lists.{gather, up_to}
use Rattle.lists.proofs.Truth.{bcase, and_left, and_both}
use Rattle.lists.proofs.Members.{In, first-only, none_first}
use Rattle.lists.proofs.Ranges.{in_from, in_map, map_in, in_gather, gather_in}
use Rattle.grid.specs.Limits.{side}
use Rattle.grid.specs.Squares.{Rectangle}
use Rattle.text.specs.Words.{begins, stands}
use Rattle.text.proofs.Stands.{stands_at}
use Rattle.cover.specs.Code.{Drawn}
use Rattle.gerber.specs.File.{size_of, select_line, flash_line, centre, centre_line, end_line, centre_fits, pitch_fits}
use Rattle.gerber.specs.declared.sizes.Size.{Size}
use Rattle.gerber.specs.Reading.{is_current, may_select, select_at, selected, placed, placements, size_at, placed_at, on_current, flash_at, flashed, flash}
use Rattle.gerber.specs.Reading.{over, flash_turn, end_turn, after_select, turned}
use Rattle.gerber.specs.declared.turns.Reached.{Reached}
use Rattle.gerber.proofs.Stood.{passed, least_pitch, select_apart, flash-apart, centre-apart}

-- a flash is placed by its first column and its bottom row
placed_self : (q : Rectangle) → Drawn q → q ≡ placed (size_of q) q.first q.bottom
placed_self q d =
    let l : q.last ≡ q.first + suc (q.last - q.first) - 1 = omega arith in
    let h : q.top ≡ q.bottom + suc (q.top - q.bottom) - 1 = omega arith in
    (λ i. record { first = q.first; last = l i; bottom = q.bottom; top = h i })

pub placed_in : (n : ℕ) (z : Size) (c r : ℕ) → c < n - z.wide → r < n - z.high → In (placed z c r) (gather (λ c. map (placed z c) (up_to (n - z.high))) (up_to (n - z.wide)))
placed_in n z c r h l = in_gather (λ c. map (placed z c) (up_to (n - z.high))) (in_from 0 (n - z.wide) c (omega arith) (omega arith))
    (in_map (placed z c) (in_from 0 (n - z.high) r (omega arith) (omega arith)))

pub in_placed : (n : ℕ) (z : Size) (q : Rectangle) → In q (gather (λ c. map (placed z c) (up_to (n - z.high))) (up_to (n - z.wide)))
    → (c : ℕ) × (r : ℕ) × (q ≡ placed z c r) × In c (up_to (n - z.wide)) × In r (up_to (n - z.high))
in_placed n z q i =
    let g = gather_in (λ c. map (placed z c) (up_to (n - z.high))) (up_to (n - z.wide)) i in
    let m = map_in (placed z g.0) (up_to (n - z.high)) g.2 in
    (g.0, m.0, m.2, g.1, m.1)

-- what the flash's line says, and the byte that begins a line
module _ (pitch : ℕ) (fits : pitch_fits pitch ≡ true) (x y : ℤ) (t : List ℕ) where
  pub placed-apart : (z : Size) (c r a b : ℕ) (spot : ℕ) (rest : List ℕ) → 1 ≤ z.wide → 1 ≤ z.high → drop spot t ≡ centre_line pitch x y (placed z a b) ++ rest
      → stands t spot (centre_line pitch x y (placed z c r)) ≡ true → placed z c r ≡ placed z a b
  placed-apart z c r a b spot rest w h e s =
      let f = flash-apart t spot (centre pitch x c (c + z.wide - 1)) (centre pitch y r (r + z.high - 1)) (centre pitch x a (a + z.wide - 1)) (centre pitch y b (b + z.high - 1)) rest e s in
      let u : c ≡ a = centre-apart pitch x c a z.wide (least_pitch pitch fits) w f.0 in
      let v : r ≡ b = centre-apart pitch y r b z.high (least_pitch pitch fits) h f.1 in
      (λ i. placed z (u i) (v i))

  -- the only flash of its size that stands there
  only-flash : (q p : Rectangle) (spot : ℕ) (rest : List ℕ) → Drawn q → drop spot t ≡ centre_line pitch x y q ++ rest → In p (placements (size_of q))
      → stands t spot (centre_line pitch x y p) ≡ true → p ≡ q
  only-flash q p spot rest d e i s =
      let z : Size = size_of q in
      let o = placed_self q d in
      let g = in_placed (suc side) z p i in
      let e' : drop spot t ≡ centre_line pitch x y (placed z q.first q.bottom) ++ rest = e ∙ ap (λ (p : Rectangle). centre_line pitch x y p ++ rest) o in
      let s' : stands t spot (centre_line pitch x y (placed z g.0 g.1)) ≡ true = ap (λ (p : Rectangle). stands t spot (centre_line pitch x y p)) (sym g.2) ∙ s in
      g.2 ∙ placed-apart z g.0 g.1 q.first q.bottom spot rest (omega arith) (omega arith) e' s' ∙ sym o

  flash-placed : (q : Rectangle) → Drawn q → In q (placements (size_of q))
  flash-placed q d =
      subst (λ (p : Rectangle). In p (placements (size_of q))) (sym (placed_self q d)) (placed_in (suc side) (size_of q) q.first q.bottom (omega arith) (omega arith))

  flash-first : (q : Rectangle) (spot : ℕ) (rest : List ℕ) → Drawn q → centre_fits pitch x y q ≡ true → drop spot t ≡ centre_line pitch x y q ++ rest
      → placed_at pitch x y t (size_of q) spot ≡ some q
  unfolding placed_at
  flash-first q spot rest d f e =
      first-only
      (λ p. stands t spot (centre_line pitch x y p) && centre_fits pitch x y p)
      (placements (size_of q))
      (flash-placed q d)
      (and_both (stands t spot (centre_line pitch x y q)) (centre_fits pitch x y q) (stands_at t spot (centre_line pitch x y q) rest e) f)
      (λ p m u. only-flash q p spot rest d e m (and_left (stands t spot (centre_line pitch x y p)) (centre_fits pitch x y p) u))

  flash-there : (sizes : List Size) (s : Reached) (k : ℕ) (q : Rectangle) (rest : List ℕ) → s.current ≡ Some k → size_at sizes k ≡ size_of q → Drawn q → centre_fits pitch x y q ≡ true
      → drop s.at t ≡ centre_line pitch x y q ++ rest → flash_at pitch x y t sizes s ≡ some q
  unfolding flash_at
  flash-there sizes s k q rest h z d f e =
      ap (λ (o : Maybe ℕ). on_current o (λ j. placed_at pitch x y t (size_at sizes j) s.at)) h
      ∙ ap (λ (z : Size). placed_at pitch x y t z s.at) z
      ∙ flash-first q s.at rest d f e

  -- a select
  select-there : (count : ℕ) (s : Reached) (k : ℕ) (rest : List ℕ) → k < count → k ≤ s.used → is_current s k ≡ false → drop s.at t ≡ select_line k ++ rest → select_at t count s ≡ some k
  unfolding select_at
  select-there count s k rest l h c e =
      first-only
      (λ k. stands t s.at (select_line k) && may_select s k)
      (up_to count)
      (in_from 0 count k (omega arith) (omega arith))
      (rw (stands_at t s.at (select_line k) rest e, le-leb k s.used h, c))
      (λ j m u. bcase (stands t s.at (select_line j)) (λ v. select_apart t s.at j k rest e v) (λ v. absurd (false≢true (rw v at u))))

  no_select : (k spot b : ℕ) (rest : List ℕ) → eqb 68 b ≡ false → drop spot t ≡ b ∷ rest → stands t spot (select_line k) ≡ false
  unfolding select_line begins
  no_select k spot b rest f e = ap (begins (select_line k)) e ∙ rw f

  select-none : (count : ℕ) (s : Reached) (b : ℕ) (rest : List ℕ) → eqb 68 b ≡ false → drop s.at t ≡ b ∷ rest → select_at t count s ≡ none
  unfolding select_at
  select-none count s b rest f e =
      none_first
      (λ k. stands t s.at (select_line k) && may_select s k)
      (up_to count)
      (λ k m. ap (λ (u : Bool). u && may_select s k) (no_select k s.at b rest f e))

  -- the byte that begins a flash
  flash_byte : (q : Rectangle) (spot : ℕ) (rest : List ℕ) → drop spot t ≡ centre_line pitch x y q ++ rest → (more : List ℕ) × (drop spot t ≡ 88 ∷ more)
  unfolding flash_line
  flash_byte q spot rest e = (_, e)

  no_end : (spot : ℕ) (rest : List ℕ) → drop spot t ≡ 88 ∷ rest → stands t spot end_line ≡ false
  unfolding begins
  no_end spot rest e = ap (begins end_line) e

  -- the turns
  pub select-turn : (sizes : List Size) (s : Reached) (k : ℕ) (q : Rectangle) (rest : List ℕ) → k < length sizes → k ≤ s.used → is_current s k ≡ false → size_at sizes k ≡ size_of q → Drawn q
      → centre_fits pitch x y q ≡ true → drop s.at t ≡ select_line k ++ (centre_line pitch x y q ++ rest) → turned pitch x y t sizes s ≡ flash q (flashed pitch x y (selected s k) q)
  unfolding turned
  select-turn sizes s k q rest l h c z d f e =
      ap (after_select pitch x y t sizes s) (select-there (length sizes) s k (centre_line pitch x y q ++ rest) l h c e)
      ∙ ap (flash_turn pitch x y (selected s k)) (flash-there sizes (selected s k) k q rest refl z d f (passed t s.at (select_line k) (centre_line pitch x y q ++ rest) e))

  pub flash-turn : (sizes : List Size) (s : Reached) (k : ℕ) (q : Rectangle) (rest : List ℕ) → s.current ≡ Some k → size_at sizes k ≡ size_of q → Drawn q
      → centre_fits pitch x y q ≡ true → drop s.at t ≡ centre_line pitch x y q ++ rest → turned pitch x y t sizes s ≡ flash q (flashed pitch x y s q)
  unfolding turned
  flash-turn sizes s k q rest h z d f e =
      let b = flash_byte q s.at rest e in
      ap (after_select pitch x y t sizes s) (select-none (length sizes) s 88 b.0 refl b.1)
      ∙ ap (λ (u : Bool). cond u (end_turn t (length sizes) s) (flash_turn pitch x y s (flash_at pitch x y t sizes s))) (no_end s.at b.0 b.1)
      ∙ ap (flash_turn pitch x y s) (flash-there sizes s k q rest h z d f e)

  pub end-turn : (sizes : List Size) (s : Reached) → s.used ≡ length sizes → drop s.at t ≡ end_line → turned pitch x y t sizes s ≡ over
  unfolding turned
  end-turn sizes s n e =
      let there : stands t s.at end_line ≡ true = stands_at t s.at end_line [] e in
      let l : length (drop s.at t) ≡ 5 = ap length e in
      let m : s.at + length end_line ≡ length t = omega (arith, length-drop s.at t) in
      ap (after_select pitch x y t sizes s) (select-none (length sizes) s 77 (drop 1 end_line) refl e)
      ∙ rw (there, eq-eqb s.used (length sizes) n, eq-eqb (s.at + length end_line) (length t) m)
