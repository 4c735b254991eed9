-- What the verdicts say of squares: a good flash is one in the copper; no bad flash and no bare square is a cover; the first are the first.
-- Each test is opened once. The theorems of `keekaboor_check` and the proof of its subtraction use it.
use mathlib.Core.Path.{◌≡◌, refl, sym, ap, ap₂, ◌∙◌}
use mathlib.Core.Bool.{Bool, true, false, not, ◌&&◌}
use mathlib.Core.List.Memᴰ
use mathlib.Core.List.{List, [], ◌∷◌}
use mathlib.Core.Logic.{◌↔◌, ⊎_elim}
use mathlib.Core.Option.{none, some, some-injective}
use Prim.Native.Nat.{ℕ, zero, suc, ◌+◌, ◌-◌, ◌*◌, ◌/◌, ◌%◌, ◌≤◌, ◌<◌}
use native.Mathlib.Nat.{mul-add-mod_self_right, mod-eq_of_lt, div-eq_of_lt, mul-add-div_right, mul-le-mul_right, div-add-mod'}
use native.Mathlib.Omega.{arith}
use lib.Dec.{leb, ltb}
use lib.ListN.{length}
use borrow.Author.Tests.{leb-true, le-leb, lt-ltb, not-true}
use Rattle.lists.specs.Lists.{any, from}
use Rattle.lists.proofs.Truth.{bcase, ocase, never, missing, and_left, and_right, and_both}
use Rattle.lists.proofs.Members.{In, any_of, any_found, all_of, all_if}
use Rattle.lists.proofs.Pairs.{in_at}
use Rattle.lists.proofs.Positions.{at_in}
use Rattle.lists.proofs.Ranges.{in_from, from_in, first-from}
use Rattle.lists.proofs.Searches.{first-within, first-missed, first-nowhere}
use Rattle.method.specs.Intervals.{span}
use Rattle.grid.specs.Squares.{Area, InGrid, Rectangle, Square, square, Within, InCopper, Copper, Cover, rectangle_at}
use Rattle.grid.specs.Raster.{in_raster}
use Rattle.cover.specs.Slices.{copper_along}
use Rattle.listcheck.specs.Told.{Earlier, InSome}
use Rattle.listcheck.specs.Verdict.{copper_rows, upright, on_grid, good, bad_from, bad_line, between, holds_square, bare, first_bare, bare_square}
use Rattle.listcheck.proofs.Good.{upright-parts, grid_parts}

abbrev corner : Rectangle
corner = record { first = 0; last = 0; bottom = 0; top = 0 }

-- a flash holds the squares within it
module _ (low n high : ℕ) where
  between_true : between low n high ≡ true → (low ≤ n) × (n ≤ high)
  unfolding between
  between_true t = (leb-true low n (and_left (leb low n) (leb n high) t), leb-true n high (and_right (leb low n) (leb n high) t))

  true_between : low ≤ n → n ≤ high → between low n high ≡ true
  unfolding between
  true_between l u = and_both (leb low n) (leb n high) (le-leb low n l) (le-leb n high u)

module _ (s : Square) (q : Rectangle) where
  pub holds-within : holds_square s q ≡ true → Within q s
  unfolding holds_square
  holds-within t =
      let c = between q.first s.column q.last in
      let r = between q.bottom s.row q.top in
      let x = between_true q.first s.column q.last (and_left c r t) in
      let y = between_true q.bottom s.row q.top (and_right c r t) in
      record { from-left = x.0; to-right = x.1; from-below = y.0; to-above = y.1 }

  pub within-holds : Within q s → holds_square s q ≡ true
  unfolding holds_square
  within-holds i =
      and_both (between q.first s.column q.last) (between q.bottom s.row q.top)
      (true_between q.first s.column q.last i.from-left i.to-right)
      (true_between q.bottom s.row q.top i.from-below i.to-above)

module _ (a : Area) (q : Rectangle) where
  rows-copper : copper_rows a q ≡ true → (s : Square) → Within q s → Copper a s
  unfolding copper_rows copper_along
  rows-copper t s i =
      all_of (λ c. a c s.row)
      (all_of (λ y. copper_along a y (span q.first (suc q.last))) t (in_from q.bottom (suc q.top - q.bottom) s.row i.from-below (omega (arith, i.to-above, i.from-below))))
      (in_from q.first (suc q.last - q.first) s.column i.from-left (omega (arith, i.to-right, i.from-left)))

  copper-rows : q.first ≤ q.last → ((s : Square) → Within q s → Copper a s) → copper_rows a q ≡ true
  unfolding copper_rows copper_along
  copper-rows u h =
      all_if (λ y. copper_along a y (span q.first (suc q.last))) (from q.bottom (suc q.top - q.bottom)) (λ y m.
      let r = from_in q.bottom (suc q.top - q.bottom) m in
      all_if (λ c. a c y) (from q.first (suc q.last - q.first)) (λ c n.
      let p = from_in q.first (suc q.last - q.first) n in
      h (square c y) (record { from-left = p.0; to-right = omega (arith, p.0, p.1); from-below = r.0; to-above = omega (arith, r.0, r.1) })))

  -- the parts of the test
  module _ (w h : ℕ) where
    pub record Parts : Type 0 where
      pub wide : q.first ≤ q.last
      pub tall : q.bottom ≤ q.top
      pub narrow : q.last < w
      pub low : q.top < h
      pub copper : copper_rows a q ≡ true

    pub good-parts : good a w h q ≡ true → Parts
    unfolding good
    good-parts t =
        let both = and_left (upright q && on_grid w h q) (copper_rows a q) t in
        let up = upright-parts q (and_left (upright q) (on_grid w h q) both) in
        let on = grid_parts q w h (and_right (upright q) (on_grid w h q) both) in
        record { wide = up.0; tall = up.1; narrow = on.0; low = on.1; copper = and_right (upright q && on_grid w h q) (copper_rows a q) t }

    pub parts-good : Parts → good a w h q ≡ true
    unfolding good upright on_grid
    parts-good p =
        and_both (upright q && on_grid w h q) (copper_rows a q)
        (and_both (upright q) (on_grid w h q)
        (and_both (leb q.first q.last) (leb q.bottom q.top) (le-leb q.first q.last p.wide) (le-leb q.bottom q.top p.tall))
        (and_both (ltb q.last w) (ltb q.top h) (lt-ltb q.last w p.narrow) (lt-ltb q.top h p.low)))
        p.copper

    -- a good flash is a rectangle of copper squares
    pub good-copper : InGrid w h a → (good a w h q ≡ true) ↔ InCopper a q
    good-copper grid = (
      λ t. let p = good-parts t in record { wide = p.wide; high = p.tall; copper = rows-copper p.copper },
      λ i.
          let far = grid q.last q.top (i.copper (square q.last q.top) (record { from-left = i.wide; to-right = omega arith; from-below = i.high; to-above = omega arith })) in
          parts-good (record { wide = i.wide; tall = i.high; narrow = far.0; low = far.1; copper = copper-rows i.wide i.copper }),
    )

-- the first bad flash of a list whose first flash stands in a line
module _ (a : Area) (w h : ℕ) where
  pub record BadPlace (line : ℕ) (qs : List Rectangle) (found : ℕ) : Type 0 where
    pub place : ℕ
    pub there : found ≡ line + place
    pub inside : place < length qs
    pub is-bad : good a w h (rectangle_at qs place) ≡ false
    pub before : (j : ℕ) → j < place → good a w h (rectangle_at qs j) ≡ true

  pub first-bad : (line : ℕ) (qs : List Rectangle) {found : ℕ} → bad_from a w h line qs ≡ some found → BadPlace line qs found
  unfolding bad_from
  first-bad line [] e = absurd (missing refl e)
  first-bad line (x ∷ xs) {found} e =
      bcase (good a w h x)
      (λ t. let r = first-bad (suc line) xs (rw t at e) in record {
        place = suc r.place;
        there = omega (arith, r.there);
        inside = omega (arith, r.inside);
        is-bad = r.is-bad;
        before = earlier r.place t r.before;
      })
      (λ f. let z : line ≡ found = some-injective line found (rw f at e) in record {
        place = 0;
        there = omega arith;
        inside = omega arith;
        is-bad = f;
        before = λ j u. absurd (omega arith);
      })
    where
      earlier : (k : ℕ) → good a w h x ≡ true → ((j : ℕ) → j < k → good a w h (rectangle_at xs j) ≡ true)
          → (j : ℕ) → j < suc k → good a w h (rectangle_at (x ∷ xs) j) ≡ true
      earlier k t b zero u = t
      earlier k t b (suc j) u = b j (omega arith)

  pub all-good : (line : ℕ) (qs : List Rectangle) → bad_from a w h line qs ≡ none → (q : Rectangle) → In q qs → good a w h q ≡ true
  unfolding bad_from
  all-good line [] e q m = absurd (Memᴰ.not-nil m)
  all-good line (x ∷ xs) e q m =
      bcase (good a w h x)
      (λ t. ⊎_elim (λ p. ap (good a w h) p ∙ t) (λ n. all-good (suc line) xs (rw t at e) q n) (Memᴰ.cases_cons m))
      (λ f. absurd (missing (rw f at e) refl))

  pub none-bad : (line : ℕ) (qs : List Rectangle) → ((q : Rectangle) → In q qs → good a w h q ≡ true) → bad_from a w h line qs ≡ none
  unfolding bad_from
  none-bad line [] g = refl
  none-bad line (x ∷ xs) g = rw (g x (Memᴰ.head refl)) (none-bad (suc line) xs (λ q m. g q (Memᴰ.tail m)))

-- a square's place in the raster
module _ (w h : ℕ) (s : Square) (narrow : s.column < w) (low : s.row < h) where
  at_place : square ((s.row * w + s.column) % w) ((s.row * w + s.column) / w) ≡ s
  at_place =
      let c : (s.row * w + s.column) % w ≡ s.column = mul-add-mod_self_right s.row w s.column ∙ mod-eq_of_lt narrow in
      let d : s.column / w ≡ 0 = div-eq_of_lt narrow in
      let r : (s.row * w + s.column) / w ≡ s.row = mul-add-div_right (omega arith) s.row s.column ∙ omega arith in
      ap₂ square c r

  place_inside : s.row * w + s.column < w * h
  place_inside =
      let e : suc s.row * w ≤ h * w = mul-le-mul_right w low in
      omega arith

module _ (a : Area) (w h : ℕ) (qs : List Rectangle) where
  -- no square is bare: each copper square lies in a flash
  module _ (grid : InGrid w h a) where
    pub none_bare : bare_square a w h qs ≡ none → (s : Square) → Copper a s → any (holds_square s) qs ≡ true
    unfolding first_bare bare
    none_bare e s t =
        let g = grid s.column s.row t in
        let p : ℕ → Bool = λ i. bare a qs (square (i % w) (i / w)) in
        let i : ℕ = s.row * w + s.column in
        let n : first_bare a w h qs ≡ none = ocase (first_bare a w h qs) (λ o. o) (λ j o. absurd (missing e (ap (in_raster w) o))) in
        let f : bare a qs s ≡ false = ap (bare a qs) (sym (at_place w h s g.0 g.1)) ∙ first-missed p 0 (w * h) n i (omega arith) (omega (arith, place_inside w h s g.0 g.1)) in
        bcase (any (holds_square s) qs) (λ u. u) (λ u. absurd (never (and_both (a s.column s.row) (not (any (holds_square s) qs)) t (rw u)) f))

  pub bare-none : ((s : Square) → Copper a s → any (holds_square s) qs ≡ true) → bare_square a w h qs ≡ none
  unfolding first_bare bare
  bare-none held =
      ap (in_raster w)
      (first-nowhere (λ i. bare a qs (square (i % w) (i / w))) 0 (w * h) (λ i l u. not-bare (square (i % w) (i / w))))
    where
      not-bare : (s : Square) → bare a qs s ≡ false
      not-bare s = bcase (a s.column s.row) (λ t. rw (t, held s t)) (λ f. rw f)

  -- a square that lies in a flash is held, and back
  pub held-some : (s : Square) → any (holds_square s) qs ≡ true → InSome qs s
  held-some s t =
      let r = any_found (holds_square s) qs t in
      let p = at_in corner r.1 in
      (p.0, p.1, rw p.2 (holds-within s r.0 r.2))

  pub some-held : (s : Square) → InSome qs s → any (holds_square s) qs ≡ true
  some-held s i = any_of (holds_square s) (in_at qs corner i.0 i.1) (within-holds s (rectangle_at qs i.0) i.2)

  -- the first bare square is one, and no copper square before it is
  module _ (grid : InGrid w h a) (s : Square) (e : bare_square a w h qs ≡ some s) where
    at : (i : ℕ) × (first_bare a w h qs ≡ some i) × (s ≡ square (i % w) (i / w))
    at =
        ocase (first_bare a w h qs)
        (λ o. absurd (missing (ap (in_raster w) o) e))
        (λ i o. (i, o, some-injective s (square (i % w) (i / w)) (sym e ∙ ap (in_raster w) o)))

    here : bare a qs s ≡ true
    unfolding first_bare
    here = ap (bare a qs) at.2 ∙ (first-within (λ i. bare a qs (square (i % w) (i / w))) 0 (w * h) at.1).2

    pub bare-copper : Copper a s
    unfolding bare
    bare-copper = and_left (a s.column s.row) (not (any (holds_square s) qs)) here

    pub bare_unheld : any (holds_square s) qs ≡ false
    unfolding bare
    bare_unheld = not-true (any (holds_square s) qs) (and_right (a s.column s.row) (not (any (holds_square s) qs)) here)

    -- the places of the two squares are in the same order
    place-before : (t : Square) → t.column < w → Earlier t s → t.row * w + t.column < at.0
    place-before t u o =
        let q : s.row ≡ at.0 / w = ap (λ (z : Square). z.row) at.2 in
        let c : s.column ≡ at.0 % w = ap (λ (z : Square). z.column) at.2 in
        let d = div-add-mod' at.0 w in
        ⊎_elim
        (λ l. let k : suc t.row * w ≤ at.0 / w * w = mul-le-mul_right w (rw q at l) in omega (arith, d, k, u))
        (λ l. let k : t.row * w ≡ at.0 / w * w = ap (λ (r : ℕ). r * w) (l.0 ∙ q) in omega (arith, d, k, c, l.1))
        o

    pub before-held : (t : Square) → Earlier t s → Copper a t → any (holds_square t) qs ≡ true
    unfolding first_bare bare
    before-held t o y =
        let g = grid t.column t.row y in
        let p : ℕ → Bool = λ i. bare a qs (square (i % w) (i / w)) in
        let f : bare a qs t ≡ false =
        ap (bare a qs) (sym (at_place w h t g.0 g.1)) ∙ first-from p 0 (w * h) at.1 (t.row * w + t.column) (omega arith) (place-before t g.0 o) in
        bcase (any (holds_square t) qs) (λ u. u) (λ u. absurd (never (and_both (a t.column t.row) (not (any (holds_square t) qs)) y (rw u)) f))

-- a list is a cover exactly where no flash is bad and no square bare
module _ (a : Area) (w h : ℕ) (grid : InGrid w h a) (qs : List Rectangle) where
  pub covers : bad_line a w h qs ≡ none → bare_square a w h qs ≡ none → Cover a qs
  covers e f = record {
    inside = λ k u. (good-copper a (rectangle_at qs k) w h grid).0 (all-good a w h 1 qs e (rectangle_at qs k) (in_at qs corner k u));
    whole = λ s t. held-some a w h qs s (none_bare a w h qs grid f s t);
  }

  pub cover-good : Cover a qs → bad_line a w h qs ≡ none
  cover-good c = none-bad a w h 1 qs (λ q m.
      let p = at_in corner m in
      (good-copper a q w h grid).1 (rw p.2 at (c.inside p.0 p.1)))

  pub cover-held : Cover a qs → bare_square a w h qs ≡ none
  cover-held c = bare-none a w h qs (λ s t. some-held a w h qs s (c.whole s t))

-- a cover is one whatever the order of its rectangles
pub cover-same : (a : Area) (qs rs : List Rectangle) → ((q : Rectangle) → In q qs ↔ In q rs) → Cover a qs → Cover a rs
cover-same a qs rs same c = record {
  inside = λ k u.
      let p = at_in corner ((same (rectangle_at rs k)).1 (in_at rs corner k u)) in
      rw p.2 at (c.inside p.0 p.1);
  whole = λ s t.
      let r = c.whole s t in
      let p = at_in corner ((same (rectangle_at qs r.0)).0 (in_at qs corner r.0 r.1)) in
      (p.0, p.1, rw p.2 r.2);
}
