-- The sweep's step keeps what p and q mean: from line p on every column up to b is held twice, from line q on once, and the column before is not.
-- Line l's intervals all hold column l on, so their number beyond a column is told by their two greatest right lines. `stepped` goes by it.
use mathlib.Core.Path.{◌≡◌, ap, ◌∙◌}
use mathlib.Core.Bool.{true, false}
use mathlib.Core.List.{List}
use mathlib.Core.Logic.{by_cases}
use Prim.Native.Nat.{ℕ, suc, ◌+◌, ◌-◌, ◌≤◌, ◌<◌}
use native.Mathlib.Omega.{arith}
use native.Mathlib.Decide.{dec_lt, dec_le}
use Rattle.lists.proofs.Truth.{fails}
use Rattle.method.specs.Intervals.{Interval as Span, span}
use Rattle.method.specs.Dependent.{covered_inside, dependent}
use Rattle.method.specs.Runs.{Listed}
use Rattle.method.proofs.Sets.{has}
use Rattle.method.proofs.Boxes.{K-rows, K-no-rows}
use Rattle.method.proofs.Counts.{covered-box}
use Rattle.method.proofs.Lines.{holds-lines, lines_hold}
use Rattle.method.proofs.Minimal.{dependent-twice, dependent_if}
use Rattle.grid.specs.Lines.{line}
use Rattle.intervals.specs.declared.dependent.Tops.{Tops}
use Rattle.intervals.specs.declared.sweep.Held.{Held}
use Rattle.intervals.specs.Tops.{ends_beyond, Greatest}
use Rattle.intervals.specs.Sweep.{LeastHeld, Swept}
use Rattle.intervals.proofs.TopLines.{ends-box}

abbrev pub lowest : ℕ → ℕ → Held
lowest p q = record { twice = line p; once = line q }

module _ (n : ℕ) {s : List Span} (listed : Listed n s) (b : ℕ) where
  -- a column's count, with line l's intervals and without
  cover-row : (l c : ℕ) → l ≤ c → covered_inside s (span l b) c ≡ ends_beyond s l b c + covered_inside s (span (l + 1) b) c
  cover-row l c h =
      let e : l + 1 ≡ suc l = omega arith in
      omega (
        arith,
        covered-box n s listed l b c,
        ap (λ z. covered_inside s (span z b) c) e,
        covered-box n s listed (suc l) b c,
        ends-box n listed l b c,
        K-rows (has s) l (suc l) (suc c) c b (omega arith) (omega arith),
      )

  cover-none : (l c : ℕ) → c < l → covered_inside s (span l b) c ≡ 0
  cover-none l c h = covered-box n s listed l b c ∙ K-no-rows (has s) l (suc c) c b (omega arith)

  -- before the first line nothing is held
  pub swept_start : Swept s b b (lowest b b)
  swept_start = record { twice = from 2 (omega arith); once = from 1 (omega arith) }
    where
      from : (k : ℕ) → 0 < k → LeastHeld s k b b b
      from k h = record { upto = omega arith; held = λ c u v. absurd (omega arith); least = λ c e. omega (arith, cover-none b c (omega arith)) }

  module _ {l : ℕ} (here : l < b) {h : Held} (H : Swept s (l + 1) b h) where
    abbrev p : ℕ
    p = h.twice.0

    abbrev q : ℕ
    q = h.once.0

    pub below : l < q
    below =
        by_cases (dec_lt l q) (λ z. z)
        (λ z. absurd (omega (arith, H.once.held l (omega arith) here, cover-none (l + 1) l (omega arith))))

    ordered : q ≤ p
    ordered =
        by_cases (dec_le q p) (λ z. z)
        (λ z.
        let u = H.once.upto in
        let c = q - 1 in
        absurd (omega (arith, H.once.least c (omega arith), H.twice.held c (omega arith) (omega arith))))

    -- while a column of the bracket is held less than twice it is not dependent
    missed : {r : ℕ} → l < r → LeastHeld s 2 l b r → dependent s (span l b) ≡ false
    missed {r} low L =
        fails (dependent s (span l b))
        (λ z.
        let u = L.upto in
        let c = r - 1 in
        omega (arith, L.least c (omega arith), dependent-twice s (span l b) z c (lines_hold c (span l b) (omega arith) (omega arith))))

    abbrev Goes : Held → Type 0
    Goes g = (dependent s (span l b) ≡ false) × Swept s l b g

    goes : {x y : ℕ} → l < x → LeastHeld s 2 l b x → LeastHeld s 1 l b y → Goes (lowest x y)
    goes low two one = (missed low two, record { twice = two; once = one })

    module _ {t : Tops} (T : Greatest 0 (ends_beyond s l b) t) where
      -- a line beyond what the row reaches stays
      stays : {k r : ℕ} → t.greater.0 < r → l < r → LeastHeld s k (l + 1) b r → LeastHeld s k l b r
      stays u low L =
          record {
            upto = L.upto;
            held = λ c x y. omega (arith, cover-row l c (omega arith), L.held c x y);
            least = λ c e. omega (arith, cover-row l c (omega arith), L.least c e, T.none c (omega arith));
          }

      once-here : q ≤ t.greater.0 → LeastHeld s 1 l b l
      once-here u =
          record {
            upto = omega arith;
            held = λ c x y.
                by_cases (dec_le q c) (λ w. omega (arith, cover-row l c x, H.once.held c w y))
                (λ w. omega (arith, cover-row l c x, T.one c (omega arith) (omega arith)));
            least = λ c e. omega (arith, cover-none l c (omega arith));
          }

      -- held twice from where it was held once
      twice_there : p ≤ t.greater.0 → t.lesser.0 < q → LeastHeld s 2 l b q
      twice_there u v =
          let low = below in
          record {
            upto = H.once.upto;
            held = λ c x y.
                by_cases (dec_le p c) (λ w. omega (arith, cover-row l c (omega arith), H.twice.held c w y))
                (λ w. omega (arith, cover-row l c (omega arith), H.once.held c x y, T.one c (omega arith) (omega arith)));
            least = λ c e. omega (arith, cover-row l c (omega arith), H.once.least c e, T.single c (omega arith));
          }

      -- the row reaches neither line
      pub step_past : t.greater.0 < q → Goes h
      step_past u =
          let o = ordered in
          let w = below in
          goes (omega arith) (stays (omega arith) (omega arith) H.twice) (stays u w H.once)

      pub step-once : q ≤ t.greater.0 → t.greater.0 < p → Goes (lowest p l)
      step-once u v =
          let w = below in
          goes (omega arith) (stays v (omega arith) H.twice) (once-here u)

      pub step_twice : p ≤ t.greater.0 → t.lesser.0 < q → Goes (lowest q l)
      step_twice u v =
          let o = ordered in
          goes below (twice_there u v) (once-here (omega arith))

      -- both lines reached, the lower one twice over: the bracket from l is dependent
      pub step-found : p ≤ t.greater.0 → q ≤ t.lesser.0 → dependent s (span l b) ≡ true
      step-found u v = dependent_if s (span l b) here (λ c z. let w = holds-lines c (span l b) z in each c w.0 w.1)
        where
          each : (c : ℕ) → l ≤ c → c < b → 2 ≤ covered_inside s (span l b) c
          each c x y =
              by_cases (dec_le p c) (λ z. omega (arith, cover-row l c x, H.twice.held c z y))
              (λ z.
              by_cases (dec_le q c)
              (λ w. omega (arith, cover-row l c x, H.once.held c w y, T.one c (omega arith) (omega arith)))
              (λ w. omega (arith, cover-row l c x, T.two c (omega arith) (omega arith))))
