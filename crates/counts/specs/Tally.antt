-- Serves the code's counts alone: a count for each line, and how it changes when intervals that begin or end there come or go.
use Rattle.std.specs.Prelude.{◌≡◌, Bool, true, false, List, ℕ, zero, suc, ◌+◌, ◌-◌, ◌^◌, ◌≤◌, ◌<◌, eqb, length, get_or}
use Rattle.lists.specs.Lists.{count}
use Rattle.method.specs.Intervals.{Interval as Span, member}

-- a count h has become h': by k more, or by k fewer
abbrev pub Tallied : Bool → ℕ → ℕ → ℕ → Type 0
Tallied true h k h' = h' ≡ h + k
Tallied false h k h' = h' + k ≡ h

-- it can
abbrev pub Fits : Bool → ℕ → ℕ → Type 0
Fits true h k = h + k < 2 ^ 16
Fits false h k = k ≤ h

-- the same of every line, f of it
pub record Counted (more : Bool) (held : List ℕ) (f : ℕ → ℕ) (held' : List ℕ) : Type 0 where
  pub as_long : length held' ≡ length held
  pub each : (x : ℕ) → x < length held → Tallied more (get_or held x 0) (f x) (get_or held' x 0)

abbrev pub AllFit : Bool → List ℕ → (ℕ → ℕ) → Type 0
AllFit more held f = (x : ℕ) → x < length held → Fits more (get_or held x 0) (f x)

-- how many of a list begin at line x, and how many end there
abbrev pub beginning : List Span → ℕ → ℕ
beginning s x = count (λ i. eqb i.left x) s

abbrev pub ending : List Span → ℕ → ℕ
ending s x = count (λ i. eqb i.right x) s

-- a list of intervals has come into the counts of where they begin and end, or gone from them
pub record Changed (more : Bool) (begins ends : List ℕ) (s : List Span) (begins' ends' : List ℕ) : Type 0 where
  pub begun : Counted more begins (beginning s) begins'
  pub ended : Counted more ends (ending s) ends'

-- it can
pub record CanChange (more : Bool) (begins ends : List ℕ) (s : List Span) : Type 0 where
  pub short : (i : Span) → member i s ≡ true → (i.left < length begins) × (i.right < length ends)
  pub begun : AllFit more begins (beginning s)
  pub ended : AllFit more ends (ending s)

-- counts of set and bag: what begins in the set or ends in the bag rises, what ends in the set or begins in the bag falls
pub record Lined (s b : List Span) (rises falls : List ℕ) : Type 0 where
  pub up : (x : ℕ) → x < length rises → get_or rises x 0 ≡ beginning s x + ending b x
  pub down : (x : ℕ) → x < length falls → get_or falls x 0 ≡ ending s x + beginning b x

-- what has risen and not fallen at the lines before x
unfoldable pub held_to : List ℕ → List ℕ → ℕ → ℕ
held_to rises falls zero = 0
held_to rises falls (suc x) = held_to rises falls x + get_or rises x 0 - get_or falls x 0

-- column c's count: its left line is the last that tells
abbrev pub is_held_in : List ℕ → List ℕ → ℕ → ℕ
is_held_in rises falls c = held_to rises falls (suc c)

-- no more falls than was held, at every line before line n
pub record Steps (n : ℕ) (rises falls : List ℕ) : Type 0 where
  pub rise-wide : n ≤ length rises
  pub fall-wide : n ≤ length falls
  pub fits : (x : ℕ) → x < n → (get_or falls x 0 ≤ held_to rises falls x + get_or rises x 0) × (held_to rises falls x + get_or rises x 0 < 2 ^ 16)

-- line f lies neither beyond line l nor beyond a line at which an interval of s begins
pub record Since (l : ℕ) (s : List Span) (f : ℕ) : Type 0 where
  pub given : f ≤ l
  pub begun : (j : Span) → member j s ≡ true → f ≤ j.left

-- no column before line l is held once, and h is what is held before it
pub record Onward (n : ℕ) (rises falls : List ℕ) (l h : ℕ) : Type 0 where
  pub within : l ≤ n
  pub before : h ≡ held_to rises falls l
  pub none-once : (x : ℕ) → x < l → is_held_in rises falls x ≡ 1 → ⊥
