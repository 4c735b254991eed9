-- A run: minimal brackets reduced one after the other, in any order (document 02, R-8; 000, section IV).
use Rattle.std.specs.Prelude.{◌≡◌, Bool, true, List, [], ◌∷◌, ℕ, zero, suc, ◌+◌, ◌≤◌, length}
use Rattle.lists.specs.Lists.{count}
use Rattle.method.specs.Intervals.{Interval, select, member}
use Rattle.method.specs.Dependent.{dependent, minimal}
use Rattle.method.specs.Reduce.{reduce}
use Rattle.method.specs.Final.{final, trace}

-- s is a set over the lines 0 to n: its intervals in order, each once, none beyond line n
abbrev pub Listed : ℕ → List Interval → Type 0
Listed n s = s ≡ select n (λ i. member i s)

-- from s, k reductions of minimal brackets, any one at each step, lead to t
pub data Run (n : ℕ) : List Interval → ℕ → List Interval → Type 0 where
  stay : {s : List Interval} → Run n s zero s
  step : {s t : List Interval} {k : ℕ} (d : Interval) → minimal s d ≡ true → Run n (reduce n s d) k t → Run n s (suc k) t

-- the same with its brackets: from s, reductions of the minimal brackets ds, one after the other, lead to t
pub data Reduces (n : ℕ) : List Interval → List Interval → List Interval → Type 0 where
  over : {s : List Interval} → Reduces n s [] s
  next : {s t ds : List Interval} (d : Interval) → minimal s d ≡ true → Reduces n (reduce n s d) ds t → Reduces n s (d ∷ ds) t

-- the same brackets equally often, whatever their order: each test passes as many of the ones as of the others (`same d` passes those that are d)
abbrev pub SameBag : List Interval → List Interval → Type 0
SameBag ds es = (p : Interval → Bool) → count p ds ≡ count p es

-- no bracket is dependent, so a run cannot go on
abbrev pub Ended : List Interval → Type 0
Ended t = (d : Interval) → dependent t d ≡ true → ⊥

-- no bracket is minimal: there is none to choose
abbrev pub Stuck : List Interval → Type 0
Stuck t = (d : Interval) → minimal t d ≡ true → ⊥

-- document 02, R-8, of a set: whatever minimal bracket is chosen at each step,
pub record AnyOrder (n : ℕ) (s : List Interval) : Type 0 where
  -- a run that cannot go on has come to rule 5's final set, after as many reductions as rule 5 makes;
  pub one_end : (k : ℕ) (t : List Interval) → Run n s k t → Stuck t → (t ≡ final n s) × (k ≡ length (trace n s))
  -- wherever a run has come to, it can go on to the final set, and will have made that many;
  pub goes_on : (k : ℕ) (t : List Interval) → Run n s k t → (j : ℕ) × Run n t j (final n s) × (k + j ≡ length (trace n s))
  -- no run makes more reductions than there are intervals, so none goes on for ever;
  pub short : (k : ℕ) (t : List Interval) → Run n s k t → k ≤ length s
  -- and the final set has no dependent bracket
  pub ended : Ended (final n s)
