-- Worked examples, by evaluation: what the definitions give for the sets of document 000's examples and of document 01's areas.
-- One table and one theorem; then what becomes of two of the sets where a bracket that is not minimal is reduced first.
use mathlib.Core.Path.{◌≡◌, refl}
use mathlib.Core.List.{List, [], ◌∷◌, map}
use mathlib.Core.Option.{some}
use Prim.Native.Nat.{ℕ}
use Rattle.lists.specs.Lists.{keep, first}
use Rattle.method.specs.Intervals.{Interval, span, every}
use Rattle.method.specs.Dependent.{covered_inside, dependent, minimal}
use Rattle.method.specs.Reduce.{outermost, meets, reduce}
use Rattle.method.specs.Final.{leftmost, reduced, final, traced, trace}
use Rattle.method.specs.Runs.{Reduces, over, next}
use Rattle.method.specs.Strike.{held_once, strike, least, found, marked}

-- a set over the lines 0 to `lines`: its dependent and its minimal brackets, those that rule 5 reduces, its final set, and its marked columns as they are found
record Example : Type 0 where
  lines : ℕ
  set : List Interval
  dependents : List Interval
  minimals : List Interval
  reduces : List Interval
  ends : List Interval
  marks : List ℕ

-- a row as the definitions give it
abbrev computed : Example → Example
computed x =
    record {
      lines = x.lines;
      set = x.set;
      dependents = keep (dependent x.set) (every x.lines);
      minimals = keep (minimal x.set) (every x.lines);
      reduces = trace x.lines x.set;
      ends = final x.lines x.set;
      marks = map (λ m. m.column) (marked x.lines x.set);
    }

-- 000, example 3.2: "(1, 4), (2, 5), and (1, 5) are the only simple dependences"
abbrev ex3·2 : Example
ex3·2 =
    record {
      lines = 5;
      set = span 0 3 ∷ span 1 3 ∷ span 1 4 ∷ span 2 4 ∷ span 2 5 ∷ span 3 5 ∷ [];
      dependents = span 1 4 ∷ span 1 5 ∷ span 2 5 ∷ [];
      minimals = span 1 4 ∷ span 2 5 ∷ [];
      reduces = span 1 4 ∷ span 2 5 ∷ [];
      ends = span 0 3 ∷ span 1 3 ∷ span 2 4 ∷ span 3 5 ∷ [];
      marks = 0 ∷ 1 ∷ 2 ∷ 3 ∷ [];
    }

-- 000, example 3.6: "(0, 4), (0, 3), and (1, 4) are all simply dependent in S, but only (0, 3) and (1, 4) are minimal"
abbrev ex3·6 : Example
ex3·6 =
    record {
      lines = 4;
      set = span 0 1 ∷ span 0 3 ∷ span 0 4 ∷ span 1 3 ∷ span 1 4 ∷ span 3 4 ∷ [];
      dependents = span 0 3 ∷ span 0 4 ∷ span 1 4 ∷ [];
      minimals = span 0 3 ∷ span 1 4 ∷ [];
      reduces = span 0 3 ∷ span 1 4 ∷ span 0 4 ∷ [];
      ends = span 0 1 ∷ span 1 3 ∷ span 3 4 ∷ [];
      marks = 0 ∷ 1 ∷ 3 ∷ [];
    }

-- 000, example 3.9, case 2: "Reduction applied to D1, then D2", six intervals
abbrev ex3·9 : Example
ex3·9 =
    record {
      lines = 10;
      set = span 0 2 ∷ span 0 5 ∷ span 1 7 ∷ span 3 7 ∷ span 4 6 ∷ span 4 9 ∷ span 5 10 ∷ span 8 10 ∷ [];
      dependents = span 0 7 ∷ span 0 10 ∷ span 4 10 ∷ [];
      minimals = span 0 7 ∷ span 4 10 ∷ [];
      reduces = span 0 7 ∷ span 4 10 ∷ [];
      ends = span 0 2 ∷ span 1 5 ∷ span 3 7 ∷ span 4 6 ∷ span 5 9 ∷ span 8 10 ∷ [];
      marks = 0 ∷ 1 ∷ 3 ∷ 4 ∷ 5 ∷ 8 ∷ [];
    }

-- document 01: step
abbrev steps : Example
steps =
    record {
      lines = 2;
      set = span 0 1 ∷ span 0 2 ∷ span 1 2 ∷ [];
      dependents = span 0 2 ∷ [];
      minimals = span 0 2 ∷ [];
      reduces = span 0 2 ∷ [];
      ends = span 0 1 ∷ span 1 2 ∷ [];
      marks = 0 ∷ 1 ∷ [];
    }

-- document 01: stair
abbrev stair : Example
stair =
    record {
      lines = 3;
      set = span 0 1 ∷ span 0 2 ∷ span 1 3 ∷ span 2 3 ∷ [];
      dependents = span 0 3 ∷ [];
      minimals = span 0 3 ∷ [];
      reduces = span 0 3 ∷ [];
      ends = span 0 1 ∷ span 1 2 ∷ span 2 3 ∷ [];
      marks = 0 ∷ 1 ∷ 2 ∷ [];
    }

-- document 01: double step
abbrev double : Example
double =
    record {
      lines = 4;
      set = span 0 1 ∷ span 0 2 ∷ span 1 2 ∷ span 2 3 ∷ span 2 4 ∷ span 3 4 ∷ [];
      dependents = span 0 2 ∷ span 0 4 ∷ span 2 4 ∷ [];
      minimals = span 0 2 ∷ span 2 4 ∷ [];
      reduces = span 0 2 ∷ span 2 4 ∷ [];
      ends = span 0 1 ∷ span 1 2 ∷ span 2 3 ∷ span 3 4 ∷ [];
      marks = 0 ∷ 1 ∷ 2 ∷ 3 ∷ [];
    }

-- document 01: cup, whose first mark is not its leftmost
abbrev cup : Example
cup =
    record {
      lines = 3;
      set = span 0 1 ∷ span 0 3 ∷ span 2 3 ∷ [];
      dependents = [];
      minimals = [];
      reduces = [];
      ends = span 0 1 ∷ span 0 3 ∷ span 2 3 ∷ [];
      marks = 1 ∷ 0 ∷ 2 ∷ [];
    }

-- columns 2-4, 1-3, 0-2: one bracket is reduced twice
abbrev again : Example
again =
    record {
      lines = 3;
      set = span 0 1 ∷ span 0 2 ∷ span 0 3 ∷ span 1 3 ∷ span 2 3 ∷ [];
      dependents = span 0 3 ∷ [];
      minimals = span 0 3 ∷ [];
      reduces = span 0 3 ∷ span 0 3 ∷ [];
      ends = span 0 1 ∷ span 1 2 ∷ span 2 3 ∷ [];
      marks = 0 ∷ 1 ∷ 2 ∷ [];
    }

-- a set whose first dependent bracket by left line is not minimal
abbrev long : Example
long =
    record {
      lines = 7;
      set = span 0 2 ∷ span 0 3 ∷ span 1 6 ∷ span 2 4 ∷ span 2 5 ∷ span 4 5 ∷ span 4 7 ∷ span 6 7 ∷ [];
      dependents = span 0 5 ∷ span 0 7 ∷ span 2 5 ∷ [];
      minimals = span 2 5 ∷ [];
      reduces = span 2 5 ∷ span 0 7 ∷ [];
      ends = span 0 2 ∷ span 1 3 ∷ span 2 4 ∷ span 4 5 ∷ span 4 6 ∷ span 6 7 ∷ [];
      marks = 0 ∷ 1 ∷ 2 ∷ 5 ∷ 4 ∷ 6 ∷ [];
    }

abbrev table : List Example
table = ex3·2 ∷ ex3·6 ∷ ex3·9 ∷ steps ∷ stair ∷ double ∷ cup ∷ again ∷ long ∷ []

table-holds : map computed table ≡ table
unfolding covered_inside dependent minimal outermost meets reduce leftmost reduced final traced trace held_once strike least found marked
table-holds = refl

-- 000, example 3.6: "(0, 4) is minimal in S - {(1, 3)}"
minimal-without : keep (minimal (span 0 1 ∷ span 0 3 ∷ span 0 4 ∷ span 1 4 ∷ span 3 4 ∷ [])) (every 4) ≡ span 0 4 ∷ []
unfolding covered_inside dependent minimal
minimal-without = refl

-- the same set merged from the right: the brackets of rule 5 in another order, and its final set
from_right : Reduces 4 ex3·6.set (span 1 4 ∷ span 0 3 ∷ span 0 4 ∷ []) ex3·6.ends
unfolding covered_inside dependent minimal outermost meets reduce
from_right = next (span 1 4) refl (next (span 0 3) refl (next (span 0 4) refl over))

-- a bracket that is dependent and not minimal; the set after its reduction, in which nothing is dependent any more
record Early : Type 0 where
  of : Example
  bracket : Interval
  after : List Interval
  dependents : List Interval

-- 000, example 3.9, case 1: "Reduction procedure applied to D3", seven intervals
abbrev ex3·9-early : Early
ex3·9-early =
    record {
      of = ex3·9;
      bracket = span 0 10;
      after = span 0 2 ∷ span 1 5 ∷ span 3 7 ∷ span 4 6 ∷ span 4 7 ∷ span 5 9 ∷ span 8 10 ∷ [];
      dependents = [];
    }

-- seven intervals, where the rule gives six
abbrev long-early : Early
long-early =
    record {
      of = long;
      bracket = span 0 5;
      after = span 0 2 ∷ span 1 6 ∷ span 2 3 ∷ span 2 4 ∷ span 4 5 ∷ span 4 7 ∷ span 6 7 ∷ [];
      dependents = [];
    }

abbrev early : Early → Early
early x =
    let t = reduce x.of.lines x.of.set x.bracket in
    record { of = x.of; bracket = x.bracket; after = t; dependents = keep (dependent t) (every x.of.lines) }

early-holds : map early (ex3·9-early ∷ long-early ∷ []) ≡ ex3·9-early ∷ long-early ∷ []
unfolding covered_inside dependent outermost meets reduce
early-holds = refl

-- the bracket that a search by left line would take there
long-first : first (dependent long.set) (every long.lines) ≡ some long-early.bracket
unfolding covered_inside dependent
long-first = refl
