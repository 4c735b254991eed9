-- The tests on intervals, in numbers: what `holds`, `inside` and `same` say of the lines.
-- Each test is a conjunction of comparisons; every file on intervals crosses to numbers here.
use mathlib.Core.Path.{◌≡◌, ap}
use mathlib.Core.Bool.{true}
use Prim.Native.Nat.{ℕ, ◌≤◌, ◌<◌}
use native.Mathlib.Omega.{arith}
use lib.Dec.{leb, ltb, eqb}
use borrow.Author.Tests.{leb-true, ltb-true, eqb-true, le-leb, lt-ltb, eq-eqb}
use Rattle.lists.proofs.Truth.{bcase, never, and_left, and_right, and_both}
use Rattle.method.specs.Intervals.{Interval, proper, holds, inside, same}

pub proper-lines : (i : Interval) → proper i ≡ true → i.left < i.right
proper-lines i t = ltb-true i.left i.right t

pub lines-proper : (i : Interval) → i.left < i.right → proper i ≡ true
lines-proper i h = lt-ltb i.left i.right h

pub holds-lines : (c : ℕ) (i : Interval) → holds c i ≡ true → (i.left ≤ c) × (c < i.right)
holds-lines c i t =
    (leb-true i.left c (and_left (leb i.left c) (ltb c i.right) t), ltb-true c i.right (and_right (leb i.left c) (ltb c i.right) t))

pub lines_hold : (c : ℕ) (i : Interval) → i.left ≤ c → c < i.right → holds c i ≡ true
lines_hold c i l r = and_both (leb i.left c) (ltb c i.right) (le-leb i.left c l) (lt-ltb c i.right r)

pub inside-lines : (d i : Interval) → inside d i ≡ true → (d.left ≤ i.left) × (i.right ≤ d.right)
inside-lines d i t = (
  leb-true d.left i.left (and_left (leb d.left i.left) (leb i.right d.right) t),
  leb-true i.right d.right (and_right (leb d.left i.left) (leb i.right d.right) t),
)

pub lines-inside : (d i : Interval) → d.left ≤ i.left → i.right ≤ d.right → inside d i ≡ true
lines-inside d i l r = and_both (leb d.left i.left) (leb i.right d.right) (le-leb d.left i.left l) (le-leb i.right d.right r)

pub interval_path : (i j : Interval) → i.left ≡ j.left → i.right ≡ j.right → i ≡ j
interval_path i j l r = λ k. record { left = l k; right = r k }

pub same_path : (i j : Interval) → same i j ≡ true → i ≡ j
same_path i j t =
    interval_path i j
    (eqb-true i.left j.left (and_left (eqb i.left j.left) (eqb i.right j.right) t))
    (eqb-true i.right j.right (and_right (eqb i.left j.left) (eqb i.right j.right) t))

pub path_same : (i j : Interval) → i ≡ j → same i j ≡ true
path_same i j e =
    and_both (eqb i.left j.left) (eqb i.right j.right)
    (eq-eqb i.left j.left (ap (λ (k : Interval). k.left) e))
    (eq-eqb i.right j.right (ap (λ (k : Interval). k.right) e))

pub interval_discrete : (i j : Interval) → Dec (i ≡ j)
interval_discrete i j = bcase (same i j) (λ t. yes (same_path i j t)) (λ f. no (λ e. never (path_same i j e) f))

-- a bracket that holds a column's interval holds the column
pub inside-holds : (d i : Interval) (c : ℕ) → inside d i ≡ true → holds c i ≡ true → holds c d ≡ true
inside-holds d i c t h = let a = inside-lines d i t in let b = holds-lines c i h in lines_hold c d (omega arith) (omega arith)

pub inside-inside : (d e i : Interval) → inside d e ≡ true → inside e i ≡ true → inside d i ≡ true
inside-inside d e i t u = let a = inside-lines d e t in let b = inside-lines e i u in lines-inside d i (omega arith) (omega arith)

pub inside_self : (d : Interval) → inside d d ≡ true
inside_self d = lines-inside d d (omega arith) (omega arith)
