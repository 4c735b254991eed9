-- What it means that a contract determines a function's outcome: its result, and what it leaves behind each reference to what it may change.
-- Over the plain reading of the contract that the check makes of the source, its `requires` and its `ensures`. Determined.antt states it of each function.
use mathlib.Core.Path.{◌≡◌}
use mathlib.Core.List.{List}
use Prim.Native.Nat.{ℕ}
use contract.Lifetimes.{Lfts}
use denote.Triple.Clauses.{Lasts, at_exit}
use borrow.Fn.Kinds.{ParamKind, ResultKind, In, Out, Dens, res_t, ended_of}

-- two outcomes that both meet the contract, on arguments that the function may be called with, are one
abbrev pub Determined : {n : ℕ} (ps : List (ParamKind n)) (r : ResultKind n) → In n ps → Out n ps r → Type 0
Determined {n} ps r Pre Post =
    (κs : Lfts n) (args : Dens κs ps) → Pre κs args
    → (x y : (res_t r κs).Denot) (v w : Lasts (ended_of n ps r) κs args)
    → Post κs args x (at_exit (ended_of n ps r) κs args v)
    → Post κs args y (at_exit (ended_of n ps r) κs args w)
    → (x ≡ y) × (v ≡ w)

-- what holds of every outcome that meets the contract, on arguments that the function may be called with: of the arguments, the result, and what is left behind each reference
abbrev pub Always : {n : ℕ} (ps : List (ParamKind n)) (r : ResultKind n) → In n ps → Out n ps r
    → ((κs : Lfts n) (args : Dens κs ps) → (res_t r κs).Denot → Lasts (ended_of n ps r) κs args → Type 0) → Type 0
Always {n} ps r Pre Post P =
    (κs : Lfts n) (args : Dens κs ps) → Pre κs args → (x : (res_t r κs).Denot) (v : Lasts (ended_of n ps r) κs args)
    → Post κs args x (at_exit (ended_of n ps r) κs args v) → P κs args x v

-- two functions of the same kinds do the same: on arguments that both may be called with, outcomes that meet their contracts are equal
abbrev pub Alike : {n : ℕ} (ps : List (ParamKind n)) (r : ResultKind n) → In n ps → Out n ps r → In n ps → Out n ps r → Type 0
Alike {n} ps r Pre Post Pre' Post' =
    (κs : Lfts n) (args : Dens κs ps) → Pre κs args → Pre' κs args
    → (x y : (res_t r κs).Denot) (v w : Lasts (ended_of n ps r) κs args)
    → Post κs args x (at_exit (ended_of n ps r) κs args v)
    → Post' κs args y (at_exit (ended_of n ps r) κs args w)
    → (x ≡ y) × (v ≡ w)
